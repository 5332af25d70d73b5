use Rattle.std.proofs.Common.{refl}
use Rattle.std.specs.Prelude.{string_bytes}
use Rattle.command_words.specs.ClientWork.{work_of}
use Rattle.remote_commands.specs.Clients.{carried_out}
use Rattle.remote_commands.proofs.OptionFaults.{client_told}
use Rattle.remote_commands.proofs.clients.run_client.Goals as goal

pub returns-in-Ok : goal.returns-in-Ok
returns-in-Ok g c = λ store listener runner. carried_out c.in-Ok.ensures.fits (record {
  address = (string_bytes c.in-Ok.found.dial, string_bytes c.in-Ok.found.host);
  address_is = c.in-Ok.ensures.address;
  by = record { address = c.as_str-address.result; host = c.as_str-host.result; caller = c.as_str-caller.result };
  dials = c.as_str-address.ensures.value;
  host_is = c.as_str-host.ensures.value;
  caller_is = c.as_str-caller.ensures.value;
  done = c.do_work.ensures;
}) (record { store = refl; listener = refl; runner = refl })

pub returns-in-Err : goal.returns-in-Err
returns-in-Err g c = λ store listener runner.
    client_told (g.F.Files.state c.args.files.now) store (g.L.Link.state c.args.console.now) (g.L.Link.state c.print_option_fault.new.console) (g.C.Clock.ahead c.args.clock.now) listener
    (g.W.Dialer.state c.args.dialer.now) (g.C.Clock.waited c.args.clock.now) runner c.print_option_fault.result (string_bytes c.args.words.now.server) (string_bytes c.args.words.now.caller)
    (work_of c.args.words.now.work) c.in-Err.why c.in-Err.ensures.fits c.print_option_fault.ensures
