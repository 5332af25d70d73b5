-- The machine of a pool can be sent to the thread of a worker; and what was served.
use Rattle.std.proofs.Common.{refl, map}
use denote.Param.Send.{sendable}
use Rattle.swarm_machine.proofs.Sending.{pool_send}
use Rattle.swarm_history.specs.Machines.{logs_of, start_at, starts_of}
use Rattle.swarm_cli.specs.Boarding.{crews_served}
use Rattle.swarm_cli.proofs.boarding.run_crews.Goals as goal

pub serve_with_boards-requires-send-M : goal.serve_with_boards-requires-send-M
serve_with_boards-requires-send-M g c κs within = search (pool_send, sendable) depth 20

pub returns-in-Ok-serve_with_boards : goal.returns-in-Ok-serve_with_boards
returns-in-Ok-serve_with_boards g c =
    let machines = map _ c.in-Ok-serve_with_boards.machines.items in
    rw (← c.as_str.ensures.value) (crews_served (record {
      starts = start_at (starts_of machines);
      begins = c.in-Ok-serve_with_boards.ensures.starts;
      logs = logs_of machines;
      stopped = c.in-Ok-serve_with_boards.stop;
      serves = c.in-Ok-serve_with_boards.ensures.serves;
      clock = refl;
      summary = rw (← c.as_slice-pools.ensures, ← c.deref.ensures.value, ← c.work_status.ensures) c.print_summary.ensures;
    }))
