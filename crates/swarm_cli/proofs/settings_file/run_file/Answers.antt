-- The line for a file that is not there, and for one that is too long.
use Rattle.swarm_cli.proofs.settings_file.run_file.Goals as goal

pub returns-in-Ok-None : goal.returns-in-Ok-None
returns-in-Ok-None g c = record {
  loaded = c.load.result;
  loads = c.load.ensures;
  runs = rw (c.in-Ok-None.is, c.in-Ok-None.field-0-is) (c.print_refusal.ensures (g.C.Clock.ahead c.args.clock.now) (g.N.Listener.state c.args.listener.now) (g.P.Store.state c.args.store.now));
}

pub returns-in-Err-TooLong : goal.returns-in-Err-TooLong
returns-in-Err-TooLong g c = record {
  loaded = c.load.result;
  loads = c.load.ensures;
  runs = rw (c.in-Err-TooLong.is, c.in-Err-TooLong.field-0-is) (c.print_refusal-in-Err-TooLong.ensures (g.C.Clock.ahead c.args.clock.now) (g.N.Listener.state c.args.listener.now) (g.P.Store.state c.args.store.now));
}
