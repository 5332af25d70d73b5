-- The line for a pool that is too large.
use Rattle.swarm_cli.proofs.boarding.run_with_boards.Goals as goal

pub returns-in-Some : goal.returns-in-Some
returns-in-Some g c = λ store.
    rw (← c.as_slice.ensures, ← c.in-Some.ensures) (c.print_large.ensures (g.C.Clock.ahead c.args.clock.now) (g.N.Listener.state c.args.listener.now) store)
