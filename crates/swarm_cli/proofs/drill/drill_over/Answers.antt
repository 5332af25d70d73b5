use Rattle.std.proofs.Common.{refl}
use Rattle.swarm_cli.proofs.Drilling.{drilled_so}
use Rattle.swarm_cli.proofs.drill.drill_over.Goals as goal

pub returns-in-Ok-new : goal.returns-in-Ok-new
returns-in-Ok-new g c = λ start cycles input_is.
    drilled_so _ c.deref.result.now c.end-machines.result.0.items start cycles c.args.input.items _ _ (g.L.Link.state c.args.console.now) (g.L.Link.state c.print_drill.new.console) _
    c.print_drill.result c.args.settings.now c.as_slice-pools.result.now c.counted_session-counted.result
    c.counted_session-counted.ensures.door c.in-Ok-new.ensures.fresh (c.in-Ok-new.ensures.opening refl) (c.in-Ok-new.ensures.nothing refl) c.requires.exact c.new-link.ensures.opened input_is
    c.counted_session-counted.ensures.counted c.deref.ensures.value c.end-machines.ensures.starts c.end-machines.ensures.logs c.as_slice-pools.ensures c.print_drill.ensures
