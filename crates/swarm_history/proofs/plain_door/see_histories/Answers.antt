-- The log of the next machine is legal, and in the end that of each.
use Rattle.std.proofs.Common.{arith}
use Rattle.swarm_model.specs.MachineState.{IsHistory}
use Rattle.swarm_history.proofs.Restoring.{one_more, all_passed}
use Rattle.swarm_history.proofs.plain_door.see_histories.Goals as goal

pub loop-place-preserved : goal.loop-place-preserved
loop-place-preserved g c =
    one_more g.M.Machine.kept IsHistory c.args.machines.now c.loop-place.place c.index-machines-place.result c.loop-place-test.true c.index-machines-place.is c.loop-place.invariant
    c.length-length.ensures.history

pub returns : goal.returns
returns g c =
    let end = c.loop-place.auto.place-end in
    all_passed g.M.Machine.kept IsHistory c.args.machines.now c.loop-place.place (omega (arith, end)) c.loop-place.invariant
