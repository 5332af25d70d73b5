-- What is known once all have served.
use Rattle.std.proofs.Common.{refl, arith}
use Rattle.swarm_workers.specs.Crews.{HasWorked}
use Rattle.swarm_workers.proofs.Crewing.{doors_after, new_calls, new_settings}
use Rattle.swarm_workers.proofs.Slices.{length_zip}
use Rattle.board_workers.specs.Boards.{HasServedBoard}
use Rattle.board_workers.proofs.Closing.{beside_of}
use Rattle.board_workers.proofs.Shutting.{enough_for}
use Rattle.board_workers.proofs.ending.serve_beside.Goals as goal

pub run_beside-workers-requires-clause-settings : goal.run_beside-workers-requires-clause-settings
run_beside-workers-requires-clause-settings g c κs within =
    new_settings _ _ c.args.settings.now _ 0 c.args.workers.items c.args.workers.items refl c.requires.doors c.requires.same

pub run_beside-workers-requires-clause-calls : goal.run_beside-workers-requires-clause-calls
run_beside-workers-requires-clause-calls g c κs within =
    new_calls _ _ _ 0 c.args.workers.items c.args.workers.items refl c.requires.doors

pub end_all-requires-clause-some : goal.end_all-requires-clause-some
end_all-requires-clause-some g c κs within =
    let same = length_zip _ (HasWorked c.args.connections) c.args.workers.items c.run_beside-workers.result.0.items c.run_beside-workers.ensures.workers in
    omega (arith, same, c.requires.some)

pub end_all-requires-clause-doors : goal.end_all-requires-clause-doors
end_all-requires-clause-doors g c κs within =
    doors_after _ _ _ c.args.connections c.args.workers.items c.args.workers.items c.run_beside-workers.result.0.items c.run_beside-workers.result.0.items refl refl c.requires.doors c.run_beside-workers.ensures.workers

pub end_all-requires-clause-out : goal.end_all-requires-clause-out
end_all-requires-clause-out g c κs within =
    let same = length_zip _ (HasWorked c.args.connections) c.args.workers.items c.run_beside-workers.result.0.items c.run_beside-workers.ensures.workers in
    let boards_same = length_zip _ (HasServedBoard c.args.plan.connections) c.args.boards.items c.run_beside-workers.result.1.0.items c.run_beside-workers.ensures.boards in
    enough_for _ _ _ (omega (arith, same, boards_same)) c.requires.out

pub returns-clause-served : goal.returns-clause-served
returns-clause-served g c =
    beside_of _ _ c.args.connections c.args.plan.connections _ c.args.workers.items c.run_beside-workers.result.0.items c.args.boards.items c.run_beside-workers.result.1.0.items _ _ _ _ _ _
    c.run_beside-workers.ensures.workers c.run_beside-workers.ensures.boards c.run_beside-workers.ensures.reads c.end_all.ensures.joined c.end_all.ensures.shuts c.end_all.ensures.stop
