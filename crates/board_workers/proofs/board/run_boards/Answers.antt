use Rattle.board_workers.specs.Boards.{HasServedBoard}
use Rattle.swarm_workers.proofs.Slices.{zip_moved}
use Rattle.board_workers.proofs.board.run_boards.Goals as goal

pub returns : goal.returns
returns g c = zip_moved _ (HasServedBoard c.args.connections) c.args.boards.now c.for_each_mut.new.s (search)
    (λ i d lt. let k = (c.for_each_mut.ensures i d lt).1 in (k.argument.now, k.after_call.now, k.argument_is, k.left, k.call))
