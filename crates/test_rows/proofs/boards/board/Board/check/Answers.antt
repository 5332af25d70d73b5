use Rattle.std.proofs.Common.{◌∙◌}
use Rattle.test_rows.proofs.OnePool.{same_pools}
use Rattle.test_rows.proofs.boards.board.Board.check.Goals as goal

pub invariant_of-self : goal.invariant_of-self
invariant_of-self c = record {
  rules = c.args.self.now.rules;
  pools = same_pools _ _ c.board_session.ensures.keeps ∙ c.args.self.now.pools;
}
