use Rattle.std.proofs.Common.{◌∙◌}
use Rattle.board_workers.proofs.Telling.{pools_kept}
use Rattle.board_workers.proofs.board.ViewSessionsLinkSessionsUnit.session.Goals as goal

pub returns-clause-may : goal.returns-clause-may
returns-clause-may g c = λ n may. pools_kept _ _ c.board_session.ensures.keeps ∙ may
