use Rattle.board_sessions.proofs.Chains.{board_answered, views_kept}
use Rattle.board_sessions.proofs.session.board_session.Goals as goal

pub returns-clause-answered : goal.returns-clause-answered
returns-clause-answered g c = board_answered (λ x. g.V.Views.known x.0) _ _ _ _ c.converse.result c.converse.ensures

pub returns-clause-keeps : goal.returns-clause-keeps
returns-clause-keeps g c = views_kept (λ x. g.V.Views.known x.0) _ _ _ _ c.converse.result c.converse.ensures
