use Rattle.std.proofs.Common.{refl, ◌∙◌}
use Rattle.std.specs.Prelude.{IsTrue}
use Rattle.swarm_model.specs.Fits.{fits}
use Rattle.board_sessions.proofs.Reading.{known_at, view_within, by_views}
use Rattle.board_sessions.proofs.Asking.{refused_early}
use Rattle.board_sessions.proofs.answer.answer_request.Goals as goal

pub ask_view-requires-clause-place : goal.ask_view-requires-clause-place
ask_view-requires-clause-place g c =
    view_within (g.V.Views.known c.args.views.now) c.args.settings.now.pools c.in-Ok.call.asked.place (λ pool. IsTrue (fits pool c.in-Ok.call.asked.request)) c.requires.pools c.in-Ok.ensures.fits

pub ask_view-requires-clause-reads : goal.ask_view-requires-clause-reads
ask_view-requires-clause-reads g c = c.in-Ok.ensures.reads refl

pub ask_view-requires-clause-fits : goal.ask_view-requires-clause-fits
ask_view-requires-clause-fits g c =
    known_at (g.V.Views.known c.args.views.now) c.args.settings.now.pools c.in-Ok.call.asked.place (λ pool. IsTrue (fits pool c.in-Ok.call.asked.request)) c.requires.pools c.in-Ok.ensures.fits

pub returns-in-Ok-clause-answers : goal.returns-in-Ok-clause-answers
returns-in-Ok-clause-answers g c = λ body head held.
    c.ask_view.ensures.answers head body (c.in-Ok.ensures.after body head held)
    (by_views c.args.settings.now (g.V.Views.known c.args.views.now) head body c.requires.pools ∙ c.in-Ok.ensures.asks body head held)

pub returns-in-Err-clause-answers : goal.returns-in-Err-clause-answers
returns-in-Err-clause-answers g c = λ body head held.
    refused_early c.args.settings.now (g.V.Views.known c.args.views.now) head body c.in-Err.shown c.requires.pools (c.in-Err.ensures.refused body head held)

pub returns-in-Ok-clause-pools : goal.returns-in-Ok-clause-pools
returns-in-Ok-clause-pools g c = c.ask_view.ensures.pools ∙ c.requires.pools
