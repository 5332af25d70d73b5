-- The views of posters that were just made.
use Rattle.std.proofs.Common.{◌≡◌, ◌∙◌, map, ap, subst}
use Rattle.std.specs.List.{All}
use Rattle.swarm_boards.specs.contracts.board_views.BoardViewsViews.TheImpl.{ghosts}
use Rattle.board_workers.specs.Posts.{new_posters, view_of}
use Rattle.board_workers.proofs.Views.{views_new}
use Rattle.board_workers.proofs.making.prepare.Goals as goal

pub returns-clause-views : goal.returns-clause-views
returns-clause-views g c =
    let are = ap (map view_of) c.in_ok-posters.ensures ∙ ap (λ pools. map view_of (new_posters pools)) c.in_ok-server.ensures.settings ∙ views_new c.args.settings.now.pools in
    subst (λ known. All (λ v. ghosts.known v ≡ known) c.in_ok-views.views.items) are c.in_ok-views.ensures.views
