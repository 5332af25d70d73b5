use Rattle.std.proofs.Common.{ℕ, List, Some}
use Rattle.swarm_model.specs.Pages.{listed_bots}
use Rattle.swarm_model.specs.Views.{bot_view_of}
use Rattle.pool_queries.proofs.Listed.{name_of}
use Rattle.pool_queries.proofs.Pages.{IsPage}
use Rattle.pool_queries.proofs.bot_pages.list_bots.Given as goal

abbrev pub invariant-loop-place : goal.invariant-loop-place
invariant-loop-place g l =
    let s = g.P.ReadQueries.state l.pool in
    IsPage (listed_bots s) (λ (last : List ℕ). Some last) name_of (bot_view_of s) l.after l.last l._place l.items.items
