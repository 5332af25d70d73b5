-- The exchanges of a connection, from its served requests.
use Rattle.std.proofs.Common.{◌≡◌, ℕ, List, [], ◌∷◌, length, refl, sym, ap, ◌∙◌, subst, arith}
use Rattle.std.proofs.lemmas.List.{length-map}
use Rattle.sw_base.specs.Link.{LinkState}
use Rattle.pool_views.specs.Views.{Known}
use Rattle.swarm_http.specs.declared.connection_counts.ConnectionCounts.{ConnectionCounts}
use Rattle.swarm_http.specs.Replies.{Shown}
use Rattle.swarm_http.specs.Served.{Served}
use Rattle.swarm_http.specs.Endings.{Transfers, EndsAs}
use Rattle.swarm_http.specs.Conversing.{DoesEach, Converses}
use Rattle.board_sessions.specs.Steps.{Answers}
use Rattle.board_sessions.specs.Boards.{BoardExchange, served_of, served, Chain, IsBoardAnswered, KeepsViews}
use Rattle.board_sessions.proofs.Keeping.{chain_keeps}

-- exchanges whose requests and replies are these
record Exchanges (old : List Known) (all : List Served) (new : List Known) : Type 0 where
  xs : List BoardExchange
  are : served xs ≡ all
  chain : Chain old xs new

same_served : (s : Served) (status : ℕ) (shown : Shown) → s.status ≡ status → s.shown ≡ shown
    → record { text = s.text; body = s.body; head = s.head; status = status; shown = shown } ≡ s
same_served s status shown a b = rw (sym a, sym b) refl

exchanges : {S : Type 0} (f : S → List Known) (old new : S) (all : List Served)
    → DoesEach (λ head body status shown x y. Answers head body status shown (f x) (f y)) old all new → Exchanges (f old) all (f new)
exchanges f old new [] same = record { xs = []; are = refl; chain = ap f same }
exchanges f old new (s ∷ all) d =
    let a = d.2 in
    let x : BoardExchange = record { text = s.text; body = s.body; head = s.head; outcome = a.outcome } in
    let rest = exchanges f d.0 new all d.3 in
    record {
      xs = x ∷ rest.xs;
      are = ap (λ (first : Served). first ∷ served rest.xs) (same_served s _ _ a.status_is a.shown_is) ∙ ap (λ (more : List Served). s ∷ more) rest.are;
      chain = (f d.0, d.1, a.acts, rest.chain);
    }

-- what was answered by views is what a connection to a board does
pub board_answered : {S : Type 0} (f : S → List Known) (old new : S) (s t : LinkState) (counted : ConnectionCounts)
    → Converses (λ head body status shown x y. Answers head body status shown (f x) (f y)) old new s t counted
    → IsBoardAnswered (record { link = s; views = f old }) (record { link = t; views = f new }) counted.ended
board_answered f old new s t counted c =
    let e = exchanges f old new c.xs c.each in
    record {
      xs = e.xs;
      rest = c.rest;
      sent = c.sent;
      transfers = subst (λ all. Transfers all [] c.rest c.sent s t) (sym e.are) c.transfers;
      chain = e.chain;
      ends = subst (λ all. EndsAs 65536 counted.ended all c.rest c.sent s t) (sym e.are) c.ends;
      few = let n : length e.xs ≡ length c.xs = sym (length-map e.xs served_of) ∙ ap length e.are in omega (arith, n, c.few);
      faults = c.faults;
    }

-- and no view goes back
pub views_kept : {S : Type 0} (f : S → List Known) (old new : S) (s t : LinkState) (counted : ConnectionCounts)
    → Converses (λ head body status shown x y. Answers head body status shown (f x) (f y)) old new s t counted → KeepsViews (f old) (f new)
views_kept f old new s t counted c = let e = exchanges f old new c.xs c.each in chain_keeps (f old) e.xs (f new) e.chain
