-- A view never goes back.
use Rattle.std.proofs.Common.{◌≡◌, ◌⊎◌, inl, inr, ℕ, zero, suc, List, [], ◌∷◌, ◌++◌, set, Some, Result, Ok, Err, refl, sym, ap, ◌∙◌, subst, append-nil, append_assoc}
use Rattle.std.specs.Prelude.{slice_get}
use Rattle.std.specs.List.{All}
use Rattle.std.specs.declared.alloc.AllocError.{AllocError}
use Rattle.std.specs.Allocator.{alloc_error}
use mathlib.Core.List.{IsPrefix}
use Rattle.httparse.specs.Grammar.{RequestHead}
use Rattle.swarm_model.specs.declared.entry.Entry.{Entry}
use Rattle.pool_views.specs.declared.views.Viewed.{Viewed}
use Rattle.swarm_model.specs.Bases.{Base}
use Rattle.swarm_model.specs.History.{IsLegal}
use Rattle.pool_views.specs.Views.{Query, Known, MayShow, Shows, IsAsked, IsAsk}
use Rattle.board_sessions.specs.Outcomes.{BoardOutcome, rejected, viewed, no_body_memory, no_reply_memory, Acts}
use Rattle.board_sessions.specs.Boards.{BoardExchange, Chain, KeepsView, KeepsViews}

begins_itself : {A : Type 0} (xs : List A) → IsPrefix xs xs
begins_itself xs = ([], append-nil xs)

begins_trans : {A : Type 0} (a b c : List A) → IsPrefix a b → IsPrefix b c → IsPrefix a c
begins_trans a b c p q = (p.0 ++ q.0, sym (append_assoc a p.0 q.0) ∙ ap (λ l. l ++ q.0) p.1 ∙ q.1)

-- ---- one view

keeps_itself : (view : Known) → KeepsView view view
keeps_itself view = record { start = refl; told = refl; seen = begins_itself view.seen; shows = inl refl }

-- what may be shown by a view that was informed so may be shown by the view as it was
shows_on : (u v : Known) (entries : List Entry) → KeepsView u v → MayShow v entries → MayShow u entries
shows_on u v entries x m = record {
  legal = subst (λ (b : Base). IsLegal b.rows entries) x.start m.legal;
  seen = begins_trans u.seen v.seen entries x.seen m.seen;
  told = subst (λ (told : List (List Entry)). All (λ list. IsPrefix list entries) told) x.told m.told;
}

keeps_trans : (u v w : Known) → KeepsView u v → KeepsView v w → KeepsView u w
keeps_trans u v w x y = record {
  start = y.start ∙ x.start;
  told = y.told ∙ x.told;
  seen = begins_trans u.seen v.seen w.seen x.seen y.seen;
  shows = elim y.shows [
    | inl same ↦ elim x.shows [
      | inl before ↦ inl (same ∙ before)
      | inr m ↦ inr (subst (MayShow u) (sym same) m)
    ]
    | inr m ↦ inr (shows_on u v w.seen x m)
  ];
}

sees_on : (u v : Known) (query : Query) (result : Result Viewed AllocError) → Shows u v query result → (v.seen ≡ u.seen) ⊎ MayShow u v.seen
sees_on u v query (Ok shown) s = inr s.entries
sees_on u v query (Err error) s = s

begins_seen : (u v : Known) → (v.seen ≡ u.seen) ⊎ MayShow u v.seen → IsPrefix u.seen v.seen
begins_seen u v (inl same) = subst (IsPrefix u.seen) (sym same) (begins_itself u.seen)
begins_seen u v (inr m) = m.seen

-- a question to a view
asked_keeps : (u v : Known) (query : Query) (result : Result Viewed AllocError) → IsAsked u v query result → KeepsView u v
asked_keeps u v query result a =
    let shows = sees_on u v query result a.shows in
    record {
      start = ap (λ (k : Known). k.start) a.same;
      told = ap (λ (k : Known). k.told) a.same;
      seen = begins_seen u v shows;
      shows = shows;
    }

-- ---- all views

keep_themselves : (views : List Known) → KeepsViews views views
keep_themselves [] = tt
keep_themselves (view ∷ views) = (keeps_itself view, keep_themselves views)

keep_trans : (a b c : List Known) → KeepsViews a b → KeepsViews b c → KeepsViews a c
keep_trans [] [] c x y = y
keep_trans [] (v ∷ b) c x y = absurd x
keep_trans (u ∷ a) [] c x y = absurd x
keep_trans (u ∷ a) (v ∷ b) [] x y = absurd y
keep_trans (u ∷ a) (v ∷ b) (w ∷ c) x y = (keeps_trans u v w x.0 y.0, keep_trans a b c x.1 y.1)

-- one view changes
one_keeps : (views : List Known) (place : ℕ) (from to : Known) → slice_get views place ≡ Some from → KeepsView from to → KeepsViews views (set views place to)
one_keeps [] place from to there x = absurd (cc)
one_keeps (view ∷ views) zero from to there x =
    let is : from ≡ view = cc in
    (subst (λ (v : Known). KeepsView v to) is x, keep_themselves views)
one_keeps (view ∷ views) (suc place) from to there x = (keeps_itself view, one_keeps views place from to there x)

ask_keeps : (old new : List Known) (place : ℕ) (query : Query) (result : Result Viewed AllocError) → IsAsk old new place query result → KeepsViews old new
ask_keeps old new place query result a =
    subst (KeepsViews old) (sym a.views) (one_keeps old place a.from a.to a.there (asked_keeps a.from a.to query result a.asked))

same_keep : (old new : List Known) → new ≡ old → KeepsViews old new
same_keep old new same = subst (KeepsViews old) (sym same) (keep_themselves old)

acts_keep : (head : RequestHead) (body : List ℕ) (outcome : BoardOutcome) (old new : List Known) → Acts head body outcome old new → KeepsViews old new
acts_keep head body (rejected why) old new a = same_keep old new a.1
acts_keep head body (viewed asks result) old new a = ask_keeps old new asks.asked.place _ (Ok result) a.asked
acts_keep head body no_body_memory old new a = same_keep old new a
acts_keep head body (no_reply_memory asks) old new a = ask_keeps old new asks.asked.place _ (Err alloc_error) a.asked

-- the whole connection
pub chain_keeps : (old : List Known) (xs : List BoardExchange) (new : List Known) → Chain old xs new → KeepsViews old new
chain_keeps old [] new same = same_keep old new same
chain_keeps old (x ∷ xs) new c = keep_trans old c.0 new (acts_keep x.head x.body x.outcome old c.0 c.2) (chain_keeps c.0 xs new c.3)
