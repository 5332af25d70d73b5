-- Sessions, as they are told of what they left.
use Rattle.std.proofs.Common.{◌≡◌, ℕ, ◌≤◌, List, [], ◌∷◌, map, refl, sym, ap, ◌∙◌, subst}
use Rattle.std.specs.List.{AllByRecursion}
use Rattle.std.proofs.lemmas.List.{length-map}
use Rattle.sw_base.specs.Link.{LinkState}
use Rattle.sw_base.specs.Told.{Loses, Gains}
use Rattle.sw_base.specs.Acceptors.{AcceptorState}
use Rattle.board_workers.specs.Types.{PoolSettings, Ended, Worked}
use Rattle.pool_views.specs.Views.{Known, pools_of}
use Rattle.swarm_workers.specs.Visits.{Visit, TellsFault, IsFaultCounted, Follow, HasServed}
use Rattle.swarm_workers.proofs.Slices.{map_both}
use Rattle.swarm_workers.proofs.Visiting.{all_mapped, visit_told}
use Rattle.board_sessions.specs.Boards.{BoardState, IsBoardAnswered, KeepsViews}

-- a session that ended by a fault tells it
pub tells_fault : (v w : BoardState) (ending : Ended) → IsBoardAnswered v w ending → TellsFault v.link w.link ending
tells_fault v w ending x = record {
  reads = λ e. (subst (IsBoardAnswered v w) e x).ends.0;
  writes = λ e. (subst (IsBoardAnswered v w) e x).ends.0;
}

-- views that do not go back are of the same pools
pub pools_kept : (old new : List Known) → KeepsViews old new → pools_of new ≡ pools_of old
pools_kept [] [] keeps = refl
pools_kept [] (w ∷ new) keeps = absurd keeps
pools_kept (v ∷ old) [] keeps = absurd keeps
pools_kept (v ∷ old) (w ∷ new) keeps =
    ap (λ (s : PoolSettings). s ∷ pools_of new) (ap (λ b. b.rows.settings) keeps.0.start) ∙ ap (λ (l : List PoolSettings). v.start.rows.settings ∷ l) (pools_kept old new keeps.1)

module _ {X Y : Type 0} (look : X → Y) (does : LinkState → LinkState → Ended → Y → Y → Type 0) where
  -- what a session does, by what is told of that over which it is held
  abbrev pub Looked : LinkState → LinkState → Ended → X → X → Type 0
  Looked first last ending x y = does first last ending (look x) (look y)

  follow_told : (x y : X) (visits : List (Visit X)) → Follow Looked x y visits → Follow does (look x) (look y) (map (visit_told look) visits)
  follow_told x y [] so = ap look so
  follow_told x y (v ∷ visits) so = (so.0, follow_told v.after y visits so.1)

  counted_told : (visits : List (Visit X)) → AllByRecursion (λ (v : Visit X). IsFaultCounted v.first v.last v.ending) visits
      → AllByRecursion (λ (v : Visit Y). IsFaultCounted v.first v.last v.ending) (map (visit_told look) visits)
  counted_told visits all = all_mapped (λ (v : Visit X). IsFaultCounted v.first v.last v.ending) (λ (v : Visit Y). IsFaultCounted v.first v.last v.ending) (visit_told look) visits (λ v c. c) all

  pub served_told : (s t : AcceptorState) (x y : X) (n : ℕ) (worked : Worked) → HasServed Looked s t x y n worked → HasServed does s t (look x) (look y) n worked
  served_told s t x y n worked h = record {
    visits = map (visit_told look) h.visits;
    number = length-map h.visits (visit_told look) ∙ h.number;
    few = subst (λ k. k ≤ n) (sym (length-map h.visits (visit_told look))) h.few;
    coming = subst (Loses s.coming t.coming) (sym (map_both (λ (v : Visit Y). v.first) (visit_told look) h.visits)) h.coming;
    served = subst (Gains s.served t.served) (sym (map_both (λ (v : Visit Y). v.last) (visit_told look) h.visits)) h.served;
    out = h.out;
    counted = counted_told h.visits h.counted;
    sessions = follow_told x y h.visits h.sessions;
    stops = h.stops;
  }
