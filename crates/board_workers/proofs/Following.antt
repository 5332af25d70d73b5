-- Posts, one after another.
use Rattle.std.proofs.Common.{◌≡◌, ◌≢◌, ℕ, ◌+◌, ◌<◌, ◌≤◌, List, [], ◌∷◌, ◌++◌, length, map, get_or, set, take, Option, refl, arith, ap, sym, subst, ◌∙◌}
use Rattle.std.proofs.lemmas.List.{length-map, length-set, map-set, get_or-map, get_or-set_other, get_or-set_same, set-get_or, take_more}
use mathlib.Core.List.{IsPrefix}
use mathlib.Core.Logic.{dite}
use native.Mathlib.Decide.{ℕ_discrete}
use Rattle.board_workers.specs.Types.{Entry, PoolSettings, Pass, Turnstile, Lasting, PoolView}
use Rattle.swarm_model.specs.declared.pool_state.PoolState.{PoolState}
use Rattle.swarm_model.specs.Bases.{Base}
use Rattle.turnstile.specs.Numbers.{times}
use Rattle.shared_doors.specs.SharedDoors.{pools_of, start_of}
use Rattle.shared_doors.specs.Turns.{TakesTurn, TakesTurnAt}
use Rattle.shared_doors.specs.Views.{AreOf, view_at, views}
use Rattle.shared_doors.proofs.ByPlace.{stays_at}
use Rattle.pool_views.specs.Views.{Known}
use Rattle.swarm_boards.specs.Posted.{Posted}
use Rattle.board_workers.specs.Posts.{EachReads, IsBehind, MayPost, OnlyReads, new_posted, posted_at, view_of}

pub reads_itself : (v : PoolView) → OnlyReads v v
reads_itself v = record { numbers = refl; no_own = λ k has. refl }

pub reads_none : (n : ℕ) (vs : List PoolView) → EachReads n vs vs
reads_none n vs = λ p low. reads_itself (view_at vs p)

pub reads_on : (n : ℕ) (us vs ws : List PoolView) → EachReads n us vs → EachReads n vs ws → EachReads n us ws
reads_on n us vs ws one two = λ p low.
    let a = one p low in
    let b = two p low in
    record {
      numbers = b.numbers ∙ a.numbers;
      no_own = λ k has. b.no_own k (subst (λ (ns : List ℕ). 0 < times k ns) (sym a.numbers) has) ∙ a.no_own k has;
    }

turn_reads : (rows : PoolState) (old new : PoolView) → TakesTurn rows old new → OnlyReads old new
turn_reads rows old new t = record { numbers = ap (λ (v : PoolView). v.numbers) t.rest; no_own = t.no_own }

-- a turn at one place only reads
pub turn_only_reads : (rows : PoolState) (place n : ℕ) (old new : List PoolView) → TakesTurnAt rows place old new → EachReads n old new
turn_only_reads rows place n old new t = λ p low. dite (ℕ_discrete p place)
    (λ same. subst (λ q. OnlyReads (view_at old q) (view_at new q)) (sym same) (turn_reads rows (view_at old place) (view_at new place) t.turn))
    (λ other. subst (OnlyReads (view_at old p)) (sym (stays_at old new place (view_at new place) t.elsewhere p other)) (reads_itself (view_at old p)))

-- ---- a poster among several

-- the one at the place is behind the pass there
pub behind_here : {W : Type 0} (poster : W → Posted) (pools : List PoolSettings) (ws : List W) (w : W) (place : ℕ) (v : PoolView) → place < length ws → w ≡ get_or ws place w
    → IsBehind (start_of pools place) (posted_at pools (map poster ws) place) v → IsBehind (start_of pools place) (poster w) v
behind_here poster pools ws w place v low is behind =
    subst (λ (x : Posted). IsBehind (start_of pools place) x v) (get_or-map poster ws place w (new_posted (start_of pools place)) low ∙ ap poster (sym is)) behind

-- another stands at its place that is the same
pub same_posters : {W : Type 0} (poster : W → Posted) (ws : List W) (place : ℕ) (w next : W) → place < length ws → w ≡ get_or ws place w → poster next ≡ poster w → map poster (set ws place next) ≡ map poster ws
same_posters poster ws place w next low is same =
    map-set poster ws place next
    ∙ ap (set (map poster ws) place) (same ∙ ap poster is ∙ sym (get_or-map poster ws place w (poster w) low))
    ∙ set-get_or (map poster ws) place (poster w)

-- one view more is made
pub views_more : {W : Type 0} (poster : W → Posted) (ws all : List W) (place : ℕ) (w : W) (old new : List Known) (view : Known) → place < length ws → w ≡ get_or ws place w → map poster ws ≡ map poster all
    → old ≡ take place (map view_of (map poster all)) → new ≡ old ++ view ∷ [] → view ≡ view_of (poster w) → new ≡ take (place + 1) (map view_of (map poster all))
views_more poster ws all place w old new view low is same are pushed made =
    pushed ∙ ap (λ (l : List Known). l ++ view ∷ []) are ∙ ap (λ (x : Known). take place (map view_of (map poster all)) ++ x ∷ []) (made ∙ sym here)
    ∙ sym (take_more (map view_of (map poster all)) place (view_of (poster w)) (omega (arith, inside, length-map (map poster all) view_of)))
  where
    inside : place < length (map poster all)
    inside = omega (arith, low, ap length same, length-map ws poster)

    here : get_or (map view_of (map poster all)) place (view_of (poster w)) ≡ view_of (poster w)
    here = get_or-map view_of (map poster all) place (poster w) (view_of (poster w)) inside
        ∙ ap view_of (ap (λ (l : List Posted). get_or l place (poster w)) (sym same) ∙ get_or-map poster ws place w (poster w) low ∙ ap poster (sym is))

module _ {V : Type 0} (fixed : V → Lasting) (ts : List (Turnstile V Entry Lasting)) where
  abbrev Passes : Type 0
  Passes = List (Option (Pass V Entry Lasting))

  abbrev start_at : ℕ → Base
  start_at p = start_of (pools_of fixed ts) p

  -- the pools at the places below are posted once more, and those above are not
  pub record IsPosting (place turns : ℕ) (posters : List Posted) (passes : Passes) : Type 0 where
    pub own : AreOf fixed ts passes
    pub count : length posters ≡ length ts
    pub behind : (p : ℕ) → p < length ts → IsBehind (start_at p) (posted_at (pools_of fixed ts) posters p) (view_at (views passes) p)
    pub below : (p : ℕ) → p < length ts → p < place → (view_at (views passes) p).turns ≤ turns + 1
    pub above : (p : ℕ) → p < length ts → place ≤ p → (view_at (views passes) p).turns ≤ turns

  pub none_posted : (turns : ℕ) (posters : List Posted) (passes : Passes) → MayPost fixed ts turns posters passes → IsPosting 0 turns posters passes
  none_posted turns posters passes m = record {
    own = m.own;
    count = m.count;
    behind = m.behind;
    below = λ p low less. absurd (omega arith);
    above = λ p low le. m.turns_are p low;
  }

  pub all_posted : (place turns : ℕ) (posters : List Posted) (passes : Passes) → length ts ≤ place → IsPosting place turns posters passes → MayPost fixed ts (turns + 1) posters passes
  all_posted place turns posters passes past m = record {
    own = m.own;
    count = m.count;
    behind = m.behind;
    turns_are = λ p low. m.below p low (omega (arith, low, past));
  }

  -- one pool more is posted
  pub posted_one : (rows : PoolState) (place turns : ℕ) (posters : List Posted) (passes next : Passes) (q : Posted) → IsPosting place turns posters passes → place < length ts
      → AreOf fixed ts next → TakesTurnAt rows place (views passes) (views next) → q.start ≡ start_at place → IsPrefix (q.published ++ q.pending) (view_at (views next) place).seen
      → IsPosting (place + 1) turns (set posters place q) next
  posted_one rows place turns posters passes next q m low own t start taken = record {
    own = own;
    count = length-set posters place q ∙ m.count;
    behind = λ p inside. dite (ℕ_discrete p place)
        (λ same. subst (λ k. IsBehind (start_at k) (posted_at (pools_of fixed ts) (set posters place q) k) (view_at (views next) k)) (sym same)
        (subst (λ (x : Posted). IsBehind (start_at place) x (view_at (views next) place)) (sym (get_or-set_same posters place q (new_posted (start_at place)) (omega (arith, low, m.count)))) (record { start_is = start; taken = taken })))
        (λ other. subst (λ (x : Posted). IsBehind (start_at p) x (view_at (views next) p)) (sym (get_or-set_other posters place p q (new_posted (start_at p)) other))
        (subst (IsBehind (start_at p) (posted_at (pools_of fixed ts) posters p)) (sym (stays p other)) (m.behind p inside)));
    below = λ p inside less. dite (ℕ_discrete p place)
        (λ same. subst (λ k. (view_at (views next) k).turns ≤ turns + 1) (sym same) now)
        (λ other. subst (λ (v : PoolView). v.turns ≤ turns + 1) (sym (stays p other)) (m.below p inside (omega (arith, less, other))));
    above = λ p inside more. let other : p ≢ place = λ same. absurd (omega (arith, more, same)) in
        subst (λ (v : PoolView). v.turns ≤ turns) (sym (stays p other)) (m.above p inside (omega (arith, more)));
  }
    where
      stays : (p : ℕ) → p ≢ place → view_at (views next) p ≡ view_at (views passes) p
      stays p other = stays_at (views passes) (views next) place (view_at (views next) place) t.elsewhere p other

      now : (view_at (views next) place).turns ≤ turns + 1
      now = let one : (view_at (views next) place).turns ≡ (view_at (views passes) place).turns + 1 = ap (λ (v : PoolView). v.turns) t.turn.rest in
          let before = m.above place low (omega arith) in
          omega (arith, one, before)
