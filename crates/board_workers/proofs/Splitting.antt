-- Passes for the posts, as they are split off.
use Rattle.std.proofs.Common.{◌≡◌, ℕ, ◌+◌, ◌<◌, List, [], ◌∷◌, ◌++◌, length, map, get_or, take, Option, refl, arith, ap, sym, subst, ◌∙◌}
use Rattle.std.proofs.lemmas.List.{length-map, get_or-map, map-append, take_more}
use Rattle.swarm_history.specs.Machines.{no_pool}
use Rattle.board_workers.specs.Types.{Entry, PoolSettings, Pass, Turnstile, Lasting, PoolView}
use Rattle.swarm_model.specs.Bases.{empty_base}
use Rattle.turnstile.specs.Passes.{fixed_of}
use Rattle.shared_doors.specs.Joined.{MaySplit, Splits}
use Rattle.shared_doors.specs.SharedDoors.{pools_of, start_of}
use Rattle.shared_doors.specs.Views.{AreOf, view_at, views}
use Rattle.swarm_boards.specs.Posted.{Posted}
use Rattle.swarm_workers.specs.Splits.{IsNewPass, IsShare}
use Rattle.board_workers.specs.Posts.{IsBehind, MayPost, new_posted, new_posters, posted_at}

pub may_split : (made : ℕ) (v : PoolView) → IsNewPass 0 v → v.made ≡ made → made < 64 → MaySplit v
may_split made v new is few = (new.number_is, omega (arith, is, few))

kept_new : (v kept given : PoolView) → IsNewPass 0 v → Splits v kept given → IsNewPass 0 kept
kept_new v kept given new s = subst (IsNewPass 0) (sym s.kept_is) (record { number_is = new.number_is; numbers = new.numbers; turns = new.turns; seen = new.seen })

given_new : (made : ℕ) (v kept given : PoolView) → IsNewPass 0 v → v.made ≡ made → Splits v kept given → IsNewPass made given
given_new made v kept given new is s = record {
  number_is = s.number ∙ is;
  numbers = s.numbers ∙ ap (λ k. k ∷ []) is;
  turns = s.turns;
  seen = s.seen ∙ new.seen;
}

-- the poster at a place, as it is made
pub poster_at : (pools : List PoolSettings) (p : ℕ) → p < length pools → get_or (new_posters pools) p (new_posted (start_of pools p)) ≡ new_posted (start_of pools p)
poster_at pools p low = get_or-map (λ (pool : PoolSettings). new_posted (empty_base pool)) pools p no_pool (new_posted (start_of pools p)) low

-- one poster more is made
pub posters_more : {W : Type 0} (poster : W → Posted) (pools : List PoolSettings) (place : ℕ) (old new : List W) (w : W) → place < length pools → new ≡ old ++ w ∷ [] → map poster old ≡ take place (new_posters pools)
    → poster w ≡ new_posted (start_of pools place) → map poster new ≡ take (place + 1) (new_posters pools)
posters_more poster pools place old new w low pushed are is =
    ap (map poster) pushed ∙ map-append poster old (w ∷ []) ∙ ap (λ (l : List Posted). l ++ poster w ∷ []) are
    ∙ ap (λ (x : Posted). take place (new_posters pools) ++ x ∷ []) (is ∙ sym (poster_at pools place low))
    ∙ sym (take_more (new_posters pools) place (new_posted (start_of pools place)) (omega (arith, low, length-map pools (λ (pool : PoolSettings). new_posted (empty_base pool)))))

module _ {V : Type 0} (fixed : V → Lasting) (ts : List (Turnstile V Entry Lasting)) where
  abbrev Passes : Type 0
  Passes = List (Option (Pass V Entry Lasting))

  abbrev SplitsEach : Passes → Passes → Passes → Type 0
  SplitsEach first kept given = (p : ℕ) → p < length ts → Splits (view_at (views first) p) (view_at (views kept) p) (view_at (views given) p)

  abbrev MadeEach : ℕ → Passes → Type 0
  MadeEach made passes = (p : ℕ) → p < length ts → (view_at (views passes) p).made ≡ made

  pub kept_share : (first kept given : Passes) → IsShare fixed ts 0 first → AreOf fixed ts kept → SplitsEach first kept given → IsShare fixed ts 0 kept
  kept_share first kept given share own splits = record {
    own = own;
    new = λ p low. kept_new (view_at (views first) p) (view_at (views kept) p) (view_at (views given) p) (share.new p low) (splits p low);
  }

  pub given_share : (made : ℕ) (first kept given : Passes) → IsShare fixed ts 0 first → MadeEach made first → AreOf fixed ts given → SplitsEach first kept given → IsShare fixed ts made given
  given_share made first kept given share is own splits = record {
    own = own;
    new = λ p low. given_new made (view_at (views first) p) (view_at (views kept) p) (view_at (views given) p) (share.new p low) (is p low) (splits p low);
  }

  pub one_more_made : (made : ℕ) (first kept given : Passes) → MadeEach made first → SplitsEach first kept given → MadeEach (made + 1) kept
  one_more_made made first kept given is splits = λ p low. ap (λ (v : PoolView). v.made) (splits p low).kept_is ∙ ap (λ n. n + 1) (is p low)

  -- new posters are behind new passes
  pub may_post : (number : ℕ) (pools : List PoolSettings) (posters : List Posted) (passes : Passes) → IsShare fixed ts number passes → pools_of fixed ts ≡ pools → posters ≡ new_posters pools
      → MayPost fixed ts 0 posters passes
  may_post number pools posters passes share same are = record {
    own = share.own;
    count = ap length told ∙ length-map (pools_of fixed ts) (λ (pool : PoolSettings). new_posted (empty_base pool)) ∙ length-map ts (λ (t : Turnstile V Entry Lasting). (fixed_of fixed t).settings);
    behind = λ p low. subst (λ (x : Posted). IsBehind (start_of (pools_of fixed ts) p) x (view_at (views passes) p)) (sym (at p low)) (record { start_is = refl; taken = ((view_at (views passes) p).seen, refl) });
    turns_are = λ p low. omega (arith, (share.new p low).turns);
  }
    where
      told : posters ≡ new_posters (pools_of fixed ts)
      told = are ∙ ap new_posters (sym same)

      at : (p : ℕ) → p < length ts → posted_at (pools_of fixed ts) posters p ≡ new_posted (start_of (pools_of fixed ts) p)
      at p low = ap (λ (l : List Posted). posted_at (pools_of fixed ts) l p) told
          ∙ poster_at (pools_of fixed ts) p (omega (arith, low, length-map ts (λ (t : Turnstile V Entry Lasting). (fixed_of fixed t).settings)))
