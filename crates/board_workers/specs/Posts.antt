-- Posters of pools, and the passes that read the logs for them.
use Rattle.std.specs.Prelude.{◌≡◌, ◌<◌, ◌≤◌, ℕ, List, [], ◌∷◌, ◌++◌, length, map, slice_index_or, Option}
use mathlib.Core.List.{IsPrefix}
use Rattle.board_workers.specs.Types.{Entry, PoolSettings, Pass, Turnstile, Lasting, PoolView}
use Rattle.swarm_model.specs.Bases.{Base, empty_base}
use Rattle.pool_views.specs.Views.{Known}
use Rattle.turnstile.specs.Numbers.{times, own}
use Rattle.shared_doors.specs.Joined.{by}
use Rattle.shared_doors.specs.SharedDoors.{pools_of, start_of}
use Rattle.shared_doors.specs.Views.{AreOf, view_at, views}
use Rattle.swarm_boards.specs.Posted.{Posted}

-- a poster over this base, which has taken in nothing yet
abbrev pub new_posted : Base → Posted
new_posted start = record { start = start; published = []; pending = [] }

-- the posters of these pools, as they are made
abbrev pub new_posters : List PoolSettings → List Posted
new_posters pools = map (λ pool. new_posted (empty_base pool)) pools

-- what a view knows that is made of a poster
abbrev pub view_of : Posted → Known
view_of posted = record { start = posted.start; seen = []; told = posted.published ∷ [] }

-- the pass may have seen more of the log, and no entry more of its own numbers
pub record OnlyReads (old new : PoolView) : Type 0 where
  pub numbers : new.numbers ≡ old.numbers
  pub no_own : (k : ℕ) → 0 < times k old.numbers → own by k new.seen ≡ own by k old.seen

-- the poster's log is that of the pool, and what it has taken in begins what the pass has seen
pub record IsBehind (start : Base) (posted : Posted) (v : PoolView) : Type 0 where
  pub start_is : posted.start ≡ start
  pub taken : IsPrefix (posted.published ++ posted.pending) v.seen

-- the posted at a place
abbrev pub posted_at : List PoolSettings → List Posted → ℕ → Posted
posted_at pools posters place = slice_index_or posters place (new_posted (start_of pools place))

module _ {V : Type 0} (fixed : V → Lasting) (turnstiles : List (Turnstile V Entry Lasting)) where
  -- there is a poster of each pool, behind the pass of its place, which took so many turns at most
  pub record MayPost (turns : ℕ) (posters : List Posted) (passes : List (Option (Pass V Entry Lasting))) : Type 0 where
    pub own : AreOf fixed turnstiles passes
    pub count : length posters ≡ length turnstiles
    pub behind : (p : ℕ) → p < length turnstiles → IsBehind (start_of (pools_of fixed turnstiles) p) (posted_at (pools_of fixed turnstiles) posters p) (view_at (views passes) p)
    pub turns_are : (p : ℕ) → p < length turnstiles → (view_at (views passes) p).turns ≤ turns

-- at each place of so many the pass has only read
abbrev pub EachReads : ℕ → List PoolView → List PoolView → Type 0
EachReads n old new = (p : ℕ) → p < n → OnlyReads (view_at old p) (view_at new p)
