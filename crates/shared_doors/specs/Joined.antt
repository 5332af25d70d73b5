-- What splitting, joining and closing do to what passes know.
use Rattle.std.specs.Prelude.{◌≡◌, ◌⊎◌, ℕ, ◌+◌, ◌<◌, ◌==◌, min, max, if◌then◌else◌, List, [], ◌∷◌, ◌++◌, length}
use Rattle.shared_doors.specs.Types.{Entry, PoolSettings, Turnstile}
use Rattle.swarm_model.specs.Bases.{empty_base}
use Rattle.swarm_model.specs.MachineState.{MachineState, IsHistory}
use Rattle.turnstile.specs.Numbers.{times, once_below, own, Adds}
use Rattle.turnstile.specs.Passes.{fixed_of, opening}
use Rattle.shared_doors.specs.declared.view.Lasting.{Lasting}
use Rattle.shared_doors.specs.declared.view.PoolView.{PoolView}

abbrev pub by : Entry → ℕ
by entry = entry.pass

-- a pass that may be split: it has the number 0, and fewer than 64 were made
abbrev pub MaySplit : PoolView → Type 0
MaySplit v = (v.number ≡ 0) × (v.made < 64)

-- two passes of one: the first keeps what it has, the second has the next number and took no turn
pub record Splits (v kept given : PoolView) : Type 0 where
  pub kept_is : kept ≡ record v { made = v.made + 1 }
  pub number : given.number ≡ v.made
  pub numbers : given.numbers ≡ v.made ∷ []
  pub turns : given.turns ≡ 0
  pub seen : given.seen ≡ v.seen
  pub told : given.told ≡ v.told

-- One pass of two. It has seen the longer of two logs, which the other begins; and what that has of the numbers of each is
-- what each had seen of them.
pub record Joins (v w joined : PoolView) : Type 0 where
  pub number : joined.number ≡ min v.number w.number
  pub numbers : joined.numbers ≡ v.numbers ++ w.numbers
  pub made : joined.made ≡ (if v.number == 0 then v.made else w.made)
  pub turns : joined.turns ≡ v.turns + w.turns
  pub told : joined.told ≡ max v.told w.told
  pub longer : (joined.seen ≡ v.seen) ⊎ (joined.seen ≡ w.seen)
  pub begins_one : (rest : List Entry) × (joined.seen ≡ v.seen ++ rest)
  pub begins_two : (rest : List Entry) × (joined.seen ≡ w.seen ++ rest)
  pub own_one : (k : ℕ) → 0 < times k v.numbers → own by k joined.seen ≡ own by k v.seen
  pub own_two : (k : ℕ) → 0 < times k w.numbers → own by k joined.seen ≡ own by k w.seen

-- no other pass is out: as many are joined in this one as were made
abbrev pub IsAloneView : PoolView → Type 0
IsAloneView v = (v.number ≡ 0) × (length v.numbers ≡ v.made)

-- The one history of a pool, once it is closed: nothing led to where it begins, it is legal, it is all that the joined pass had
-- seen, each pass that was made is joined once, and past the opening it has entries of those passes and no others.
pub record IsClosed (pool : PoolSettings) (start : List Entry) (v : PoolView) (kept : MachineState) : Type 0 where
  pub settings_are : kept.pool.settings ≡ pool
  pub begins : kept.start ≡ empty_base pool
  pub history : IsHistory kept
  pub seen : kept.log ≡ v.seen
  pub all_joined : (k : ℕ) → times k v.numbers ≡ once_below k v.made
  pub no_others : Adds by v.numbers start kept.log

module _ {V : Type 0} (fixed : V → Lasting) (log : V → List Entry) where
  -- each pool's machine is closed, in the order of the pools
  abbrev pub AreClosed : List (Turnstile V Entry Lasting) → List PoolView → List MachineState → Type 0
  AreClosed [] [] [] = Unit
  AreClosed (t ∷ ts) (v ∷ vs) (kept ∷ machines) = IsClosed (fixed_of fixed t).settings (opening log t) v kept × AreClosed ts vs machines
  AreClosed ts vs machines = ⊥
