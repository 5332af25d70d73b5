-- A door to logs to which others write as well.
use Rattle.std.specs.Prelude.{◌≤◌, ℕ, false, List, [], ◌∷◌, ◌++◌, length, map, max, slice_index_or, Option, None, Result}
use Rattle.shared_doors.specs.Types.{Entry, PoolSettings, Answered, CallFault, Turnstile}
use Rattle.swarm_model.specs.Bases.{Base, empty_base}
use Rattle.swarm_model.specs.Points.{Call, Growth}
use Rattle.pool_doors.specs.Doors.{DoorState, IsPoolCall}
use Rattle.swarm_history.specs.Machines.{no_pool}
use Rattle.turnstile.specs.Passes.{fixed_of, identity_of}
use Rattle.shared_doors.specs.declared.view.Lasting.{Lasting}
use Rattle.shared_doors.specs.declared.view.PoolView.{PoolView}
use Rattle.shared_doors.specs.Views.{view_at}

-- the settings of the pools of these turnstiles
abbrev pub pools_of : {V : Type 0} → (V → Lasting) → List (Turnstile V Entry Lasting) → List PoolSettings
pools_of {V = V} fixed turnstiles = map (λ (t : Turnstile V Entry Lasting). (fixed_of fixed t).settings) turnstiles

-- which turnstile is at each place, [] where there is none
abbrev pub identities_of : {V : Type 0} → List (Turnstile V Entry Lasting) → ℕ → List ℕ
identities_of {V = V} turnstiles place = slice_index_or (map (λ (t : Turnstile V Entry Lasting). identity_of t) turnstiles) place []

-- where the log of the pool at each place begins: nothing led to it
abbrev pub start_of : List PoolSettings → ℕ → Base
start_of pools place = empty_base (slice_index_or pools place no_pool)

-- the greatest number of a list
abbrev pub most_of : List ℕ → ℕ
most_of [] = 0
most_of (n ∷ ns) = max n (most_of ns)

-- A door to pools with these settings and these identities of their logs, whose passes know this. Its keepers tell nothing and never
-- fail, and others write to its logs too.
abbrev pub shared_door : Option (List ℕ) → List PoolSettings → (ℕ → List ℕ) → List PoolView → DoorState
shared_door store pools logs views = record {
  settings = record { store = store; pools = pools };
  seen = λ p. (view_at views p).seen;
  records = map (λ pool. None) pools;
  writer = record {
    starts = start_of pools;
    numbers = λ p. slice_index_or (map (λ v. v.number) views) p 0;
    alone = false;
    logs = logs;
    joined = λ p. (view_at views p).numbers;
    made = λ p. (view_at views p).made;
  };
  faults = 0;
  calls = most_of (map (λ v. v.turns) views);
}

-- One call in a turn of a pass, which had seen the old log and was told a front. The turn finds the old log with entries of others
-- behind it, and no fewer entries than the front.
pub record IsTurnCall (start : Base) (call : Call) (old new : List Entry) (told : ℕ) (result : Result Answered CallFault) : Type 0 where
  pub growth : Growth
  pub done : IsPoolCall start false call old new growth result
  pub fresh : told ≤ length (old ++ growth.others)
