-- The rules of a base in the groups in which they are decided.
use Rattle.std.specs.Prelude.{ℕ, ◌+◌, ◌^◌, ◌≤◌, ◌<◌, List, length, map, slice_index_or, ◌≡◌, All, AllPairs}
use Rattle.blob_rows.specs.Extents.{AreApart}
use Rattle.blob_rows.specs.BlobRows.{extent_of_row}
use Rattle.swarm_model.specs.declared.pool_state.PoolState.{PoolState}
use Rattle.swarm_model.specs.Numbers.{AreNumbered}
use Rattle.swarm_model.specs.Blobs.{most_blobs}
use Rattle.swarm_model.specs.Effects.{no_of_task, no_of_bot}
use Rattle.swarm_model.specs.Soundness.{IsSoundTask, IsSoundBot, IsSoundBlob}
use Rattle.swarm_model.specs.BaseRules.{IsKeptTask, AreCreatedInOrder, HaveOutcomes}
use Rattle.swarm_model.specs.StateWeight.{state_weight}
use Rattle.base_checks.specs.Agreeing.{NameEachOther}
use Rattle.base_checks.specs.Rows.{HasLowerNumber, HaveOwnNames, HaveOwnClaims, HaveOwnUuids, HaveOwnDigests}
use Rattle.base_checks.specs.Deadlines.{AreAhead}

-- the first rows, to a place, have the numbers 1, 2 and so on
abbrev pub AreNumberedTo : {R : Type 0} → (R → ℕ) → List R → ℕ → Type 0
AreNumberedTo {R} number_of rows end = (k : ℕ) (d : R) → k < end → number_of (slice_index_or rows k d) ≡ k + 1

-- no number and no list is greater than it may be
pub record IsWithinLimits (count : ℕ) (s : PoolState) : Type 0 where
  pub last : s.last ≤ 2 ^ 40
  pub placed : s.placed ≤ count
  pub few : count ≤ 2 ^ 31
  pub few_tasks : length s.tasks ≤ s.settings.most_tasks
  pub few_bots : length s.bots ≤ s.settings.most_bots
  pub few_blobs : length s.blobs ≤ most_blobs
  pub light : state_weight s ≤ s.settings.most_weight

-- tasks and bots are numbered by their places
pub record HaveNumbers (s : PoolState) : Type 0 where
  pub tasks : AreNumbered no_of_task 1 s.tasks
  pub bots : AreNumbered no_of_bot 1 s.bots

-- each row, for itself, may stand in a base
pub record HaveRightRows (s : PoolState) : Type 0 where
  pub tasks : All (IsSoundTask s) s.tasks
  pub kept : All (IsKeptTask s.settings s.last (length s.bots)) s.tasks
  pub bots : All (IsSoundBot s) s.bots
  pub blobs : All (IsSoundBlob s) s.blobs
  pub from_one : All (λ blob. 1 ≤ blob.no) s.blobs

-- rows agree with those that they name, and with those before them
pub record AreInAgreement (s : PoolState) : Type 0 where
  pub ahead : AreAhead s
  pub runs : NameEachOther s.bots s.tasks
  pub outcomes : HaveOutcomes s
  pub order : AreCreatedInOrder s.tasks
  pub rising : AllPairs HasLowerNumber s.blobs

-- no two rows have what only one may have
pub record HaveOwnKeys (s : PoolState) : Type 0 where
  pub names : HaveOwnNames s.bots
  pub claims : HaveOwnClaims s.tasks
  pub sent : HaveOwnUuids s.tasks
  pub digests : HaveOwnDigests s.blobs
  pub apart : AreApart (map extent_of_row s.blobs)
