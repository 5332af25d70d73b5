-- The tests on one row decide what is asked of it.
use Rattle.std.proofs.Common.{◌≡◌, ℕ, ◌+◌, ◌-◌, ◌^◌, ◌≤◌, ◌<◌, ◌==◌, ◌&&◌, Bool, true, false, cond, nat_le, nat_lt, Decides, All, length, arith, Option, Some, None, IfSome}
use Rattle.std.specs.Prelude.{IsTrue}
use Rattle.std.specs.List.{list_all}
use Rattle.std.specs.Option.{option_map, option_map_or}
use Rattle.std.proofs.lemmas.Bool.{and_parts}
use Rattle.std.proofs.lemmas.Bool.Decides.{Decides-eqb}
use Rattle.std.proofs.lemmas.List.Elements.{All-weaker}
use Rattle.dimensions.specs.Alike.{same}
use Rattle.base_checks.specs.Types.{BlobRow, Running, Attempt, Retried, TaskRow, BotRow, PoolState}
use Rattle.blob_rows.specs.BlobRows.{units_of}
use Rattle.task_props.specs.Checked.{is_checked, pool_of_task}
use Rattle.swarm_model.specs.declared.request.Request.TheVariants as ask
use Rattle.swarm_model.specs.Words.{is_between}
use Rattle.swarm_model.specs.Fits.{fits, is_blob_size}
use Rattle.swarm_model.specs.Finding.{has_state}
use Rattle.swarm_model.specs.Blobs.{most_blobs}
use Rattle.swarm_model.specs.Effects.{life}
use Rattle.swarm_model.specs.Soundness.{fits_state, IsSoundTask, IsSoundBot, IsSoundBlob, IsSoundOutput, IsSoundRetried, IsRightTry}
use Rattle.swarm_model.specs.BaseRules.{IsKeptTask, IsKeptAttempt}
use Rattle.swarm_model.specs.StateWeight.{state_weight}
use Rattle.base_checks.specs.Runs.{is_right_attempt, is_right_loss}
use Rattle.base_checks.specs.RowRules.{has_right_counts, has_few_rows, is_light, is_within_limits, has_right_moments, has_right_runs, is_right_request, is_right_task, is_right_bot, has_right_extent, is_right_blob, have_right_rows}
use Rattle.base_checks.specs.Bases.{IsWithinLimits, HaveRightRows}
use Rattle.base_checks.proofs.Tests.{le_decides, lt_decides, true_decides, some_decides, all_decides, both_decide, decides_as, some_as, some_both}
use Rattle.base_checks.proofs.RightRuns.{IsRightRun, IsRightAttempt, IsRightLoss, attempt_decides, loss_decides}

-- ---- the pool as a whole

abbrev HasCounts : ℕ → PoolState → Type 0
HasCounts count s = (s.last ≤ 2 ^ 40) × ((s.placed ≤ count) × (count ≤ 2 ^ 31))

abbrev HasFewRows : PoolState → Type 0
HasFewRows s = (length s.tasks ≤ s.settings.most_tasks) × ((length s.bots ≤ s.settings.most_bots) × (length s.blobs ≤ most_blobs))

abbrev LimitParts : ℕ → PoolState → Type 0
LimitParts count s = HasCounts count s × (HasFewRows s × (state_weight s ≤ s.settings.most_weight))

counts_decide : (count : ℕ) (s : PoolState) → Decides (has_right_counts count s) (HasCounts count s)
counts_decide count s =
    both_decide (s.last ≤ 2 ^ 40) ((s.placed ≤ count) × (count ≤ 2 ^ 31)) (nat_le s.last (2 ^ 40)) (nat_le s.placed count && nat_le count (2 ^ 31))
    (le_decides s.last (2 ^ 40))
    (both_decide (s.placed ≤ count) (count ≤ 2 ^ 31) (nat_le s.placed count) (nat_le count (2 ^ 31)) (le_decides s.placed count) (le_decides count (2 ^ 31)))

few_decides : (s : PoolState) → Decides (has_few_rows s) (HasFewRows s)
few_decides s =
    let tasks : Bool = nat_le (length s.tasks) s.settings.most_tasks in
    let bots : Bool = nat_le (length s.bots) s.settings.most_bots in
    let blobs : Bool = nat_le (length s.blobs) most_blobs in
    both_decide (length s.tasks ≤ s.settings.most_tasks) ((length s.bots ≤ s.settings.most_bots) × (length s.blobs ≤ most_blobs)) tasks (bots && blobs)
    (le_decides (length s.tasks) s.settings.most_tasks)
    (both_decide (length s.bots ≤ s.settings.most_bots) (length s.blobs ≤ most_blobs) bots blobs
    (le_decides (length s.bots) s.settings.most_bots) (le_decides (length s.blobs) most_blobs))

limits_of_parts : (count : ℕ) (s : PoolState) → LimitParts count s → IsWithinLimits count s
limits_of_parts count s h =
    record { last = h.0.0; placed = h.0.1.0; few = h.0.1.1; few_tasks = h.1.0.0; few_bots = h.1.0.1.0; few_blobs = h.1.0.1.1; light = h.1.1 }

parts_of_limits : (count : ℕ) (s : PoolState) → IsWithinLimits count s → LimitParts count s
parts_of_limits count s h = ((h.last, (h.placed, h.few)), ((h.few_tasks, (h.few_bots, h.few_blobs)), h.light))

pub limits_decide : (count : ℕ) (s : PoolState) → Decides (is_within_limits count s) (IsWithinLimits count s)
limits_decide count s =
    decides_as (LimitParts count s) (IsWithinLimits count s) (is_within_limits count s) (limits_of_parts count s) (parts_of_limits count s)
    (both_decide (HasCounts count s) (HasFewRows s × (state_weight s ≤ s.settings.most_weight)) (has_right_counts count s) (has_few_rows s && is_light s)
    (counts_decide count s)
    (both_decide (HasFewRows s) (state_weight s ≤ s.settings.most_weight) (has_few_rows s) (is_light s) (few_decides s) (le_decides (state_weight s) s.settings.most_weight)))

-- ---- tasks

abbrev IsNoLater : ℕ → ℕ → Type 0
IsNoLater moment earlier = earlier ≤ moment

abbrev HasMoments : ℕ → TaskRow → Type 0
HasMoments moment x = (x.created ≤ moment) × ((x.since ≤ moment) × IfSome x.ended (IsNoLater moment))

moments_decide : (moment : ℕ) (x : TaskRow) → Decides (has_right_moments moment x) (HasMoments moment x)
moments_decide moment x =
    let ended : Bool = option_map_or (λ (m : ℕ). nat_le m moment) x.ended true in
    both_decide (x.created ≤ moment) ((x.since ≤ moment) × IfSome x.ended (IsNoLater moment)) (nat_le x.created moment) (nat_le x.since moment && ended)
    (le_decides x.created moment)
    (both_decide (x.since ≤ moment) (IfSome x.ended (IsNoLater moment)) (nat_le x.since moment) ended
    (le_decides x.since moment) (some_decides (λ (m : ℕ). nat_le m moment) (IsNoLater moment) (λ m. le_decides m moment) x.ended))

-- the bot of a run is the one that runs the task
runner_within : (bots : ℕ) (t : Bool) (r : Option Attempt) → IfSome r (λ (a : Attempt). a.bot ≤ bots) → IfSome (cond t (option_map (λ (a : Attempt). a.bot) r) None) (λ (bot : ℕ). bot ≤ bots)
runner_within bots true None h = tt
runner_within bots true (Some a) h = h
runner_within bots false r h = tt

module _ (s : PoolState) where
  abbrev last_moment : ℕ
  last_moment = s.last

  abbrev bot_count : ℕ
  bot_count = length s.bots

  abbrev IsKeptRun : Attempt → Type 0
  IsKeptRun a = IsKeptAttempt last_moment bot_count a

  abbrev Attempted : TaskRow → Attempt → Type 0
  Attempted x a = IsRightAttempt last_moment bot_count x.retried a

  abbrev Lost : TaskRow → Retried → Type 0
  Lost x lost = IsRightLoss s x.request.task_slices lost

  abbrev HasRuns : TaskRow → Type 0
  HasRuns x = IfSome x.attempt (Attempted x) × IfSome x.retried (Lost x)

  abbrev HasRequest : TaskRow → Type 0
  HasRequest x = IsTrue (fits s.settings (ask.New x.request)) × (x.slice < length x.request.task_slices)

  abbrev TaskParts : TaskRow → Type 0
  TaskParts x = HasRequest x × (HasMoments last_moment x × (IsTrue (fits_state x) × HasRuns x))

  abbrev IsRightTask : TaskRow → Type 0
  IsRightTask x = IsSoundTask s x × IsKeptTask s.settings last_moment bot_count x

  runs_decide : (x : TaskRow) → Decides (has_right_runs s.settings.retries last_moment bot_count x) (HasRuns x)
  runs_decide x =
      let slices = x.request.task_slices in
      both_decide (IfSome x.attempt (Attempted x)) (IfSome x.retried (Lost x))
      (option_map_or (is_right_attempt last_moment bot_count x.retried) x.attempt true) (option_map_or (is_right_loss s.settings.retries last_moment bot_count slices) x.retried true)
      (some_decides (is_right_attempt last_moment bot_count x.retried) (Attempted x) (attempt_decides last_moment bot_count x.retried) x.attempt)
      (some_decides (is_right_loss s.settings.retries last_moment bot_count slices) (Lost x) (loss_decides s slices) x.retried)

  request_decides : (x : TaskRow) → Decides (is_right_request s.settings x) (HasRequest x)
  request_decides x =
      both_decide (IsTrue (fits s.settings (ask.New x.request))) (x.slice < length x.request.task_slices)
      (fits s.settings (ask.New x.request)) (nat_lt x.slice (length x.request.task_slices))
      (true_decides (fits s.settings (ask.New x.request))) (lt_decides x.slice (length x.request.task_slices))

  task_of_parts : (x : TaskRow) → TaskParts x → IsRightTask x
  task_of_parts x h =
      let request : HasRequest x = h.0 in
      let moments : HasMoments last_moment x = h.1.0 in
      let attempt : IfSome x.attempt (Attempted x) = h.1.1.1.0 in
      let lost : IfSome x.retried (Lost x) = h.1.1.1.1 in
      let kept : IfSome x.attempt IsKeptRun = some_as (Attempted x) IsKeptRun (λ a r. r.0.0) x.attempt attempt in (
        record {
          checked = (and_parts (is_checked x.request) (same (pool_of_task x.request) s.settings.name) request.0).0;
          has_slice = request.1;
          since = moments.1.0;
          state = h.1.1.0;
          has_bot = runner_within bot_count (has_state Running x) x.attempt (some_as IsKeptRun (λ (a : Attempt). a.bot ≤ bot_count) (λ a k. k.bot_to) x.attempt kept);
          output = some_as (Attempted x) IsSoundOutput (λ a r. r.0.1) x.attempt attempt;
          retried = some_as (Lost x) (IsSoundRetried s x.request.task_slices) (λ l r. r.0) x.retried lost;
          tries = some_as (Attempted x) (IsRightTry x.retried) (λ a r. r.1) x.attempt attempt;
        },
        record {
          fits = request.0;
          created = moments.0;
          ended = moments.1.1;
          attempt = kept;
          retried = some_as (Lost x) (λ (l : Retried). IsKeptRun l.attempt) (λ l r. r.1) x.retried lost;
        },
      )

  parts_of_task : (x : TaskRow) → IsRightTask x → TaskParts x
  parts_of_task x h =
      let sound : IsSoundTask s x = h.0 in
      let kept : IsKeptTask s.settings last_moment bot_count x = h.1 in
      let run = some_both IsKeptRun IsSoundOutput x.attempt kept.attempt sound.output in (
        (kept.fits, sound.has_slice),
        (
          (kept.created, (sound.since, kept.ended)),
          (
            sound.state,
            (
              some_both (IsRightRun last_moment bot_count) (IsRightTry x.retried) x.attempt run sound.tries,
              some_both (IsSoundRetried s x.request.task_slices) (λ (l : Retried). IsKeptRun l.attempt) x.retried sound.retried kept.retried,
            ),
          ),
        ),
      )

  task_decides : (x : TaskRow) → Decides (is_right_task s.settings last_moment bot_count x) (IsRightTask x)
  task_decides x =
      let request : Bool = is_right_request s.settings x in
      let moments : Bool = has_right_moments last_moment x in
      let runs : Bool = has_right_runs s.settings.retries last_moment bot_count x in
      decides_as (TaskParts x) (IsRightTask x) (is_right_task s.settings last_moment bot_count x) (task_of_parts x) (parts_of_task x)
      (both_decide (HasRequest x) (HasMoments last_moment x × (IsTrue (fits_state x) × HasRuns x)) request (moments && (fits_state x && runs))
      (request_decides x)
      (both_decide (HasMoments last_moment x) (IsTrue (fits_state x) × HasRuns x) moments (fits_state x && runs)
      (moments_decide last_moment x)
      (both_decide (IsTrue (fits_state x)) (HasRuns x) (fits_state x) runs (true_decides (fits_state x)) (runs_decide x))))

  -- ---- bots

  abbrev task_count : ℕ
  task_count = length s.tasks

  abbrev IsNumber : ℕ → Type 0
  IsNumber number = (1 ≤ number) × (number ≤ task_count)

  abbrev handshake_fits : BotRow → Bool
  handshake_fits b = fits s.settings (ask.Handshake b.name b.session b.dims b.quarantined)

  abbrev BotParts : BotRow → Type 0
  BotParts b = ((b.contact ≤ last_moment) × (b.streak ≤ 63)) × (IsTrue (handshake_fits b) × IfSome b.task IsNumber)

  bot_of_parts : (b : BotRow) → BotParts b → IsSoundBot s b
  bot_of_parts b h = record { contact = h.0.0; streak = h.0.1; known = h.1.0; has_task = h.1.1 }

  parts_of_bot : (b : BotRow) → IsSoundBot s b → BotParts b
  parts_of_bot b h = ((h.contact, h.streak), (h.known, h.has_task))

  number_decides : (number : ℕ) → Decides (is_between 1 task_count number) (IsNumber number)
  number_decides number = both_decide (1 ≤ number) (number ≤ task_count) (nat_le 1 number) (nat_le number task_count) (le_decides 1 number) (le_decides number task_count)

  bot_decides : (b : BotRow) → Decides (is_right_bot s.settings last_moment task_count b) (IsSoundBot s b)
  bot_decides b =
      let heard : Bool = nat_le b.contact last_moment && nat_le b.streak 63 in
      let runs : Bool = option_map_or (is_between 1 task_count) b.task true in
      decides_as (BotParts b) (IsSoundBot s b) (is_right_bot s.settings last_moment task_count b) (bot_of_parts b) (parts_of_bot b)
      (both_decide ((b.contact ≤ last_moment) × (b.streak ≤ 63)) (IsTrue (handshake_fits b) × IfSome b.task IsNumber) heard (handshake_fits b && runs)
      (both_decide (b.contact ≤ last_moment) (b.streak ≤ 63) (nat_le b.contact last_moment) (nat_le b.streak 63) (le_decides b.contact last_moment) (le_decides b.streak 63))
      (both_decide (IsTrue (handshake_fits b)) (IfSome b.task IsNumber) (handshake_fits b) runs (true_decides (handshake_fits b)) (some_decides (is_between 1 task_count) IsNumber number_decides b.task)))

  -- ---- blobs

  abbrev IsRightBlob : BlobRow → Type 0
  IsRightBlob b = IsSoundBlob s b × (1 ≤ b.no)

  abbrev HasExtent : BlobRow → Type 0
  HasExtent b = (b.size ≤ 16777216) × ((b.extent.units ≡ units_of b.size) × (b.extent.at + b.extent.units ≤ s.settings.store_units))

  abbrev BlobParts : BlobRow → Type 0
  BlobParts b = HasExtent b × (((1 ≤ b.no) × (b.no ≤ s.placed)) × (b.deadline - last_moment ≤ life s))

  blob_of_parts : (b : BlobRow) → BlobParts b → IsRightBlob b
  blob_of_parts b h =
      let late : b.deadline - last_moment ≤ life s = h.1.1 in
      (record { units = h.0.1.0; inside = h.0.1.1; placed = h.1.0.1; size = h.0.0; deadline = omega (arith, late) }, h.1.0.0)

  parts_of_blob : (b : BlobRow) → IsRightBlob b → BlobParts b
  parts_of_blob b h =
      let sound : IsSoundBlob s b = h.0 in
      let late : b.deadline ≤ last_moment + life s = sound.deadline in
      ((sound.size, (sound.units, sound.inside)), ((h.1, sound.placed), omega (arith, late)))

  extent_decides : (b : BlobRow) → Decides (has_right_extent s.settings b) (HasExtent b)
  extent_decides b =
      let inside : Bool = nat_le (b.extent.at + b.extent.units) s.settings.store_units in
      both_decide (b.size ≤ 16777216) ((b.extent.units ≡ units_of b.size) × (b.extent.at + b.extent.units ≤ s.settings.store_units))
      (is_blob_size b.size) ((b.extent.units == units_of b.size) && inside)
      (le_decides b.size 16777216)
      (both_decide (b.extent.units ≡ units_of b.size) (b.extent.at + b.extent.units ≤ s.settings.store_units) (b.extent.units == units_of b.size) inside
      (Decides-eqb b.extent.units (units_of b.size)) (le_decides (b.extent.at + b.extent.units) s.settings.store_units))

  blob_decides : (b : BlobRow) → Decides (is_right_blob s.settings last_moment s.placed b) (IsRightBlob b)
  blob_decides b =
      let numbered : Bool = is_between 1 s.placed b.no in
      let early : Bool = nat_le (b.deadline - last_moment) s.settings.blob_life_secs in
      decides_as (BlobParts b) (IsRightBlob b) (is_right_blob s.settings last_moment s.placed b) (blob_of_parts b) (parts_of_blob b)
      (both_decide (HasExtent b) (((1 ≤ b.no) × (b.no ≤ s.placed)) × (b.deadline - last_moment ≤ life s)) (has_right_extent s.settings b) (numbered && early)
      (extent_decides b)
      (both_decide ((1 ≤ b.no) × (b.no ≤ s.placed)) (b.deadline - last_moment ≤ life s) numbered early
      (both_decide (1 ≤ b.no) (b.no ≤ s.placed) (nat_le 1 b.no) (nat_le b.no s.placed) (le_decides 1 b.no) (le_decides b.no s.placed))
      (le_decides (b.deadline - last_moment) s.settings.blob_life_secs)))

  -- ---- all rows

  abbrev RowParts : Type 0
  RowParts = All IsRightTask s.tasks × (All (IsSoundBot s) s.bots × All IsRightBlob s.blobs)

  rows_of_parts : RowParts → HaveRightRows s
  rows_of_parts h =
      record {
        tasks = All-weaker IsRightTask (IsSoundTask s) (λ x r. r.0) s.tasks h.0;
        kept = All-weaker IsRightTask (IsKeptTask s.settings last_moment bot_count) (λ x r. r.1) s.tasks h.0;
        bots = h.1.0;
        blobs = All-weaker IsRightBlob (IsSoundBlob s) (λ b r. r.0) s.blobs h.1.1;
        from_one = All-weaker IsRightBlob (λ (b : BlobRow). 1 ≤ b.no) (λ b r. r.1) s.blobs h.1.1;
      }

  parts_of_rows : HaveRightRows s → RowParts
  parts_of_rows h = ((λ k d low. (h.tasks k d low, h.kept k d low)), (h.bots, (λ k d low. (h.blobs k d low, h.from_one k d low))))

  pub rows_decide : Decides (have_right_rows s) (HaveRightRows s)
  rows_decide =
      let tasks : Bool = list_all (is_right_task s.settings last_moment bot_count) s.tasks in
      let bots : Bool = list_all (is_right_bot s.settings last_moment task_count) s.bots in
      let blobs : Bool = list_all (is_right_blob s.settings last_moment s.placed) s.blobs in
      decides_as RowParts (HaveRightRows s) (have_right_rows s) rows_of_parts parts_of_rows
      (both_decide (All IsRightTask s.tasks) (All (IsSoundBot s) s.bots × All IsRightBlob s.blobs) tasks (bots && blobs)
      (all_decides (is_right_task s.settings last_moment bot_count) IsRightTask task_decides s.tasks)
      (both_decide (All (IsSoundBot s) s.bots) (All IsRightBlob s.blobs) bots blobs
      (all_decides (is_right_bot s.settings last_moment task_count) (IsSoundBot s) bot_decides s.bots)
      (all_decides (is_right_blob s.settings last_moment s.placed) IsRightBlob blob_decides s.blobs)))
