-- What a row brings that is loaded behind those before it.
use Rattle.std.proofs.Common.{◌≡◌, ℕ, ◌+◌, ◌<◌, ◌^◌, true, List, [], ◌∷◌, ◌++◌, map, take, length, get_or, inl, inr, sym, ap, ◌∙◌, subst, Option, Some, None, Result, Ok, Err, IfSome, IsTrue, arith}
use Rattle.std.specs.List.{All}
use Rattle.std.specs.Option.{option_map}
use Rattle.std.specs.Prelude.{OnOk}
use Rattle.std.proofs.lemmas.List.{length-take-le}
use Rattle.std.proofs.lemmas.List.Elements.{All-take}
use Rattle.std.proofs.lemmas.List.Sums.{sum_by_more_le}
use Rattle.swarm_machine.specs.Types.{BlobRow, Slice, TaskState, Pending, TaskRow, BotRow, Deadline, PoolState, ClaimLink, UseLink, UuidLink}
use Rattle.swarm_model.specs.BaseRules.{IsBase}
use Rattle.swarm_model.specs.Deadlines.{bot_end, blob_end}
use Rattle.swarm_model.specs.Effects.{no_of_task, no_of_bot}
use Rattle.swarm_model.specs.Finding.{has_state}
use Rattle.swarm_model.specs.History.{count_in, states, tally}
use Rattle.swarm_model.specs.Settings.{keeps_rules}
use Rattle.swarm_model.specs.Slices.{current_slice, kept_from}
use Rattle.swarm_model.specs.Soundness.{IsSoundTask, IsRightTry, AreClaimedApart, AreSentApart}
use Rattle.pool_laws.proofs.Lists.{Among, each}
use Rattle.row_changes.specs.Rows.{IsEarly, IsHeard}
use Rattle.dim_queue.specs.Plain.{QueueState, SameWaits, Enters, IsAbsent}
use Rattle.dim_queue.specs.Taking.{set_with}
use Rattle.pool_index.specs.Links.{links_with}
use Rattle.pool_index.specs.QueuedDeadlines.{DeadlineQueueState, Adds}
use Rattle.pool_index.specs.Sources.{AreWith}
use Rattle.pool_index.specs.Uuids as uuids
use Rattle.index_laws.specs.BlobDeadlines.{AreBlobDeadlines}
use Rattle.index_laws.specs.Loads.{with_task, IsNextTask, IsNextBot, last_claim_link, lost_claim_link, AreNewClaims}
use Rattle.index_laws.specs.RowDeadlines.{task_deadline, AreTaskDeadlines, AreBotDeadlines}
use Rattle.index_laws.specs.TaskClaims.{AreClaims}
use Rattle.index_laws.specs.TaskQueues.{waiting_of, AreQueued}
use Rattle.index_laws.specs.TaskSources.{source_of}
use Rattle.index_laws.specs.TaskUses.{uses_of}
use Rattle.index_laws.specs.TaskUuids.{sent_of, uuid_link, AreUuids}
use Rattle.index_laws.proofs.Keys.{among_of}
use Rattle.index_laws.proofs.Loading.{queue_gains, queue_is_free, claims_gain, claims_are_new, uuids_gain, uuid_is_new, sources_gain, uses_gain, counts_gain, task_deadlines_gain, bot_deadlines_gain, blob_deadlines_gain}
use Rattle.index_laws.proofs.UsesAreFew.{uses_of_rows_weigh}
use Rattle.pool_log.proofs.Limits.{rules_of}
use Rattle.pool_log.proofs.RowFacts.{all_early, all_heard}
use Rattle.common_rows.proofs.LoadedRows.{numbered_take, next_number, more_rows}
use Rattle.swarm_machine.specs.declared.indexes.Indexes.{Indexes}
use Rattle.swarm_machine.specs.Counting.{shifted, AreShifted}
use Rattle.swarm_machine.specs.Indexes.{AreIndexes}
use Rattle.swarm_machine.specs.Loading.{with_bots, with_tasks, with_blobs, IsEntered, IsEndSet, MayLoad}
use Rattle.swarm_machine.specs.Uses.{HasRoomFor, AddsUses}
use Rattle.swarm_machine.specs.UsesBehind.{AreUses}
use Rattle.swarm_machine.proofs.Counts.{counts_are_small}
use Rattle.swarm_machine.proofs.Following.{counted}

-- the rows of a base may be loaded
pub may_load : (base : PoolState) → IsTrue (keeps_rules base.settings) → IsBase base.settings (2 ^ 31) base → MayLoad base
may_load base rules is =
    let most_tasks = (rules_of base.settings rules).most_tasks in
    let most_weight = (rules_of base.settings rules).most_weight in
    let tasks = is.sound.few_tasks in
    let light = is.light in
    record {
      sound = is.sound;
      few_tasks = omega (arith, tasks, most_tasks);
      few_uses = λ digest. let weigh = uses_of_rows_weigh base digest in omega (arith, weigh, light, most_weight);
    }

-- what follows from success
pub on_ok : {T E : Type 0} {A B : Type 0} (r : Result T E) → OnOk r A → (A → B) → OnOk r B
on_ok (Ok v) a f = f a
on_ok (Err e) a f = a

-- ---- a bot

module _ (base : PoolState) (may : MayLoad base) (place : ℕ) (low : place < length base.bots) (row : BotRow) (is : row ≡ get_or base.bots place row) where
  pub bot_heard : IsHeard row
  bot_heard = each IsHeard base.bots (all_heard base may.sound) row (among_of base.bots row (place, low, sym is))

  next_bot : IsNextBot (with_bots base (take place base.bots)) row
  next_bot = (numbered_take no_of_bot 1 place base.bots may.sound.bots_numbered, next_number no_of_bot place base.bots row may.sound.bots_numbered low is)

  pub bot_gained : (old : Indexes) (ends : List (Option Deadline)) → AreIndexes old (with_bots base (take place base.bots)) → IsEndSet row.no (bot_end base row) old.bot_ends ends →
      AreIndexes (record old { bot_ends = ends }) (with_bots base (take (place + 1) base.bots))
  bot_gained old ends are put =
      subst (λ (bots : List BotRow). AreIndexes (record old { bot_ends = ends }) (with_bots base bots)) (sym (more_rows base.bots place row low is)) (record {
        queues = are.queues;
        task_ends = are.task_ends;
        bot_ends = subst (λ (all : List (Option Deadline)). AreBotDeadlines all (with_bots base (take place base.bots ++ row ∷ []))) (sym put.is_set)
            (bot_deadlines_gain (with_bots base (take place base.bots)) row put.covered next_bot (λ n. sym (put.same n) ∙ are.bot_ends n) put.place);
        blob_ends = record { each = are.blob_ends.each };
        claims = are.claims;
        uuids = are.uuids;
        sources = are.sources;
        uses = record { counted = are.uses.counted };
        counts = are.counts;
      })

-- ---- a task

-- it enters the queue that was made ready for it
pub entered : (task : TaskRow) (slice : Slice) (old mid new : List QueueState) → has_state Pending task ≡ true → current_slice task ≡ Some slice → SameWaits old mid →
    Enters (record { priority = task.request.priority; number = task.no }) (set_with slice.properties.dimensions (kept_from task)) mid new → IsEntered (waiting_of task) old new
entered task slice old mid new waits is same enters = rw (waits, is) (λ w set. (
  λ h. elim ((enters w set).0 h) [ inl e ↦ inl e | inr k ↦ inr ((same w set).0 k) ],
  λ k. elim k [ inl e ↦ (enters w set).1 (inl e) | inr h ↦ (enters w set).1 (inr ((same w set).1 h)) ],
))

module _ (base : PoolState) (may : MayLoad base) (place : ℕ) (low : place < length base.tasks) (row : TaskRow) (is : row ≡ get_or base.tasks place row) where
  -- the pool with the tasks before it
  abbrev before : PoolState
  before = with_tasks base (take place base.tasks)

  among : Among row base.tasks
  among = among_of base.tasks row (place, low, sym is)

  next_task : IsNextTask before row
  next_task = (numbered_take no_of_task 1 place base.tasks may.sound.tasks_numbered, next_number no_of_task place base.tasks row may.sound.tasks_numbered low is)

  pub task_early : IsEarly row
  task_early = each IsEarly base.tasks (all_early base may.sound) row among

  right_try : IfSome row.attempt (IsRightTry row.retried)
  right_try = (each (IsSoundTask base) base.tasks may.sound.tasks row among).tries

  claims_apart : All (AreClaimedApart row) (take place base.tasks)
  claims_apart = All-take (AreClaimedApart row) place base.tasks (each (λ (t : TaskRow). All (AreClaimedApart t) base.tasks) base.tasks may.sound.claims row among)

  sent_apart : All (AreSentApart row) (take place base.tasks)
  sent_apart = All-take (AreSentApart row) place base.tasks (each (λ (t : TaskRow). All (AreSentApart t) base.tasks) base.tasks may.sound.sent row among)

  pub waits_nowhere : (queues : List QueueState) → AreQueued queues (take place base.tasks) → IsAbsent row.no queues
  waits_nowhere queues are = queue_is_free before row queues next_task are

  pub new_claims : (links : List ClaimLink) → AreClaims links (take place base.tasks) → AreNewClaims links row
  new_claims links are = claims_are_new before row links next_task claims_apart right_try are

  pub new_uuid : (links : List UuidLink) → AreUuids links (take place base.tasks) → IfSome (option_map uuid_link (sent_of row)) (λ link. uuids.HasNone links (uuids.key_of link))
  new_uuid links are = uuid_is_new before row links next_task sent_apart are

  -- its uses can be counted
  pub room_for_row : (links : List UseLink) → AreUses links before → HasRoomFor (λ digest. uses_of digest row) links
  room_for_row links are = record {
    small = λ digest.
        (let so_far = are.counted digest in
        let within = sum_by_more_le (uses_of digest) base.tasks place row low in
        let own : uses_of digest row ≡ uses_of digest (get_or base.tasks place row) = ap (uses_of digest) is in
        let few = may.few_uses digest in
        omega (arith, so_far, within, own, few));
  }

  pub few_counts : (counts : List ℕ) → counts ≡ tally before → All (λ (count : ℕ). count < 2 ^ 32) counts
  few_counts counts are =
      let so_far : length (take place base.tasks) ≡ place = length-take-le place base.tasks (omega (arith, low)) in
      let few = may.few_tasks in
      subst (All (λ (count : ℕ). count < 2 ^ 32)) (sym are) (counts_are_small before (2 ^ 32) (omega (arith, so_far, few, low)))

  counts_gained : (old new : List ℕ) → old ≡ tally before → AreShifted None (Some row.state) old new → new ≡ tally (with_task before row)
  counts_gained old new are shift = shift (count_in before) are ∙ (λ i. map (λ state. one state i) states)
    where
      one : (state : TaskState) → shifted None (Some row.state) state (count_in before state) ≡ count_in (with_task before row) state
      one state = let law = counts_gain before row state in let own = counted state (Some row) in omega (arith, law, own)

  uses_gained : (old new : List UseLink) → AreUses old before → AddsUses (λ digest. uses_of digest row) old new → AreUses new (with_task before row)
  uses_gained old new are adds = record {
    counted = λ digest. (let so_far = are.counted digest in let more = adds.gained digest in let law = uses_gain before row digest in omega (arith, so_far, more, law));
  }

  pub task_gained : (old new : Indexes) (mid : List ClaimLink) → AreIndexes old before → IsEntered (waiting_of row) old.queues.queues new.queues.queues →
      IsEndSet row.no (task_deadline base row) old.task_ends new.task_ends → mid ≡ links_with (last_claim_link row) old.claims.links → new.claims.links ≡ links_with (lost_claim_link row) mid →
      new.uuids.links ≡ links_with (option_map uuid_link (sent_of row)) old.uuids.links → AreWith (source_of row) old.sources.links new.sources.links →
      AddsUses (λ digest. uses_of digest row) old.uses new.uses → AreShifted None (Some row.state) old.counts new.counts → new.bot_ends ≡ old.bot_ends → new.blob_ends ≡ old.blob_ends →
      AreIndexes new (with_tasks base (take (place + 1) base.tasks))
  task_gained old new mid are enters put last lost sent source uses counts bots blobs =
      subst (λ (tasks : List TaskRow). AreIndexes new (with_tasks base tasks)) (sym (more_rows base.tasks place row low is)) (record {
        queues = queue_gains (take place base.tasks) row old.queues.queues new.queues.queues are.queues enters;
        task_ends = subst (λ (all : List (Option Deadline)). AreTaskDeadlines all (with_task before row)) (sym put.is_set)
            (task_deadlines_gain before row put.covered next_task (λ n. sym (put.same n) ∙ are.task_ends n) put.place);
        bot_ends = subst (λ (all : List (Option Deadline)). AreBotDeadlines all (with_task before row)) (sym bots) are.bot_ends;
        blob_ends = subst (λ (q : DeadlineQueueState). AreBlobDeadlines q.deadlines (with_task before row)) (sym blobs) (record { each = are.blob_ends.each });
        claims = claims_gain (take place base.tasks) row old.claims.links mid new.claims.links are.claims last lost;
        uuids = uuids_gain (take place base.tasks) row old.uuids.links new.uuids.links are.uuids sent;
        sources = sources_gain before row old.sources.links new.sources.links next_task are.sources source;
        uses = uses_gained old.uses new.uses are.uses uses;
        counts = counts_gained old.counts new.counts are.counts counts;
      })

-- ---- a blob

module _ (base : PoolState) (place : ℕ) (low : place < length base.blobs) (row : BlobRow) (is : row ≡ get_or base.blobs place row) where
  pub blob_gained : (old : Indexes) (ends : DeadlineQueueState) → AreIndexes old (with_blobs base (take place base.blobs)) → Adds (blob_end row) old.blob_ends.deadlines ends.deadlines →
      AreIndexes (record old { blob_ends = ends }) (with_blobs base (take (place + 1) base.blobs))
  blob_gained old ends are adds =
      subst (λ (blobs : List BlobRow). AreIndexes (record old { blob_ends = ends }) (with_blobs base blobs)) (sym (more_rows base.blobs place row low is)) (record {
        queues = are.queues;
        task_ends = are.task_ends;
        bot_ends = are.bot_ends;
        blob_ends = blob_deadlines_gain (with_blobs base (take place base.blobs)) row old.blob_ends.deadlines ends.deadlines are.blob_ends adds;
        claims = are.claims;
        uuids = are.uuids;
        sources = are.sources;
        uses = record { counted = are.uses.counted };
        counts = are.counts;
      })
