-- What an entry that may follow finds in the pool.
use Rattle.std.proofs.Common.{◌≡◌, ℕ, ◌+◌, ◌<◌, ◌≤◌, ◌==◌, ◌&&◌, ◌||◌, not, Bool, true, false, cond, List, [], ◌∷◌, ◌⊎◌, inl, inr, length, drop, length-drop, refl, subst, arith, Option, Some, None, IfSome, IsTrue, IsSomeAnd, is_some, is_none, map, filter_map, find, eqb-true, leb-false, ap, sym, ◌∙◌}
use Rattle.std.specs.Prelude.{⊤, nat_le, slice_get}
use Rattle.std.specs.Bool.{MatchBool}
use Rattle.std.specs.List.{All, position_from}
use Rattle.std.specs.Option.{option_map, option_map_or, option_and_then}
use Rattle.std.proofs.lemmas.Bool.{and_parts, cond_both, eq-eqb, ne_eqb, leb-true}
use Rattle.std.proofs.lemmas.Option.{same_Some, slice_get_within}
use Rattle.std.proofs.lemmas.List.Elements.{All-append, All-map}
use Rattle.pool_laws.specs.Types.{BlobRow, BotDims, NewTask, Slice, Attempt, Chunk, Last, Retried, PoolSettings, TaskRow, BotRow, PoolState, Deadline, Cause, Decision, Reuse, Entry, EventKind, EntryKind, Request}
use Rattle.blob_rows.specs.BlobRows.{is_blob}
use Rattle.dimensions.specs.Alike.{same}
use Rattle.dimensions.specs.Choosing.{when, ◌or_else◌}
use Rattle.dimensions.specs.Rules.{is_empty}
use Rattle.task_props.specs.Canonical.{hash}
use Rattle.task_props.specs.Alike.{same_task}
use Rattle.task_props.specs.Checked.{is_checked, pool_of_task}
use Rattle.task_props.proofs.Checked.{slices_counted}
use Rattle.swarm_model.specs.declared.permission.Permission.TheVariants as permission
use Rattle.swarm_model.specs.declared.deadline.Cause.TheVariants as cause
use Rattle.swarm_model.specs.declared.rule.Rule.TheVariants as rule
use Rattle.swarm_model.specs.declared.rule.Unfit.TheVariants as unfit
use Rattle.swarm_model.specs.declared.reply.Reply.TheVariants as reply
use Rattle.swarm_model.specs.declared.entry.EntryKind.TheVariants as kind
use Rattle.swarm_model.specs.declared.request.Request.TheVariants as ask
use Rattle.swarm_model.specs.Words.{is_between}
use Rattle.swarm_model.specs.Finding.{is_final, is_task, task_of, bot_named, blob_of, blob_numbered, is_called}
use Rattle.swarm_model.specs.Fits.{fits, fits_chunk, is_name}
use Rattle.swarm_model.specs.Blobs.{lacks_chunk, missing_file, inputs_of, can_take}
use Rattle.swarm_model.specs.Effects.{fresh_chunk}
use Rattle.swarm_model.specs.Output.{chunks_within}
use Rattle.swarm_model.specs.Uses.{is_used}
use Rattle.swarm_model.specs.Views.{files_of}
use Rattle.swarm_model.specs.Soundness.{IsSound}
use Rattle.swarm_model.specs.Slices.{is_open, admit, current_slice, first}
use Rattle.swarm_model.specs.Reuse.{sent, reuse, ended_well, is_young, ran_hash}
use Rattle.swarm_model.specs.Answers.{decide, entry_at, resubmitted, reuse_outcome, accepted, accepted_at, tasks_full, named_task, whole_task, whole_of, lost_row, if_lost, result_of, show_bot, known_bot, handshake, poll, busy, run_on, claim, claim_again, as_claimed, claimed, claims, unfit_of, unfit_refusal, event, terminate, reply_with_entry, or_refuse, has_try, if_named, may, denied, cancel, cancel_row, stop, is_killed, is_kept, updates, chunk_rule, store_full, unplaced_chunk, is_first_report, report, report_again, report_running, report_on, not_claimant, update, update_row, refusal, file_missing, output_gone, chunks_shown, stdout_of, put_blob, show_blob}
use Rattle.swarm_model.specs.Deadlines.{settled, slice_end, slice_limit, silence_end, silence_limit, runner_of, bot_end, blob_end, deadlines, due_entry}
use Rattle.swarm_model.specs.Entries.{asks, is_deadline, Asked}
use Rattle.swarm_model.specs.History.{MayFollow, IsDue, IsAnswered}
use Rattle.pool_laws.proofs.Preconditions.{Finds, FindsBlob, HasTask, waits, runs}
use Rattle.pool_laws.proofs.Lists.{Among, Found, all, find_is, found_once, all_filter_map}
use Rattle.pool_laws.proofs.Earliest.{due_at, due_has}
use Rattle.pool_laws.proofs.Answering.{by_when, by_map, by_with}
use Rattle.pool_laws.proofs.Reusing.{reuse_is}

-- a place that is found lies within the list
position_within : (test : Slice → Bool) (start : ℕ) (xs : List Slice) (place : ℕ) → position_from test start xs ≡ Some place → place < start + length xs
position_within test start [] place h = absurd (cc (h))
position_within test start (x ∷ xs) place h = by_test (test x) h (position_within test (start + 1) xs place)
  where
    by_test : (b : Bool) → cond b (Some start) (position_from test (start + 1) xs) ≡ Some place → (position_from test (start + 1) xs ≡ Some place → place < start + 1 + length xs) → place < start + length (x ∷ xs)
    by_test true g rest = (let e : start ≡ place = same_Some _ _ g in omega (arith, e))
    by_test false g rest = (let r = rest g in omega (arith, r))

-- the same, where the list is a rest of another
drop_within : (start : ℕ) (xs : List Slice) (place : ℕ) → place < start + length (drop start xs) → start ≤ length xs → place < length xs
drop_within start xs place low few = omega (arith, length-drop start xs)

-- a slice to which a task comes is one of its own
pub admit_within : (s : PoolState) (slices : List Slice) (start place : ℕ) → start ≤ length slices → admit s slices start ≡ Some place → place < length slices
admit_within s slices start place few h = drop_within start slices place (position_within (is_open s) start (drop start slices) place h) few

-- a row that shows a run that was tried again
pub record IsLost (task row : TaskRow) : Type 0 where
  pub lost : Retried
  pub retried : task.retried ≡ Some lost
  pub shows : lost_row task lost ≡ row

-- a task that is named by its number and a try, and the row that shows it
pub record IsNamed (s : PoolState) (number try_no : ℕ) (row : TaskRow) : Type 0 where
  pub task : TaskRow
  pub there : task_of s number ≡ Some task
  pub among : Among task s.tasks
  pub named : task.no ≡ number
  pub row_named : row.no ≡ number
  pub has : (try_no == 0 || has_try try_no row.attempt) ≡ true
  pub shows : (task ≡ row) ⊎ IsLost task row

abbrev Adds : PoolState → Decision → Type 0
Adds s told = IfSome told.entry (Finds s)

-- a new task that is accepted comes to one of its slices
accepted_finds : (s : PoolState) (who : List ℕ) (request : NewTask) (o : Option ℕ) → is_checked request ≡ true → missing_file s (inputs_of request.task_slices) ≡ None → sent s who request.request_uuid ≡ None → length s.tasks < s.settings.most_tasks → admit s request.task_slices 0 ≡ o →
    Adds s (accepted_at s who request o)
accepted_finds s who request (Some place) checked inputs unsent room h =
    record { next = refl; room = room; idle = refl; checked = checked; has_inputs = inputs; has_slice = admit_within s request.task_slices 0 place (omega arith) h; unsent = unsent; takes = tt }
accepted_finds s who request None checked inputs unsent room h =
    let many = (slices_counted request checked).0 in record { next = refl; room = room; idle = refl; checked = checked; has_inputs = inputs; has_slice = omega (arith, many); unsent = unsent; takes = tt }

-- and so does one that takes the outcome of another
taken_finds : (s : PoolState) (who : List ℕ) (m : ℕ) (request : NewTask) (r : Reuse) → is_checked request ≡ true → missing_file s (inputs_of request.task_slices) ≡ None → sent s who request.request_uuid ≡ None → length s.tasks < s.settings.most_tasks → reuse s m request.task_slices ≡ Some r →
    Adds s (reuse_outcome s who request r)
taken_finds s who m request r checked inputs unsent room h =
    let f = reuse_is s m 0 request.task_slices r h in
    let found = f.fits.found in
    let placed = f.placed in
    let at : f.index ≡ r.slice = omega (arith, placed) in
    let reached : slice_get request.task_slices r.slice ≡ Some f.own = subst (λ (i : ℕ). slice_get request.task_slices i ≡ Some f.own) at f.reached in
    let parts = and_parts (ended_well f.source) (is_young s.settings.reuse_age_secs m f.source && ran_hash (hash f.own.properties) f.source) found.passes in
    record {
      next = refl;
      room = room;
      idle = refl;
      checked = checked;
      has_inputs = inputs;
      has_slice = slice_get_within request.task_slices r.slice f.own reached;
      unsent = unsent;
      takes = record {
        completed = refl;
        own = f.own;
        reached = reached;
        idempotent = f.fits.idempotent;
        source = f.source;
        among = found.among;
        named = f.named;
        ended = parts.0;
        alike = (and_parts (is_young s.settings.reuse_age_secs m f.source) (ran_hash (hash f.own.properties) f.source) parts.1).1;
      };
    }

-- a bot that is named is one of the pool, of that name
bot_is : (s : PoolState) (name : List ℕ) (bot : BotRow) → bot_named s name ≡ Some bot → Found (is_called name) s.bots bot
bot_is s name bot e = find_is (is_called name) s.bots bot e

pub or_right : (a : Bool) {b : Bool} → b ≡ true → (a || b) ≡ true
or_right true e = refl
or_right false e = e

-- a task that is named has the number
pub named_is : (s : PoolState) (number try_no : ℕ) (row : TaskRow) → named_task s number try_no ≡ Some row → IsNamed s number try_no row
named_is s number try_no row e = by_row (task_of s number) refl e
  where
    by_lost : (x : TaskRow) (lost : Retried) (b : Bool) → (lost.attempt.try_no == try_no) ≡ b → x.retried ≡ Some lost → task_of s number ≡ Some x → when b (lost_row x lost) ≡ Some row → IsNamed s number try_no row
    by_lost x lost true t is g h =
        subst (IsNamed s number try_no) (same_Some _ _ h) (let f = find_is (is_task number) s.tasks x g in
        let n = eqb-true x.no number f.passes in
        record { task = x; there = g; among = f.among; named = n; row_named = n; has = or_right (try_no == 0) t; shows = inr (record { lost = lost; retried = is; shows = refl }) })
    by_lost x lost false t is g h = absurd (cc (h))

    by_retried : (x : TaskRow) (r : Option Retried) → x.retried ≡ r → task_of s number ≡ Some x → option_and_then (if_lost try_no x) r ≡ Some row → IsNamed s number try_no row
    by_retried x None is g h = absurd (cc (h))
    by_retried x (Some lost) is g h = by_lost x lost (lost.attempt.try_no == try_no) refl is g h

    by_try : (x : TaskRow) (b : Bool) → (try_no == 0 || has_try try_no x.attempt) ≡ b → task_of s number ≡ Some x → (when b x or_else option_and_then (if_lost try_no x) x.retried) ≡ Some row → IsNamed s number try_no row
    by_try x true t g h = subst (IsNamed s number try_no) (same_Some _ _ h) (let f = find_is (is_task number) s.tasks x g in
        let n = eqb-true x.no number f.passes in record { task = x; there = g; among = f.among; named = n; row_named = n; has = t; shows = inl refl })
    by_try x false t g h = by_retried x x.retried refl g h

    by_row : (o : Option TaskRow) → task_of s number ≡ o → option_and_then (if_named try_no) o ≡ Some row → IsNamed s number try_no row
    by_row None g h = absurd (cc (h))
    by_row (Some x) g h = by_try x (try_no == 0 || has_try try_no x.attempt) refl g h

-- a task that is named as a whole is one of the pool
pub record IsWhole (s : PoolState) (number : ℕ) (row : TaskRow) : Type 0 where
  pub there : task_of s number ≡ Some row
  pub among : Among row s.tasks
  pub named : row.no ≡ number

pub whole_is : (s : PoolState) (number try_no : ℕ) (row : TaskRow) → whole_task s number try_no ≡ Some row → IsWhole s number row
whole_is s number try_no row e = by_row (task_of s number) refl e
  where
    by_try : (x : TaskRow) (b : Bool) → task_of s number ≡ Some x → when b x ≡ Some row → IsWhole s number row
    by_try x true g h = subst (IsWhole s number) (same_Some _ _ h) (let f = find_is (is_task number) s.tasks x g in record { there = g; among = f.among; named = eqb-true x.no number f.passes })
    by_try x false g h = absurd (cc (h))

    by_row : (o : Option TaskRow) → task_of s number ≡ o → option_and_then (whole_of try_no) o ≡ Some row → IsWhole s number row
    by_row None g h = absurd (cc (h))
    by_row (Some x) g h = by_try x (is_some (if_named try_no x)) g h

-- a cancel finds a task that waits, or that runs
cancel_finds : (s : PoolState) (who : List ℕ) (kill : Bool) (row : TaskRow) → Among row s.tasks → Adds s (cancel s who kill row)
cancel_finds s who kill row a =
    by_when (Adds s) (not (may s who permission.CancelTask row)) (denied s permission.CancelTask) (cancel_row kill row) (λ t. tt) (λ t.
    by_when (Adds s) (waits row) _ _ (λ w. record { task = row; among = a; named = refl; passes = w }) (λ w.
    by_when (Adds s) (runs row) (stop kill row) _ (by_kill kill) (λ r. tt)))
  where
    by_kill : (k : Bool) → runs row ≡ true → Adds s (stop k row)
    by_kill false r = tt
    by_kill true r = cond_both (is_killed row.attempt) None (Some (kind.Kill row.no)) (λ (o : Option EntryKind). IfSome o (Finds s)) (λ t. tt) (λ t. record { task = row; among = a; named = refl; passes = r })

-- a result adds nothing
result_finds : (s : PoolState) (who : List ℕ) (row : TaskRow) → Adds s (result_of s who row)
result_finds s who row = by_when (Adds s) (not (may s who permission.ListTasks row)) (denied s permission.ListTasks) _ (λ t. tt) (λ t. tt)

-- nor does a part of an output
stdout_finds : (s : PoolState) (who : List ℕ) (offset most : ℕ) (row : TaskRow) → Adds s (stdout_of s who offset most row)
stdout_finds s who offset most row =
    by_when (Adds s) (not (may s who permission.ListTasks row)) (denied s permission.ListTasks) _ (λ t. tt) (λ t.
    by_map (Adds s) output_gone (find (lacks_chunk s) (chunks_within offset (offset + most) (chunks_shown s row))) _ (λ chunk e. tt) (λ e. tt))

-- a report of a run that is over adds nothing that any fact needs
over_finds : (s : PoolState) (bot : BotRow) (row : TaskRow) (chunk : Option Chunk) (last : Option Last) → is_final row.state ≡ true → Adds s (update_row s bot chunk last row)
over_finds s bot row chunk last final =
    by_with (Adds s) row.attempt rule.NoTask (report_on s bot row chunk last) tt (λ attempt e.
    by_when (Adds s) (not (attempt.bot == bot.no)) (not_claimant s attempt) (report s bot row chunk last attempt) (λ t. tt) (λ t.
    by_when (Adds s) (is_final row.state) (report_again bot row chunk last attempt) (report_running s bot row chunk last attempt)
    (λ f. cond_both (is_kept attempt chunk last) _ _ (Adds s) (λ k. tt) (λ k. tt)) (λ f. absurd (cc (f, final)))))

pub not_not : (c : Bool) → not c ≡ false → c ≡ true
not_not true e = refl
not_not false e = absurd (cc (e))

-- a report finds the run of its bot, where it ends it or brings a chunk
report_finds : (s : PoolState) (bot : BotRow) (row : TaskRow) (chunk : Option Chunk) (last : Option Last) (o : Option Attempt) → Among bot s.bots → task_of s row.no ≡ Some row → Among row s.tasks → row.attempt ≡ o →
    option_map_or fits_chunk chunk true ≡ true → Adds s (or_refuse o rule.NoTask (report_on s bot row chunk last))
report_finds s bot row chunk last None b there a has fits = tt
report_finds s bot row chunk last (Some attempt) b there a has fits =
    by_when (Adds s) (not (attempt.bot == bot.no)) (not_claimant s attempt) (report s bot row chunk last attempt) (λ t. tt) (λ t.
    by_when (Adds s) (is_final row.state) (report_again bot row chunk last attempt) (report_running s bot row chunk last attempt) (λ f. cond_both (is_kept attempt chunk last) _ _ (Adds s) (λ k. tt) (λ k. tt)) (λ f.
    by_map (Adds s) refusal (option_and_then (chunk_rule attempt) chunk) _ (λ why e. tt) (λ in_turn.
    by_map (Adds s) file_missing (missing_file s (files_of last)) _ (λ file e. tt) (λ has_files.
    by_map (Adds s) (λ (c : Chunk). store_full s c.size) (unplaced_chunk s (fresh_chunk (Some attempt) chunk)) _ (λ c e. tt) (λ has_place.
    by_when (Adds s) (is_first_report attempt chunk last) (updates attempt (kind.Update bot.no row.no attempt.try_no chunk last)) (updates attempt (kind.Contact bot.no)) (λ is_new.
    record {
      bot = bot;
      known = b;
      called = refl;
      task = row;
      there = there;
      among = a;
      named = refl;
      goes_on = f;
      attempt = attempt;
      attempted = has;
      by_bot = eqb-true attempt.bot bot.no (not_not (attempt.bot == bot.no) t);
      in_turn = in_turn;
      has_files = has_files;
      has_place = has_place;
      is_new = is_new;
      fits = fits;
    }) (λ n. tt))))))

-- what a report may hold
pub update_fits : (settings : PoolSettings) (name : List ℕ) (task try_no : ℕ) (chunk : Option Chunk) (last : Option Last) → IsTrue (fits settings (ask.Update name task try_no chunk last)) →
    ((try_no == 0) ≡ false) × (option_map_or fits_chunk chunk true ≡ true)
update_fits settings name task try_no chunk last may_ask =
    let numbers = and_parts (is_between 1 262144 task) _ (and_parts (is_name name) _ may_ask).1 in
    let one = and_parts (is_between 1 2 try_no) _ numbers.1 in
    let least = leb-true 1 try_no (and_parts (nat_le 1 try_no) _ one.0).0 in
    (ne_eqb try_no 0 (λ e. omega (arith, least, e)), (and_parts (option_map_or fits_chunk chunk true) _ one.1).0)

-- a blob that is put is present, or has a place
put_finds : (s : PoolState) (named actual : List ℕ) (size : ℕ) → Adds s (put_blob s named actual size)
put_finds s named actual size =
    by_when (Adds s) (not (same actual named)) (refusal (rule.DigestDiffers actual)) _ (λ t. tt) (λ t.
    by_when (Adds s) (not (can_take s named size)) (store_full s size) (reply_with_entry (reply.Put (is_none (blob_of s named))) (kind.Put named size)) (λ f. tt) (λ f. not_not (can_take s named size) f))

-- a handshake finds its bot, or room for a new one
handshake_finds : (s : PoolState) (name session : List ℕ) (dims : BotDims) (q : List ℕ) → Adds s (handshake s name session dims q)
handshake_finds s name session dims q =
    by_map (Adds s) (known_bot name session dims q) (bot_named s name) _ (λ bot e. cond_both (same bot.session session) _ _ (Adds s) (λ t. tt) (λ t.
    let f = bot_is s name bot e in inr (record { bot = bot; among = f.among; named = refl; called = f.passes }))) (λ unknown.
    by_when (Adds s) (nat_le s.settings.most_bots (length s.bots)) _ _ (λ t. tt) (λ t. inl (record { unknown = unknown; next = refl; room = leb-false _ _ t })))

-- a poll finds nothing that any fact needs
poll_finds : (s : PoolState) (dims : BotDims) (q : List ℕ) (bot : BotRow) → Adds s (poll s dims q bot)
poll_finds s dims q bot =
    by_when (Adds s) bot.dead _ _ (λ t. tt) (λ t.
    by_map (Adds s) busy (run_on s bot) _ (λ x e. tt) (λ e.
    by_when (Adds s) bot.terminating _ _ (λ t. tt) (λ t.
    by_when (Adds s) (not (is_empty q)) _ _ (λ t. tt) (λ t.
    by_when (Adds s) (is_some (first s bot.no dims)) _ _ (λ t. tt) (λ t. tt)))))

-- a claim finds a fit bot that runs nothing, and the first task that waits for it
claim_finds : (s : PoolState) (id : List ℕ) (bot : BotRow) → Among bot s.bots → Adds s (claim s id bot)
claim_finds s id bot a =
    by_map (Adds s) (claim_again bot id) (claimed s bot.no id) _ (λ task e. cond_both (is_final (as_claimed bot.no id task).state) _ _ (Adds s) (λ t. tt) (λ t. tt)) (λ fresh.
    by_map (Adds s) unfit_refusal (unfit_of bot) _ (λ why e. tt) (λ fit.
    by_map (Adds s) busy (run_on s bot) _ (λ task e. tt) (λ idle.
    by_map (Adds s) (claims bot id) (first s bot.no bot.dims) _ (λ task gets.
    record { bot = bot; among = a; named = refl; fresh = fresh; fit = fit; idle = idle; task = task; gets = gets; task_named = refl }) (λ e. tt))))

-- nor does an event
event_finds : (s : PoolState) (which : EventKind) (text : List ℕ) (bot : BotRow) → Adds s (event which text bot)
event_finds s which text bot = by_when (Adds s) (bot.dead && is_none bot.task) (unfit_refusal unfit.Dead) (reply_with_entry reply.Noted (kind.Event bot.no which text)) (λ t. tt) (λ t. tt)

-- so does every request that the pool may be asked
tell_finds : (s : PoolState) (who : List ℕ) (m : ℕ) (request : Request) → IsTrue (fits s.settings request) → Adds s (decide s who m request)
tell_finds s who m (ask.New request) may =
    let checked = (and_parts (is_checked request) (same (pool_of_task request) s.settings.name) may).0 in
    by_map (Adds s) (resubmitted request) (sent s who request.request_uuid) _ (λ row e. cond_both (same_task row.request request) _ _ (Adds s) (λ t. tt) (λ t. tt)) (λ unsent.
    by_map (Adds s) file_missing (missing_file s (inputs_of request.task_slices)) _ (λ file e. tt) (λ has_inputs.
    by_when (Adds s) (nat_le s.settings.most_tasks (length s.tasks)) (tasks_full s) _ (λ t. tt) (λ t.
    by_map (Adds s) (reuse_outcome s who request) (reuse s m request.task_slices) (accepted s who request) (λ found e. taken_finds s who m request found checked has_inputs unsent (leb-false _ _ t) e) (λ e.
    accepted_finds s who request (admit s request.task_slices 0) checked has_inputs unsent (leb-false _ _ t) refl))))
tell_finds s who m (ask.Cancel task try_no kill) may =
    by_with (Adds s) (whole_task s task try_no) rule.NoTask (cancel s who kill) tt (λ row e. cancel_finds s who kill row (whole_is s task try_no row e).among)
tell_finds s who m (ask.Result task try_no) may = by_with (Adds s) (named_task s task try_no) rule.NoTask (result_of s who) tt (λ row e. result_finds s who row)
tell_finds s who m (ask.Stdout task try_no offset most) may =
    by_with (Adds s) (named_task s task try_no) rule.NoTask (stdout_of s who offset most) tt (λ row e. stdout_finds s who offset most row)
tell_finds s who m (ask.List state limit below) may = tt
tell_finds s who m (ask.Count state) may = tt
tell_finds s who m (ask.Handshake name session dims q) may = handshake_finds s name session dims q
tell_finds s who m (ask.Poll name dims q) may = by_with (Adds s) (bot_named s name) rule.NoBot (poll s dims q) tt (λ bot e. poll_finds s dims q bot)
tell_finds s who m (ask.Claim name id) may = by_with (Adds s) (bot_named s name) rule.NoBot (claim s id) tt (λ bot e. claim_finds s id bot (bot_is s name bot e).among)
tell_finds s who m (ask.Event name which text) may = by_with (Adds s) (bot_named s name) rule.NoBot (event which text) tt (λ bot e. event_finds s which text bot)
tell_finds s who m (ask.Update name task try_no chunk last) may =
    by_with (Adds s) (bot_named s name) rule.NoBot (update s task try_no chunk last) tt (λ bot e.
    by_with (Adds s) (named_task s task try_no) rule.NoTask (update_row s bot chunk last) tt (λ row f.
    let is = named_is s task try_no row f in
    by_shown (bot_is s name bot e).among row is is.shows))
  where
    by_shown : {bot : BotRow} → Among bot s.bots → (row : TaskRow) (is : IsNamed s task try_no row) → (is.task ≡ row) ⊎ IsLost is.task row → Adds s (update_row s bot chunk last row)
    by_shown {bot} b row is (inl same) =
        report_finds s bot row chunk last row.attempt b (ap (task_of s) is.row_named ∙ is.there ∙ ap (λ (x : TaskRow). Some x) same) (subst (λ (x : TaskRow). Among x s.tasks) same is.among) refl
        (update_fits s.settings name task try_no chunk last may).1
    by_shown {bot} b row is (inr lost) = over_finds s bot row chunk last (ap (λ (x : TaskRow). is_final x.state) (sym lost.shows))
tell_finds s who m (ask.Terminate name) may =
    by_with (Adds s) (bot_named s name) rule.NoBot terminate tt (λ bot e. cond_both bot.terminating _ _ (Adds s) (λ t. tt) (λ t. tt))
tell_finds s who m (ask.Bots limit after) may = tt
tell_finds s who m (ask.Bot name) may = by_with (Adds s) (bot_named s name) rule.NoBot (show_bot s) tt (λ bot e. tt)
tell_finds s who m (ask.PutBlob named actual size) may = put_finds s named actual size
tell_finds s who m (ask.GetBlob digest) may = by_with (Adds s) (blob_of s digest) (rule.BlobMissing digest) show_blob tt (λ blob e. tt)
tell_finds s who m (ask.FindMissing blobs) may = tt

-- what is due is the deadline of a row

-- a blob of that number has the deadline
record HasDeadline (s : PoolState) (m n : ℕ) : Type 0 where
  blob : BlobRow
  among : Among blob s.blobs
  named : blob.no ≡ n
  come : blob.deadline ≡ m

abbrev DueRow : PoolState → ℕ → Cause → ℕ → Type 0
DueRow s m cause.Slice n = HasTask s n waits
DueRow s m cause.Silence n = HasTask s n runs
DueRow s m cause.Bot n = ⊤
DueRow s m cause.Blob n = HasDeadline s m n

abbrev IsOfRow : PoolState → Deadline → Type 0
IsOfRow s d = DueRow s d.moment d.cause d.number

-- a slice runs out where a task waits
slice_row : (s : PoolState) (task : TaskRow) → Among task s.tasks → IfSome (slice_end task) (IsOfRow s)
slice_row s task a = cond_both (waits task) _ None (λ (o : Option Deadline). IfSome o (IsOfRow s)) (λ w. by_slice w (current_slice task)) (λ w. tt)
  where
    by_slice : waits task ≡ true → (o : Option Slice) → IfSome (option_map (slice_limit task) o) (IsOfRow s)
    by_slice w None = tt
    by_slice w (Some slice) = record { task = task; among = a; named = refl; passes = w }

-- a bot is silent where a task runs
silence_row : (s : PoolState) (task : TaskRow) → Among task s.tasks → IfSome (silence_end s task) (IsOfRow s)
silence_row s task a = cond_both (runs task) _ None (λ (o : Option Deadline). IfSome o (IsOfRow s)) (λ w. by_bot w (runner_of s task)) (λ w. tt)
  where
    by_bot : runs task ≡ true → (o : Option BotRow) → IfSome (option_map (silence_limit task) o) (IsOfRow s)
    by_bot w None = tt
    by_bot w (Some bot) = record { task = task; among = a; named = refl; passes = w }

-- so each deadline is that of a row
deadline_row : (s : PoolState) → All (IsOfRow s) (deadlines s)
deadline_row s =
    All-append (IsOfRow s) (filter_map slice_end s.tasks) _ (all_filter_map slice_end (IsOfRow s) s.tasks (slice_row s))
    (All-append (IsOfRow s) (filter_map (silence_end s) s.tasks) _
    (all_filter_map (silence_end s) (IsOfRow s) s.tasks (silence_row s))
    (All-append (IsOfRow s) (filter_map (bot_end s) s.bots) (map blob_end s.blobs)
    (all_filter_map (bot_end s) (IsOfRow s) s.bots (λ bot a. cond_both bot.dead None _ (λ (o : Option Deadline). IfSome o (IsOfRow s)) (λ t. tt) (λ t. tt)))
    (All-map (IsOfRow s) blob_end s.blobs (all (λ (blob : BlobRow). HasDeadline s blob.deadline blob.no) s.blobs (λ blob a. record { blob = blob; among = a; named = refl; come = refl })))))

-- and every deadline
settled_finds : (s : PoolState) (m : ℕ) (c : Cause) (n : ℕ) → DueRow s m c n → Finds s (settled s c n)
settled_finds s m cause.Slice n h = record { waiting = h; goes = refl }
settled_finds s m cause.Silence n h = h
settled_finds s m cause.Bot n h = tt
settled_finds s m cause.Blob n h = tt

-- and so does the entry that is due
due_finds : (s : PoolState) (m pass : ℕ) (e : Entry) → due_entry s m pass ≡ Some e → Finds s e.kind
due_finds s m pass e h =
    let found = due_at s m pass e h in
    subst (λ (x : Entry). Finds s x.kind) found.is (settled_finds s found.d.moment found.d.cause found.d.number (due_has (IsOfRow s) s m pass e (deadline_row s) h))

-- the entry of an answer has the kind that the answer adds
adds_finds : (s : PoolState) (m pass : ℕ) (entry : Option EntryKind) (e : Entry) → IfSome entry (Finds s) → option_map (entry_at m pass) entry ≡ Some e → Finds s e.kind
adds_finds s m pass None e h g = absurd (cc (g))
adds_finds s m pass (Some k) e h g = subst (λ (x : Entry). Finds s x.kind) (same_Some _ _ g) h

-- whatever may follow finds what its kind says
pub finds : (s : PoolState) (e : Entry) → MayFollow s e → Finds s e.kind
finds s e follows = by_cause (is_deadline e.kind) (asks s e.kind) follows.has_cause
  where
    by_cause : (b : Bool) (o : Option Asked) → MatchBool b (IsDue s e) (IsSomeAnd o (IsAnswered s e)) → Finds s e.kind
    by_cause true o h = due_finds s e.moment e.pass e h
    by_cause false None h = absurd h
    by_cause false (Some asked) h =
        adds_finds s e.moment e.pass (decide s asked.who e.moment asked.request).entry e (tell_finds s asked.who e.moment asked.request h.may_ask) h.gives

-- a blob's entry comes at its deadline
pub finds_blob : (s : PoolState) → IsSound s → (e : Entry) (n : ℕ) (kept : Bool) → MayFollow s e → e.kind ≡ kind.Blob n kept → FindsBlob s e.moment n kept
finds_blob s o e n kept follows is =
    let due : IsDue s e = subst (λ (k : EntryKind). MatchBool (is_deadline k) (IsDue s e) (IsSomeAnd (asks s k) (IsAnswered s e))) is follows.has_cause in
    let found = due_at s e.moment e.pass e due in
    subst (λ (m : ℕ). FindsBlob s m n kept) (ap (λ (x : Entry). x.moment) found.is)
    (by_cause found.d.cause found.d.number (due_has (IsOfRow s) s e.moment e.pass e (deadline_row s) due) (ap (λ (x : Entry). x.kind) found.is ∙ is))
  where
    number_in : EntryKind → ℕ
    number_in (kind.Blob number b) = number
    number_in other = 0

    kept_in : EntryKind → Bool
    kept_in (kind.Blob number b) = b
    kept_in other = false

    by_blob : {m : ℕ} (number : ℕ) → HasDeadline s m number → number ≡ n → settled s cause.Blob number ≡ kind.Blob n kept → FindsBlob s m n kept
    by_blob number h named is_so =
        (let there : blob_numbered s number ≡ Some h.blob = found_once (is_blob number) s.blobs h.blob h.among (eq-eqb h.blob.no number h.named) (o.numbers number) in
        record {
          blob = h.blob;
          there = ap (blob_numbered s) (sym named) ∙ there;
          among = h.among;
          named = h.named ∙ named;
          come = h.come;
          used = sym (ap kept_in is_so) ∙ ap (λ (r : Option BlobRow). option_map_or (λ (blob : BlobRow). is_used s blob.digest) r false) there;
        })

    by_cause : {m : ℕ} (c : Cause) (number : ℕ) → DueRow s m c number → settled s c number ≡ kind.Blob n kept → FindsBlob s m n kept
    by_cause cause.Slice number h g = absurd (cc (g))
    by_cause cause.Silence number h g = absurd (cc (g))
    by_cause cause.Bot number h g = absurd (cc (g))
    by_cause cause.Blob number h g = by_blob number h (ap number_in g) g

-- the request for which an entry stands may be asked
abbrev pub IsFitting : PoolState → EntryKind → Type 0
IsFitting s k = MatchBool (is_deadline k) ⊤ (IsSomeAnd (asks s k) (λ asked. IsTrue (fits s.settings asked.request)))

-- an entry that may follow stands for such a request
pub fitting : (s : PoolState) (e : Entry) → MayFollow s e → IsFitting s e.kind
fitting s e follows = by_cause (is_deadline e.kind) (asks s e.kind) follows.has_cause
  where
    by_cause : (b : Bool) (o : Option Asked) → MatchBool b (IsDue s e) (IsSomeAnd o (IsAnswered s e)) → MatchBool b ⊤ (IsSomeAnd o (λ asked. IsTrue (fits s.settings asked.request)))
    by_cause true o h = tt
    by_cause false None h = absurd h
    by_cause false (Some asked) h = h.may_ask

-- no deadline has come where a request's entry follows
pub none_due : (s : PoolState) (e : Entry) → MayFollow s e → is_deadline e.kind ≡ false → due_entry s e.moment e.pass ≡ None
none_due s e follows no_deadline = by_cause (is_deadline e.kind) (asks s e.kind) no_deadline follows.has_cause
  where
    by_cause : (b : Bool) (o : Option Asked) → b ≡ false → MatchBool b (IsDue s e) (IsSomeAnd o (IsAnswered s e)) → due_entry s e.moment e.pass ≡ None
    by_cause true o q h = absurd (cc (q))
    by_cause false None q h = absurd h
    by_cause false (Some asked) q h = h.nothing_due
