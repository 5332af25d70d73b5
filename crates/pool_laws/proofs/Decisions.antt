-- What holds of each decision of a pool, case by case.
use Rattle.std.proofs.Common.{◌≡◌, ℕ, ◌+◌, ◌==◌, ◌&&◌, not, List, length, find, Bool, true, false, Option, Some, None, is_some, is_none, refl}
use Rattle.std.specs.Prelude.{⊤, nat_le}
use Rattle.std.specs.Option.{option_map_or, option_and_then}
use Rattle.std.proofs.lemmas.Bool.{cond_both}
use Rattle.pool_laws.specs.Types.{BotDims, BlobRow, NewTask, Slice, Attempt, Chunk, Last, TaskState, TaskRow, BotRow, PoolState, EntryKind, EventKind, Request, Reply, Decision, Pending, Running}
use Rattle.dimensions.specs.Alike.{same}
use Rattle.dimensions.specs.Rules.{is_empty}
use Rattle.task_props.specs.Alike.{same_task}
use Rattle.swarm_model.specs.declared.permission.Permission.TheVariants as permission
use Rattle.swarm_model.specs.declared.entry.EntryKind.TheVariants as kind
use Rattle.swarm_model.specs.declared.request.Request.TheVariants as ask
use Rattle.swarm_model.specs.declared.rule.Rule.TheVariants as rule
use Rattle.swarm_model.specs.declared.rule.Unfit.TheVariants as unfit
use Rattle.swarm_model.specs.declared.reply.Reply.TheVariants as reply
use Rattle.swarm_model.specs.Blobs.{lacks_chunk, missing_file, inputs_of, can_take}
use Rattle.swarm_model.specs.Effects.{fresh_chunk, next_try}
use Rattle.swarm_model.specs.Output.{chunks_within, parts_within}
use Rattle.swarm_model.specs.Finding.{has_state, is_final, bot_named, blob_of}
use Rattle.swarm_model.specs.Pages.{listed_tasks}
use Rattle.swarm_model.specs.Views.{view_of, files_of}
use Rattle.swarm_model.specs.Slices.{admit, current_slice, first}
use Rattle.swarm_model.specs.Reuse.{sent, reuse}
use Rattle.swarm_model.specs.Answers.{decide, reply_only, reply_with_entry, resubmitted, reuse_outcome, accepted, accepted_at, tasks_full, named_task, whole_task, try_of, result_of, list_tasks, show_bot, may, denied, cancel, cancel_row, stop, is_killed, known_bot, handshake, poll, busy, run_on, run_from, claim, claim_again, run_again, as_claimed, claimed, claims, unfit_of, unfit_refusal, event, is_kept, updates, refusal, file_missing, output_gone, output_between, chunks_shown, stdout_of, chunk_rule, store_full, unplaced_chunk, is_first_report, put_blob, show_blob, report, report_again, report_running, report_on, not_claimant, update, update_row, terminate}
use Rattle.pool_laws.proofs.Answering.{by_when, by_map, by_with}

-- the reply shows no task and names no blob
abbrev pub ShowsNone : Reply → Type 0
ShowsNone (reply.Result view) = ⊥
ShowsNone (reply.Tasks items cursor) = ⊥
ShowsNone (reply.Stdout state parts) = ⊥
ShowsNone (reply.Blob digest size) = ⊥
ShowsNone other = ⊤

abbrev pub is_refusal : Reply → Bool
is_refusal (reply.No why) = true
is_refusal other = false

-- the entry brings no bytes, and there is none with a refusal
abbrev pub BringsNone : Bool → Option EntryKind → Type 0
BringsNone refused None = ⊤
BringsNone true (Some k) = ⊥
BringsNone false (Some (kind.Put digest size)) = ⊥
BringsNone false (Some (kind.Update b t try_no chunk last)) = ⊥
BringsNone false (Some k) = ⊤

abbrev pub IsPlain : Decision → Type 0
IsPlain decision = ShowsNone decision.reply × BringsNone (is_refusal decision.reply) decision.entry

-- it holds of the decisions on a request that aren't plain
pub record HoldsOfOthers (s : PoolState) (P : Decision → Type 0) (request : Request) : Type 0 where
  pub result : (number try_no : ℕ) (task : TaskRow) → request ≡ ask.Result number try_no → named_task s number try_no ≡ Some task → P (reply_only (reply.Result (view_of s task)))
  pub tasks : (wanted : Option TaskState) (limit : ℕ) (below : Option ℕ) → P (list_tasks s limit (listed_tasks s wanted below))
  pub stdout : (from to : ℕ) (state : TaskState) (chunks : List Chunk) → find (lacks_chunk s) (chunks_within from to chunks) ≡ None → P (reply_only (reply.Stdout state (parts_within from to chunks)))
  pub blob : (digest : List ℕ) (blob : BlobRow) → blob_of s digest ≡ Some blob → P (show_blob blob)
  pub update : (name : List ℕ) (number tried b t try_no : ℕ) (chunk : Option Chunk) (last : Option Last) (attempt : Attempt) → request ≡ ask.Update name number tried chunk last
      → P (updates attempt (kind.Update b t try_no chunk last))
  pub put : (named actual : List ℕ) (size : ℕ) → request ≡ ask.PutBlob named actual size → not (same actual named) ≡ false → P (reply_with_entry (reply.Put (is_none (blob_of s named))) (kind.Put named size))

module _ (s : PoolState) (P : Decision → Type 0) (plain : (decision : Decision) → IsPlain decision → P decision) where
  of_accepted : (who : List ℕ) (request : NewTask) (o : Option ℕ) → P (accepted_at s who request o)
  of_accepted who request (Some place) = plain _ (tt, tt)
  of_accepted who request None = plain _ (tt, tt)

  of_new : (who : List ℕ) (m : ℕ) (request : NewTask) → P (decide s who m (ask.New request))
  of_new who m request =
      by_map P (resubmitted request) (sent s who request.request_uuid) _ (λ row e. cond_both (same_task row.request request) _ _ P (λ t. plain _ (tt, tt)) (λ t. plain _ (tt, tt))) (λ unsent.
      by_map P file_missing (missing_file s (inputs_of request.task_slices)) _ (λ file e. plain _ (tt, tt)) (λ has_inputs.
      by_when P (nat_le s.settings.most_tasks (length s.tasks)) (tasks_full s) _ (λ t. plain _ (tt, tt)) (λ t.
      by_map P (reuse_outcome s who request) (reuse s m request.task_slices) (accepted s who request) (λ found e. plain _ (tt, tt)) (λ e. of_accepted who request (admit s request.task_slices 0)))))

  of_stop : (kill : Bool) (task : TaskRow) → P (stop kill task)
  of_stop false task = plain _ (tt, tt)
  of_stop true task = plain _ (tt, cond_both (is_killed task.attempt) None (Some (kind.Kill task.no)) (λ (o : Option EntryKind). BringsNone false o) (λ t. tt) (λ t. tt))

  of_cancel : (who : List ℕ) (kill : Bool) (task : TaskRow) → P (cancel s who kill task)
  of_cancel who kill task =
      by_when P (not (may s who permission.CancelTask task)) (denied s permission.CancelTask) (cancel_row kill task) (λ t. plain _ (tt, tt)) (λ t.
      by_when P (has_state Pending task) _ _ (λ w. plain _ (tt, tt)) (λ w.
      by_when P (has_state Running task) (stop kill task) _ (λ r. of_stop kill task) (λ r. plain _ (tt, tt))))

  of_stdout : (who : List ℕ) (offset most : ℕ) (task : TaskRow)
      → (find (lacks_chunk s) (chunks_within offset (offset + most) (chunks_shown s task)) ≡ None → P (reply_only (reply.Stdout task.state (parts_within offset (offset + most) (chunks_shown s task)))))
      → P (stdout_of s who offset most task)
  of_stdout who offset most task shown =
      by_when P (not (may s who permission.ListTasks task)) (denied s permission.ListTasks) (output_between s offset (offset + most) task.state (chunks_shown s task)) (λ t. plain _ (tt, tt)) (λ t.
      by_map P output_gone (find (lacks_chunk s) (chunks_within offset (offset + most) (chunks_shown s task))) _ (λ chunk e. plain _ (tt, tt)) shown)

  of_handshake : (name session : List ℕ) (dims : BotDims) (q : List ℕ) → P (handshake s name session dims q)
  of_handshake name session dims q =
      by_map P (known_bot name session dims q) (bot_named s name) _ (λ bot e. cond_both (same bot.session session) _ _ P (λ t. plain _ (tt, tt)) (λ t. plain _ (tt, tt))) (λ e.
      by_when P (nat_le s.settings.most_bots (length s.bots)) _ _ (λ t. plain _ (tt, tt)) (λ t. plain _ (tt, tt)))

  of_poll : (dims : BotDims) (q : List ℕ) (bot : BotRow) → P (poll s dims q bot)
  of_poll dims q bot =
      by_when P bot.dead _ _ (λ t. plain _ (tt, tt)) (λ t.
      by_map P busy (run_on s bot) _ (λ x e. plain _ (tt, tt)) (λ e.
      by_when P bot.terminating _ _ (λ t. plain _ (tt, tt)) (λ t.
      by_when P (not (is_empty q)) _ _ (λ t. plain _ (tt, tt)) (λ t.
      by_when P (is_some (first s bot.no dims)) _ _ (λ t. plain _ (tt, tt)) (λ t. plain _ (tt, tt))))))

  -- what a bot is to run
  of_run : (try_no : ℕ) (task : TaskRow) (o : Option Slice) (k : EntryKind) → BringsNone false (Some k) → P (reply_with_entry (option_map_or (run_from try_no task) o reply.Skip) k)
  of_run try_no task None k none = plain _ (tt, none)
  of_run try_no task (Some slice) k none = plain _ (tt, none)

  of_again : (bot : BotRow) (task : TaskRow) → P (run_again bot task)
  of_again bot task = cond_both (is_final task.state) _ _ P (λ t. plain _ (tt, tt)) (λ t. of_run (try_of task) task (current_slice task) (kind.Contact bot.no) tt)

  of_claim : (id : List ℕ) (bot : BotRow) → P (claim s id bot)
  of_claim id bot =
      by_map P (claim_again bot id) (claimed s bot.no id) _ (λ task e. of_again bot (as_claimed bot.no id task)) (λ e.
      by_map P unfit_refusal (unfit_of bot) _ (λ why e. plain _ (tt, tt)) (λ e.
      by_map P busy (run_on s bot) _ (λ task e. plain _ (tt, tt)) (λ e.
      by_map P (claims bot id) (first s bot.no bot.dims) _ (λ task e. of_run (next_try task) task (current_slice task) (kind.Claim bot.no task.no id) tt) (λ e. plain _ (tt, tt)))))

  of_event : (which : EventKind) (text : List ℕ) (bot : BotRow) → P (event which text bot)
  of_event which text bot =
      by_when P (bot.dead && is_none bot.task) (unfit_refusal unfit.Dead) (reply_with_entry reply.Noted (kind.Event bot.no which text)) (λ t. plain _ (tt, tt)) (λ t. plain _ (tt, tt))

  of_report : (bot : BotRow) (task : TaskRow) (chunk : Option Chunk) (last : Option Last) (attempt : Attempt) → P (updates attempt (kind.Update bot.no task.no attempt.try_no chunk last))
      → P (report_on s bot task chunk last attempt)
  of_report bot task chunk last attempt first =
      by_when P (not (attempt.bot == bot.no)) (not_claimant s attempt) (report s bot task chunk last attempt) (λ t. plain _ (tt, tt)) (λ t.
      by_when P (is_final task.state) (report_again bot task chunk last attempt) (report_running s bot task chunk last attempt)
      (λ f. cond_both (is_kept attempt chunk last) _ _ P (λ k. plain _ (tt, tt)) (λ k. plain _ (tt, tt))) (λ f.
      by_map P refusal (option_and_then (chunk_rule attempt) chunk) _ (λ why e. plain _ (tt, tt)) (λ in_turn.
      by_map P file_missing (missing_file s (files_of last)) _ (λ file e. plain _ (tt, tt)) (λ has_files.
      by_map P (λ (c : Chunk). store_full s c.size) (unplaced_chunk s (fresh_chunk (Some attempt) chunk)) _ (λ c e. plain _ (tt, tt)) (λ has_place.
      by_when P (is_first_report attempt chunk last) (updates attempt (kind.Update bot.no task.no attempt.try_no chunk last)) (updates attempt (kind.Contact bot.no)) (λ l. first) (λ l. plain _ (tt, tt)))))))

  of_put : (named actual : List ℕ) (size : ℕ) → (not (same actual named) ≡ false → P (reply_with_entry (reply.Put (is_none (blob_of s named))) (kind.Put named size))) → P (put_blob s named actual size)
  of_put named actual size placed =
      by_when P (not (same actual named)) (refusal (rule.DigestDiffers actual)) _ (λ t. plain _ (tt, tt)) (λ is.
      by_when P (not (can_take s named size)) (store_full s size) (reply_with_entry (reply.Put (is_none (blob_of s named))) (kind.Put named size)) (λ f. plain _ (tt, tt)) (λ f. placed is))

  -- what holds of plain decisions and of the others holds of each
  pub of_each : (who : List ℕ) (m : ℕ) (request : Request) → HoldsOfOthers s P request → P (decide s who m request)
  of_each who m (ask.New request) h = of_new who m request
  of_each who m (ask.Cancel number try_no kill) h = by_with P (whole_task s number try_no) rule.NoTask (cancel s who kill) (plain _ (tt, tt)) (λ task e. of_cancel who kill task)
  of_each who m (ask.Result number try_no) h = by_with P (named_task s number try_no) rule.NoTask (result_of s who) (plain _ (tt, tt)) (λ task e.
      by_when P (not (may s who permission.ListTasks task)) (denied s permission.ListTasks) _ (λ t. plain _ (tt, tt)) (λ t. h.result number try_no task refl e))
  of_each who m (ask.Stdout number try_no offset most) h = by_with P (named_task s number try_no) rule.NoTask (stdout_of s who offset most) (plain _ (tt, tt)) (λ task e.
      of_stdout who offset most task (h.stdout offset (offset + most) task.state (chunks_shown s task)))
  of_each who m (ask.List state limit below) h = h.tasks state limit below
  of_each who m (ask.Count state) h = plain _ (tt, tt)
  of_each who m (ask.Handshake name session dims q) h = of_handshake name session dims q
  of_each who m (ask.Poll name dims q) h = by_with P (bot_named s name) rule.NoBot (poll s dims q) (plain _ (tt, tt)) (λ bot e. of_poll dims q bot)
  of_each who m (ask.Claim name id) h = by_with P (bot_named s name) rule.NoBot (claim s id) (plain _ (tt, tt)) (λ bot e. of_claim id bot)
  of_each who m (ask.Event name which text) h = by_with P (bot_named s name) rule.NoBot (event which text) (plain _ (tt, tt)) (λ bot e. of_event which text bot)
  of_each who m (ask.Update name number try_no chunk last) h =
      by_with P (bot_named s name) rule.NoBot (update s number try_no chunk last) (plain _ (tt, tt)) (λ bot e.
      by_with P (named_task s number try_no) rule.NoTask (update_row s bot chunk last) (plain _ (tt, tt)) (λ task f.
      by_with P task.attempt rule.NoTask (report_on s bot task chunk last) (plain _ (tt, tt)) (λ attempt g.
      of_report bot task chunk last attempt (h.update name number try_no bot.no task.no attempt.try_no chunk last attempt refl))))
  of_each who m (ask.Terminate name) h = by_with P (bot_named s name) rule.NoBot terminate (plain _ (tt, tt)) (λ bot e. cond_both bot.terminating _ _ P (λ t. plain _ (tt, tt)) (λ t. plain _ (tt, tt)))
  of_each who m (ask.Bots limit after) h = plain _ (tt, tt)
  of_each who m (ask.Bot name) h = by_with P (bot_named s name) rule.NoBot (show_bot s) (plain _ (tt, tt)) (λ bot e. plain _ (tt, tt))
  of_each who m (ask.PutBlob named actual size) h = of_put named actual size (h.put named actual size refl)
  of_each who m (ask.GetBlob digest) h = by_with P (blob_of s digest) (rule.BlobMissing digest) show_blob (plain _ (tt, tt)) (h.blob digest)
  of_each who m (ask.FindMissing blobs) h = plain _ (tt, tt)
