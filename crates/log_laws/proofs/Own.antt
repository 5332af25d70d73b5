-- A new task and a report that an answer adds are those that were asked.
use Rattle.std.proofs.Common.{◌≡◌, ℕ, ◌+◌, ◌==◌, ◌&&◌, not, List, length, find, Bool, true, false, Option, Some, None, option_map, IfSome, is_some, is_none, refl, ap, sym, ◌∙◌, subst, eqb-true}
use Rattle.std.specs.Prelude.{⊤, nat_le}
use Rattle.std.specs.Option.{option_and_then}
use Rattle.std.proofs.lemmas.Bool.{cond_both}
use Rattle.std.proofs.lemmas.Option.{same_Some}
use Rattle.log_laws.specs.Types.{BotDims, NewTask, Attempt, Chunk, Last, TaskRow, BotRow, PoolState, Decision, Entry, EntryKind, Request}
use Rattle.dimensions.specs.Alike.{same}
use Rattle.dimensions.specs.Rules.{is_empty}
use Rattle.task_props.specs.Alike.{same_task}
use Rattle.swarm_model.specs.declared.permission.Permission.TheVariants as permission
use Rattle.swarm_model.specs.declared.rule.Rule.TheVariants as rule
use Rattle.swarm_model.specs.declared.rule.Unfit.TheVariants as unfit
use Rattle.swarm_model.specs.declared.reply.Reply.TheVariants as reply
use Rattle.swarm_model.specs.declared.entry.EventKind.{EventKind}
use Rattle.swarm_model.specs.declared.entry.EntryKind.TheVariants as kind
use Rattle.swarm_model.specs.declared.request.Request.TheVariants as ask
use Rattle.swarm_model.specs.Finding.{is_final, bot_named, blob_of}
use Rattle.swarm_model.specs.Slices.{admit, first}
use Rattle.swarm_model.specs.Reuse.{sent, reuse}
use Rattle.swarm_model.specs.Blobs.{lacks_chunk, missing_file, inputs_of, can_take}
use Rattle.swarm_model.specs.Effects.{fresh_chunk}
use Rattle.swarm_model.specs.Output.{chunks_within}
use Rattle.swarm_model.specs.Views.{files_of}
use Rattle.swarm_model.specs.Answers.{decide, entry_at, reply_with_entry, resubmitted, reuse_outcome, accepted, accepted_at, tasks_full, named_task, whole_task, result_of, show_bot, may, denied, cancel, cancel_row, stop, is_killed, known_bot, handshake, poll, busy, run_on, claim, claim_again, as_claimed, claimed, claims, unfit_of, unfit_refusal, event, is_kept, updates, refusal, file_missing, output_gone, chunks_shown, stdout_of, chunk_rule, store_full, unplaced_chunk, is_first_report, put_blob, show_blob, report, report_again, report_running, report_on, not_claimant, update, update_row, terminate}
use Rattle.pool_laws.proofs.Answering.{by_when, by_map, by_with}
use Rattle.pool_laws.proofs.EntryPreconditions.{named_is, not_not}
use Rattle.pool_laws.proofs.Preconditions.{waits, runs}
use Rattle.log_laws.specs.Sent.{IsOwnTask, NewIsAsked}

-- the request is this report of the bot, on a run that goes on
pub record IsOwnReport (s : PoolState) (request : Request) (b t try_no : ℕ) (chunk : Option Chunk) (last : Option Last) : Type 0 where
  pub name : List ℕ
  pub bot : BotRow
  pub named : bot_named s name ≡ Some bot
  pub is_bot : bot.no ≡ b
  pub asked_try : ℕ
  pub asked : request ≡ ask.Update name t asked_try chunk last
  pub row : TaskRow
  pub shown : named_task s t asked_try ≡ Some row
  pub goes_on : is_final row.state ≡ false
  pub attempt : Attempt
  pub attempted : row.attempt ≡ Some attempt
  pub by_bot : attempt.bot ≡ b
  pub is_try : attempt.try_no ≡ try_no

-- what an answer adds is its request
abbrev pub Own : PoolState → List ℕ → Request → EntryKind → Type 0
Own s who q (kind.New t caller task state slice source) = IsOwnTask who q caller task
Own s who q (kind.Update b t try_no chunk last) = IsOwnReport s q b t try_no chunk last
Own s who q other = ⊤

module _ (s : PoolState) (who : List ℕ) (q : Request) where
  abbrev Brings : Decision → Type 0
  Brings told = IfSome told.entry (Own s who q)

  accepted_brings : (task : NewTask) → q ≡ ask.New task → (o : Option ℕ) → Brings (accepted_at s who task o)
  accepted_brings task e (Some place) = record { by = refl; asked = e }
  accepted_brings task e None = record { by = refl; asked = e }

  new_brings : (m : ℕ) (task : NewTask) → q ≡ ask.New task → Brings (decide s who m (ask.New task))
  new_brings m task e =
      by_map Brings (resubmitted task) (sent s who task.request_uuid) _ (λ row f. cond_both (same_task row.request task) _ _ Brings (λ t. tt) (λ t. tt)) (λ unsent.
      by_map Brings file_missing (missing_file s (inputs_of task.task_slices)) _ (λ file f. tt) (λ has_inputs.
      by_when Brings (nat_le s.settings.most_tasks (length s.tasks)) (tasks_full s) _ (λ t. tt) (λ t.
      by_map Brings (reuse_outcome s who task) (reuse s m task.task_slices) (accepted s who task) (λ found f. record { by = refl; asked = e }) (λ f.
      accepted_brings task e (admit s task.task_slices 0)))))

  -- entries of other kinds owe nothing
  stop_brings : (kill : Bool) (task : TaskRow) → Brings (stop kill task)
  stop_brings false task = tt
  stop_brings true task = cond_both (is_killed task.attempt) None (Some (kind.Kill task.no)) (λ (o : Option EntryKind). IfSome o (Own s who q)) (λ t. tt) (λ t. tt)

  cancel_brings : (kill : Bool) (task : TaskRow) → Brings (cancel s who kill task)
  cancel_brings kill task =
      by_when Brings (not (may s who permission.CancelTask task)) (denied s permission.CancelTask) (cancel_row kill task) (λ t. tt) (λ t.
      by_when Brings (waits task) _ _ (λ w. tt) (λ w.
      by_when Brings (runs task) (stop kill task) _ (λ r. stop_brings kill task) (λ r. tt)))

  stdout_brings : (offset most : ℕ) (task : TaskRow) → Brings (stdout_of s who offset most task)
  stdout_brings offset most task =
      by_when Brings (not (may s who permission.ListTasks task)) (denied s permission.ListTasks) _ (λ t. tt) (λ t.
      by_map Brings output_gone (find (lacks_chunk s) (chunks_within offset (offset + most) (chunks_shown s task))) _ (λ chunk e. tt) (λ e. tt))

  handshake_brings : (name session : List ℕ) (dims : BotDims) (quarantined : List ℕ) → Brings (handshake s name session dims quarantined)
  handshake_brings name session dims quarantined =
      by_map Brings (known_bot name session dims quarantined) (bot_named s name) _ (λ bot e. cond_both (same bot.session session) _ _ Brings (λ t. tt) (λ t. tt)) (λ e.
      by_when Brings (nat_le s.settings.most_bots (length s.bots)) _ _ (λ t. tt) (λ t. tt))

  poll_brings : (dims : BotDims) (quarantined : List ℕ) (bot : BotRow) → Brings (poll s dims quarantined bot)
  poll_brings dims quarantined bot =
      by_when Brings bot.dead _ _ (λ t. tt) (λ t.
      by_map Brings busy (run_on s bot) _ (λ x e. tt) (λ e.
      by_when Brings bot.terminating _ _ (λ t. tt) (λ t.
      by_when Brings (not (is_empty quarantined)) _ _ (λ t. tt) (λ t.
      by_when Brings (is_some (first s bot.no dims)) _ _ (λ t. tt) (λ t. tt)))))

  claim_brings : (id : List ℕ) (bot : BotRow) → Brings (claim s id bot)
  claim_brings id bot =
      by_map Brings (claim_again bot id) (claimed s bot.no id) _ (λ task e. cond_both (is_final (as_claimed bot.no id task).state) _ _ Brings (λ t. tt) (λ t. tt)) (λ fresh.
      by_map Brings unfit_refusal (unfit_of bot) _ (λ why e. tt) (λ fit.
      by_map Brings busy (run_on s bot) _ (λ task e. tt) (λ idle.
      by_map Brings (claims bot id) (first s bot.no bot.dims) _ (λ task e. tt) (λ e. tt))))

  event_brings : (which : EventKind) (text : List ℕ) (bot : BotRow) → Brings (event which text bot)
  event_brings which text bot = by_when Brings (bot.dead && is_none bot.task) (unfit_refusal unfit.Dead) (reply_with_entry reply.Noted (kind.Event bot.no which text)) (λ t. tt) (λ t. tt)

  -- a report that ends a run or brings a chunk
  report_brings : (name : List ℕ) (number try_no : ℕ) (chunk : Option Chunk) (last : Option Last) (bot : BotRow) (row : TaskRow) (attempt : Attempt) → bot_named s name ≡ Some bot → named_task s number try_no ≡ Some row → row.attempt ≡ Some attempt →
      q ≡ ask.Update name number try_no chunk last → Brings (report_on s bot row chunk last attempt)
  report_brings name number try_no chunk last bot row attempt named shown attempted asked =
      by_when Brings (not (attempt.bot == bot.no)) (not_claimant s attempt) (report s bot row chunk last attempt) (λ t. tt) (λ t.
      by_when Brings (is_final row.state) (report_again bot row chunk last attempt) (report_running s bot row chunk last attempt) (λ f. cond_both (is_kept attempt chunk last) _ _ Brings (λ k. tt) (λ k. tt)) (λ f.
      by_map Brings refusal (option_and_then (chunk_rule attempt) chunk) _ (λ why e. tt) (λ in_turn.
      by_map Brings file_missing (missing_file s (files_of last)) _ (λ file e. tt) (λ has_files.
      by_map Brings (λ (c : Chunk). store_full s c.size) (unplaced_chunk s (fresh_chunk (Some attempt) chunk)) _ (λ c e. tt) (λ has_place.
      by_when Brings (is_first_report attempt chunk last) (updates attempt (kind.Update bot.no row.no attempt.try_no chunk last)) (updates attempt (kind.Contact bot.no)) (λ l.
      record {
        name = name;
        bot = bot;
        named = named;
        is_bot = refl;
        asked_try = try_no;
        asked = asked ∙ ap (λ (n : ℕ). ask.Update name n try_no chunk last) (sym is);
        row = row;
        shown = subst (λ (n : ℕ). named_task s n try_no ≡ Some row) (sym is) shown;
        goes_on = f;
        attempt = attempt;
        attempted = attempted;
        by_bot = eqb-true attempt.bot bot.no (not_not (attempt.bot == bot.no) t);
        is_try = refl;
      }) (λ l. tt))))))
    where
      is : row.no ≡ number
      is = (named_is s number try_no row shown).row_named

  put_brings : (named actual : List ℕ) (size : ℕ) → Brings (put_blob s named actual size)
  put_brings named actual size =
      by_when Brings (not (same actual named)) (refusal (rule.DigestDiffers actual)) _ (λ t. tt) (λ t.
      by_when Brings (not (can_take s named size)) (store_full s size) (reply_with_entry (reply.Put (is_none (blob_of s named))) (kind.Put named size)) (λ f. tt) (λ f. tt))

  tell_brings : (m : ℕ) (request : Request) → q ≡ request → Brings (decide s who m request)
  tell_brings m (ask.New task) e = new_brings m task e
  tell_brings m (ask.Cancel number try_no kill) e = by_with Brings (whole_task s number try_no) rule.NoTask (cancel s who kill) tt (λ task f. cancel_brings kill task)
  tell_brings m (ask.Result number try_no) e = by_with Brings (named_task s number try_no) rule.NoTask (result_of s who) tt (λ task f.
      by_when Brings (not (may s who permission.ListTasks task)) (denied s permission.ListTasks) _ (λ t. tt) (λ t. tt))
  tell_brings m (ask.Stdout number try_no offset most) e = by_with Brings (named_task s number try_no) rule.NoTask (stdout_of s who offset most) tt (λ task f. stdout_brings offset most task)
  tell_brings m (ask.List state limit below) e = tt
  tell_brings m (ask.Count state) e = tt
  tell_brings m (ask.Handshake name session dims quarantined) e = handshake_brings name session dims quarantined
  tell_brings m (ask.Poll name dims quarantined) e = by_with Brings (bot_named s name) rule.NoBot (poll s dims quarantined) tt (λ bot f. poll_brings dims quarantined bot)
  tell_brings m (ask.Claim name id) e = by_with Brings (bot_named s name) rule.NoBot (claim s id) tt (λ bot f. claim_brings id bot)
  tell_brings m (ask.Event name which text) e = by_with Brings (bot_named s name) rule.NoBot (event which text) tt (λ bot f. event_brings which text bot)
  tell_brings m (ask.Update name number try_no chunk last) e =
      by_with Brings (bot_named s name) rule.NoBot (update s number try_no chunk last) tt (λ bot f.
      by_with Brings (named_task s number try_no) rule.NoTask (update_row s bot chunk last) tt (λ row g.
      by_with Brings row.attempt rule.NoTask (report_on s bot row chunk last) tt (λ attempt h. report_brings name number try_no chunk last bot row attempt f g h e)))
  tell_brings m (ask.Terminate name) e = by_with Brings (bot_named s name) rule.NoBot terminate tt (λ bot f. cond_both bot.terminating _ _ Brings (λ t. tt) (λ t. tt))
  tell_brings m (ask.Bots limit after) e = tt
  tell_brings m (ask.Bot name) e = by_with Brings (bot_named s name) rule.NoBot (show_bot s) tt (λ bot f. tt)
  tell_brings m (ask.PutBlob named actual size) e = put_brings named actual size
  tell_brings m (ask.GetBlob digest) e = by_with Brings (blob_of s digest) (rule.BlobMissing digest) show_blob tt (λ blob f. tt)
  tell_brings m (ask.FindMissing blobs) e = tt

-- the entry of an answer has the kind that the decision adds
kind_added : (m pass : ℕ) (o : Option EntryKind) (entry : Entry) → option_map (entry_at m pass) o ≡ Some entry → o ≡ Some entry.kind
kind_added m pass None entry h = absurd (cc (h))
kind_added m pass (Some k) entry h = (let e : entry_at m pass k ≡ entry = same_Some _ _ h in ap (λ (z : Entry). Some z.kind) e)

-- so its entry is its request
pub own_entry : (s : PoolState) (who : List ℕ) (m pass : ℕ) (request : Request) (entry : Entry) (k : EntryKind) → option_map (entry_at m pass) (decide s who m request).entry ≡ Some entry → entry.kind ≡ k → Own s who request k
own_entry s who m pass request entry k e is =
    subst (λ (o : Option EntryKind). IfSome o (Own s who request)) (kind_added m pass (decide s who m request).entry entry e ∙ ap (λ (z : EntryKind). Some z) is) (tell_brings s who request m request refl)

pub new_is_asked : NewIsAsked
new_is_asked s who moment pass request entry t caller task state slice source e is = own_entry s who moment pass request entry (kind.New t caller task state slice source) e is
