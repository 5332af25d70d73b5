-- The request for which the entry of an answer stands.
use Rattle.std.proofs.Common.{◌≡◌, ℕ, ◌+◌, ◌==◌, ◌&&◌, ◌||◌, ◌⊎◌, inl, inr, not, Bool, true, false, List, length, refl, Option, Some, None, IfSome, IsTrue, is_some, is_none, subst, sym, ap, ◌∙◌, eqb-true, find}
use Rattle.std.specs.Prelude.{nat_le, unwrap_or}
use Rattle.std.specs.Option.{option_map, option_and_then}
use Rattle.std.proofs.lemmas.Bool.{cond_both, and_parts, and_from}
use Rattle.pool_laws.specs.Types.{BotDims, NewTask, Attempt, Chunk, Last, TaskRow, BotRow, PoolState, Decision, Reply, EventKind, EntryKind, Request}
use Rattle.dimensions.specs.Alike.{same}
use Rattle.dimensions.specs.Rules.{is_empty}
use Rattle.task_props.specs.Alike.{same_task}
use Rattle.swarm_model.specs.declared.permission.Permission.TheVariants as permission
use Rattle.swarm_model.specs.declared.rule.Rule.TheVariants as rule
use Rattle.swarm_model.specs.declared.rule.Unfit.TheVariants as unfit
use Rattle.swarm_model.specs.declared.reply.Reply.TheVariants as reply
use Rattle.swarm_model.specs.declared.entry.EntryKind.TheVariants as kind
use Rattle.swarm_model.specs.declared.request.Request.TheVariants as ask
use Rattle.swarm_model.specs.Finding.{is_final, task_of, bot_of, bot_named, blob_of, is_called}
use Rattle.swarm_model.specs.Words.{is_between}
use Rattle.swarm_model.specs.Fits.{fits, fits_task}
use Rattle.swarm_model.specs.Slices.{admit, first}
use Rattle.swarm_model.specs.Reuse.{sent, reuse}
use Rattle.swarm_model.specs.Answers.{whole_task, whole_of, try_of, decide, resubmitted, reuse_outcome, accepted, accepted_at, tasks_full, named_task, result_of, show_bot, known_bot, handshake, poll, polls, busy, run_on, claim, claim_again, as_claimed, claimed, claims, sleep_secs, run, unfit_of, unfit_refusal, event, terminate, reply_with_entry, dims_unless, text_unless, or_refuse, has_try, may, denied, cancel, cancel_row, stop, is_killed, is_kept, updates, chunk_rule, store_full, unplaced_chunk, is_first_report, report, report_again, report_running, report_on, not_claimant, update, update_row, refusal, file_missing, output_gone, chunks_shown, stdout_of, put_blob, show_blob}
use Rattle.swarm_model.specs.Blobs.{lacks_chunk, missing_file, inputs_of, can_take}
use Rattle.swarm_model.specs.Effects.{fresh_chunk}
use Rattle.swarm_model.specs.Output.{chunks_within}
use Rattle.swarm_model.specs.Views.{files_of}
use Rattle.swarm_model.specs.Entries.{asks, is_deadline, without_caller, cancel_of, update_of, poll_of, claim_of, event_of, terminate_of, handshake_of, Asked}
use Rattle.swarm_model.specs.Soundness.{IsSound}
use Rattle.pool_laws.proofs.Lists.{Found, find_is}
use Rattle.pool_laws.proofs.Answering.{by_when, by_map, by_with}
use Rattle.pool_laws.proofs.Preconditions.{waits, runs}
use Rattle.pool_laws.proofs.EntryPreconditions.{IsNamed, named_is, IsWhole, whole_is, update_fits, not_not}
use Rattle.pool_laws.proofs.Rows.{find_task, find_bot, bot_is}
use Rattle.pool_laws.proofs.Alike.{same_is, same_self, dims_told, text_told}

-- the entry stands for this very request
pub record IsOwn (s : PoolState) (who : List ℕ) (m : ℕ) (request : Request) (k : EntryKind) : Type 0 where
  pub asked : Asked
  pub is : asks s k ≡ Some asked
  pub same_request : asked.request ≡ request
  pub alike : decide s asked.who m request ≡ decide s who m request
  pub no_deadline : is_deadline k ≡ false

-- or for another one, which may be asked and adds it, too
pub record IsAsked (s : PoolState) (m : ℕ) (k : EntryKind) : Type 0 where
  pub asked : Asked
  pub is : asks s k ≡ Some asked
  pub may_ask : IsTrue (fits s.settings asked.request)
  pub entry : (decide s asked.who m asked.request).entry ≡ Some k
  pub no_deadline : is_deadline k ≡ false

abbrev pub Stands : PoolState → List ℕ → ℕ → Request → Decision → Type 0
Stands s who m request told = IfSome told.entry (λ k. IsOwn s who m request k ⊎ IsAsked s m k)

-- a new task stands for itself
new_stands : (s : PoolState) (who : List ℕ) (m : ℕ) (task : NewTask) (o : Option ℕ) → Stands s who m (ask.New task) (accepted_at s who task o)
new_stands s who m task (Some place) = inl (record { asked = record { who = who; request = ask.New task }; is = refl; same_request = refl; alike = refl; no_deadline = refl })
new_stands s who m task None = inl (record { asked = record { who = who; request = ask.New task }; is = refl; same_request = refl; alike = refl; no_deadline = refl })

-- the try that a report names is that of the run
try_is : (try_no : ℕ) (r : Option Attempt) (attempt : Attempt) → (try_no == 0) ≡ false → r ≡ Some attempt → (try_no == 0 || has_try try_no r) ≡ true → attempt.try_no ≡ try_no
try_is try_no r attempt no_zero is has =
    let named : has_try try_no (Some attempt) ≡ true = sym (ap (λ b. b || has_try try_no (Some attempt)) no_zero) ∙ ap (λ x. try_no == 0 || has_try try_no x) (sym is) ∙ has in
    eqb-true attempt.try_no try_no named

-- requests of a bot that is known by its name
module _ (s : PoolState) (o : IsSound s) (who : List ℕ) (m : ℕ) (name : List ℕ) (bot : BotRow) (named : bot_named s name ≡ Some bot) where
  -- the bot is one of the pool
  found : Found (is_called name) s.bots bot
  found = find_is (is_called name) s.bots bot named

  -- and has the name
  name_is : bot.name ≡ name
  name_is = same_is bot.name name found.passes

  -- the row tells the request
  by_row : (request_of : BotRow → Asked) → option_map request_of (bot_of s bot.no) ≡ Some (request_of bot)
  by_row request_of = ap (option_map request_of) (find_bot s o bot bot.no found.among refl)

  -- that it was heard stands for the handshake with what its row holds
  heard : (request : Request) (reply : Reply) → Stands s who m request (reply_with_entry reply (kind.Contact bot.no))
  heard request reply = inr (record { asked = handshake_of bot; is = by_row handshake_of; may_ask = (bot_is s o bot found.among).known; entry = again; no_deadline = refl })
    where
      again : (handshake s bot.name bot.session bot.dims bot.quarantined).entry ≡ Some (kind.Contact bot.no)
      again = rw (ap (bot_named s) name_is ∙ named, same_self bot.session) refl

  -- a handshake of a known bot stands for itself, or says that the bot was heard
  greet_stands : (session : List ℕ) (dims : BotDims) (q : List ℕ) → Stands s who m (ask.Handshake name session dims q) (known_bot name session dims q bot)
  greet_stands session dims q =
      cond_both (same bot.session session) (reply_with_entry (reply.Shaken name) (kind.Contact bot.no)) (reply_with_entry (reply.Shaken name) (kind.Handshake bot.no name session dims q)) (Stands s who m (ask.Handshake name session dims q))
      (λ t. heard (ask.Handshake name session dims q) (reply.Shaken name))
      (λ t. inl (record { asked = without_caller (ask.Handshake name session dims q); is = refl; same_request = refl; alike = refl; no_deadline = refl }))

  -- a poll stands for itself, with what it does not tell filled in from the row
  polls_stands : (dims : BotDims) (q : List ℕ) (hint : Bool) (reply : Reply) → Stands s who m (ask.Poll name dims q) (polls bot dims q hint reply)
  polls_stands dims q hint reply =
      inl (record {
        asked = poll_of (dims_unless bot.dims dims) (text_unless bot.quarantined q) bot;
        is = by_row (poll_of (dims_unless bot.dims dims) (text_unless bot.quarantined q));
        same_request = ap (λ (n : List ℕ). ask.Poll n (unwrap_or (dims_unless bot.dims dims) bot.dims) (unwrap_or (text_unless bot.quarantined q) bot.quarantined)) name_is
            ∙ ap (λ (d : BotDims). ask.Poll name d (unwrap_or (text_unless bot.quarantined q) bot.quarantined)) (dims_told bot.dims dims)
            ∙ ap (λ (t : List ℕ). ask.Poll name dims t) (text_told bot.quarantined q);
        alike = refl;
        no_deadline = refl;
      })

  -- in each of its answers
  poll_stands : (dims : BotDims) (q : List ℕ) → Stands s who m (ask.Poll name dims q) (poll s dims q bot)
  poll_stands dims q =
      by_when P bot.dead _ _ (λ t. tt) (λ t.
      by_map P busy (run_on s bot) _ (λ x e. tt) (λ e.
      by_when P bot.terminating _ _ (λ t. polls_stands dims q false reply.Terminate) (λ t.
      by_when P (not (is_empty q)) _ _ (λ t. polls_stands dims q false (reply.Sleep (sleep_secs bot))) (λ t.
      by_when P (is_some (first s bot.no dims)) _ _ (λ t. polls_stands dims q true reply.ClaimHint) (λ t. polls_stands dims q false (reply.Sleep (sleep_secs bot)))))))
    where
      P : Decision → Type 0
      P = Stands s who m (ask.Poll name dims q)

  claim_stands : (id : List ℕ) → Stands s who m (ask.Claim name id) (claim s id bot)
  claim_stands id =
      by_map P (claim_again bot id) (claimed s bot.no id) _ (λ task e.
      let shown : TaskRow = as_claimed bot.no id task in
      cond_both (is_final shown.state) _ _ P (λ t. tt) (λ t. heard (ask.Claim name id) (run (try_of shown) shown))) (λ fresh.
      by_map P unfit_refusal (unfit_of bot) _ (λ why e. tt) (λ fit.
      by_map P busy (run_on s bot) _ (λ task e. tt) (λ idle.
      by_map P (claims bot id) (first s bot.no bot.dims) _ (λ task e.
      inl (record {
        asked = claim_of id bot;
        is = by_row (claim_of id);
        same_request = ap (λ (n : List ℕ). ask.Claim n id) name_is;
        alike = refl;
        no_deadline = refl;
      })) (λ e. heard (ask.Claim name id) reply.Skip))))
    where
      P : Decision → Type 0
      P = Stands s who m (ask.Claim name id)

  event_stands : (which : EventKind) (text : List ℕ) → Stands s who m (ask.Event name which text) (event which text bot)
  event_stands which text =
      by_when (Stands s who m (ask.Event name which text)) (bot.dead && is_none bot.task) (unfit_refusal unfit.Dead) (reply_with_entry reply.Noted (kind.Event bot.no which text)) (λ t. tt) (λ t.
      inl (record {
        asked = event_of which text bot;
        is = by_row (event_of which text);
        same_request = ap (λ (n : List ℕ). ask.Event n which text) name_is;
        alike = refl;
        no_deadline = refl;
      }))

  -- a report that ends a run, or brings a chunk, stands for itself
  report_stands : (number try_no : ℕ) (chunk : Option Chunk) (last : Option Last) (row : TaskRow) → IsNamed s number try_no row → (try_no == 0) ≡ false → (r : Option Attempt) → row.attempt ≡ r →
      Stands s who m (ask.Update name number try_no chunk last) (or_refuse r rule.NoTask (report_on s bot row chunk last))
  report_stands number try_no chunk last row f one None is = tt
  report_stands number try_no chunk last row f one (Some attempt) is =
      by_when P (not (attempt.bot == bot.no)) (not_claimant s attempt) (report s bot row chunk last attempt) (λ t. tt) (λ t.
      by_when P (is_final row.state) (report_again bot row chunk last attempt) (report_running s bot row chunk last attempt)
      (λ g. cond_both (is_kept attempt chunk last) _ _ P (λ k. heard request (reply.Updated attempt.kill)) (λ k. tt)) (λ g.
      by_map P refusal (option_and_then (chunk_rule attempt) chunk) _ (λ why e. tt) (λ in_turn.
      by_map P file_missing (missing_file s (files_of last)) _ (λ file e. tt) (λ has_files.
      by_map P (λ (c : Chunk). store_full s c.size) (unplaced_chunk s (fresh_chunk (Some attempt) chunk)) _ (λ c e. tt) (λ has_place.
      by_when P (is_first_report attempt chunk last) (updates attempt (kind.Update bot.no row.no attempt.try_no chunk last)) (updates attempt (kind.Contact bot.no)) (λ l.
      inl (record {
        asked = update_of row.no attempt.try_no chunk last bot;
        is = by_row (update_of row.no attempt.try_no chunk last);
        same_request = ap (λ (n : List ℕ). ask.Update n row.no attempt.try_no chunk last) name_is
            ∙ ap (λ (n : ℕ). ask.Update name n attempt.try_no chunk last) f.row_named
            ∙ ap (λ (n : ℕ). ask.Update name number n chunk last) (try_is try_no row.attempt attempt one is f.has);
        alike = refl;
        no_deadline = refl;
      })) (λ l. heard request (reply.Updated attempt.kill)))))))
    where
      request : Request
      request = ask.Update name number try_no chunk last

      P : Decision → Type 0
      P = Stands s who m request

  terminate_stands : Stands s who m (ask.Terminate name) (terminate bot)
  terminate_stands =
      cond_both bot.terminating _ _ (Stands s who m (ask.Terminate name)) (λ t. tt) (λ t.
      inl (record { asked = terminate_of bot; is = by_row terminate_of; same_request = ap (λ (n : List ℕ). ask.Terminate n) name_is; alike = refl; no_deadline = refl }))

-- a task that is canceled, or whose run is to stop, stands for its creator's cancel of both
module _ (s : PoolState) (o : IsSound s) (who : List ℕ) (m number try_no : ℕ) (kill : Bool) (may_ask : IsTrue (fits_task number try_no)) (row : TaskRow) (f : IsWhole s number row) where
  abbrev P : Decision → Type 0
  P = Stands s who m (ask.Cancel number try_no kill)

  -- the creator may ask for it
  its_row : whole_task s row.no 0 ≡ Some row
  its_row = ap (option_and_then (whole_of 0)) (find_task s o row row.no f.among refl)

  by_creator : (k : EntryKind) → option_map cancel_of (task_of s row.no) ≡ asks s k → (decide s row.creator m (ask.Cancel row.no 0 true)).entry ≡ Some k → is_deadline k ≡ false → IsAsked s m k
  by_creator k is entry no_deadline =
      record {
        asked = cancel_of row;
        is = sym is ∙ ap (option_map cancel_of) (find_task s o row row.no f.among refl);
        may_ask = subst (λ (n : ℕ). IsTrue (fits_task n 0)) (sym f.named) (and_from (is_between 1 262144 number) true (and_parts (is_between 1 262144 number) _ may_ask).0 refl);
        entry = entry;
        no_deadline = no_deadline;
      }

  stop_stands : (k : Bool) → waits row ≡ false → runs row ≡ true → P (stop k row)
  stop_stands false w r = tt
  stop_stands true w r =
      cond_both (is_killed row.attempt) None (Some (kind.Kill row.no)) (λ (x : Option EntryKind). IfSome x (λ z. IsOwn s who m (ask.Cancel number try_no kill) z ⊎ IsAsked s m z)) (λ t. tt)
      (λ t. inr (by_creator (kind.Kill row.no) refl (rw (its_row, same_self row.creator, w, r, t) refl) refl))

  cancel_stands : P (cancel s who kill row)
  cancel_stands =
      by_when P (not (may s who permission.CancelTask row)) (denied s permission.CancelTask) (cancel_row kill row) (λ t. tt) (λ t.
      by_when P (waits row) _ _ (λ w. inr (by_creator (kind.Cancel row.no) refl (rw (its_row, same_self row.creator, w) refl) refl)) (λ w.
      by_when P (runs row) (stop kill row) _ (stop_stands kill w) (λ r. tt)))

-- a result adds nothing
result_stands : (s : PoolState) (who : List ℕ) (m number try_no : ℕ) (row : TaskRow) → Stands s who m (ask.Result number try_no) (result_of s who row)
result_stands s who m number try_no row =
    by_when (Stands s who m (ask.Result number try_no)) (not (may s who permission.ListTasks row)) (denied s permission.ListTasks) _ (λ t. tt) (λ t. tt)

-- nor does a part of an output
stdout_stands : (s : PoolState) (who : List ℕ) (m number try_no offset most : ℕ) (row : TaskRow) → Stands s who m (ask.Stdout number try_no offset most) (stdout_of s who offset most row)
stdout_stands s who m number try_no offset most row =
    by_when P (not (may s who permission.ListTasks row)) (denied s permission.ListTasks) _ (λ t. tt) (λ t.
    by_map P output_gone (find (lacks_chunk s) (chunks_within offset (offset + most) (chunks_shown s row))) _ (λ chunk e. tt) (λ e. tt))
  where
    P : Decision → Type 0
    P = Stands s who m (ask.Stdout number try_no offset most)

-- a blob that is put stands for itself
put_stands : (s : PoolState) (who : List ℕ) (m : ℕ) (named actual : List ℕ) (size : ℕ) → Stands s who m (ask.PutBlob named actual size) (put_blob s named actual size)
put_stands s who m named actual size =
    by_when P (not (same actual named)) (refusal (rule.DigestDiffers actual)) _ (λ t. tt) (λ t.
    by_when P (not (can_take s named size)) (store_full s size) (reply_with_entry (reply.Put (is_none (blob_of s named))) (kind.Put named size)) (λ f. tt) (λ f.
    inl (record {
      asked = without_caller (ask.PutBlob named named size);
      is = refl;
      same_request = ap (λ (digest : List ℕ). ask.PutBlob named digest size) (sym (same_is actual named (not_not (same actual named) t)));
      alike = refl;
      no_deadline = refl;
    })))
  where
    P : Decision → Type 0
    P = Stands s who m (ask.PutBlob named actual size)

-- what an answer adds stands for the request, or for another one that adds it
pub tell_stands : (s : PoolState) (who : List ℕ) (m : ℕ) (request : Request) → IsSound s → IsTrue (fits s.settings request) → Stands s who m request (decide s who m request)
tell_stands s who m (ask.New task) o may =
    by_map P (resubmitted task) (sent s who task.request_uuid) _ (λ row e. cond_both (same_task row.request task) _ _ P (λ t. tt) (λ t. tt)) (λ unsent.
    by_map P file_missing (missing_file s (inputs_of task.task_slices)) _ (λ file e. tt) (λ has_inputs.
    by_when P (nat_le s.settings.most_tasks (length s.tasks)) (tasks_full s) _ (λ t. tt) (λ t.
    by_map P (reuse_outcome s who task) (reuse s m task.task_slices) (accepted s who task)
    (λ found e. inl (record { asked = record { who = who; request = ask.New task }; is = refl; same_request = refl; alike = refl; no_deadline = refl })) (λ e.
    new_stands s who m task (admit s task.task_slices 0)))))
  where
    P : Decision → Type 0
    P = Stands s who m (ask.New task)
tell_stands s who m (ask.Cancel number try_no kill) o may =
    by_with (Stands s who m (ask.Cancel number try_no kill)) (whole_task s number try_no) rule.NoTask (cancel s who kill) tt
    (λ row e. cancel_stands s o who m number try_no kill may row (whole_is s number try_no row e))
tell_stands s who m (ask.Result task try_no) o may = by_with (Stands s who m (ask.Result task try_no)) (named_task s task try_no) rule.NoTask (result_of s who) tt (λ row e. result_stands s who m task try_no row)
tell_stands s who m (ask.Stdout task try_no offset most) o may =
    by_with (Stands s who m (ask.Stdout task try_no offset most)) (named_task s task try_no) rule.NoTask (stdout_of s who offset most) tt (λ row e. stdout_stands s who m task try_no offset most row)
tell_stands s who m (ask.List state limit below) o may = tt
tell_stands s who m (ask.Count state) o may = tt
tell_stands s who m (ask.Handshake name session dims q) o may =
    by_map P (known_bot name session dims q) (bot_named s name) _ (λ bot e. greet_stands s o who m name bot e session dims q) (λ unknown.
    by_when P (nat_le s.settings.most_bots (length s.bots)) _ _ (λ t. tt) (λ t.
    inl (record { asked = without_caller (ask.Handshake name session dims q); is = refl; same_request = refl; alike = refl; no_deadline = refl })))
  where
    P : Decision → Type 0
    P = Stands s who m (ask.Handshake name session dims q)
tell_stands s who m (ask.Poll name dims q) o may =
    by_with (Stands s who m (ask.Poll name dims q)) (bot_named s name) rule.NoBot (poll s dims q) tt (λ bot e. poll_stands s o who m name bot e dims q)
tell_stands s who m (ask.Claim name id) o may = by_with (Stands s who m (ask.Claim name id)) (bot_named s name) rule.NoBot (claim s id) tt (λ bot e. claim_stands s o who m name bot e id)
tell_stands s who m (ask.Event name which text) o may =
    by_with (Stands s who m (ask.Event name which text)) (bot_named s name) rule.NoBot (event which text) tt (λ bot e. event_stands s o who m name bot e which text)
tell_stands s who m (ask.Update name number try_no chunk last) o may =
    by_with (Stands s who m (ask.Update name number try_no chunk last)) (bot_named s name) rule.NoBot (update s number try_no chunk last) tt (λ bot e.
    by_with (Stands s who m (ask.Update name number try_no chunk last)) (named_task s number try_no) rule.NoTask (update_row s bot chunk last) tt (λ row f.
    report_stands s o who m name bot e number try_no chunk last row (named_is s number try_no row f) (update_fits s.settings name number try_no chunk last may).0 row.attempt refl))
tell_stands s who m (ask.Terminate name) o may = by_with (Stands s who m (ask.Terminate name)) (bot_named s name) rule.NoBot terminate tt (λ bot e. terminate_stands s o who m name bot e)
tell_stands s who m (ask.Bots limit after) o may = tt
tell_stands s who m (ask.Bot name) o may = by_with (Stands s who m (ask.Bot name)) (bot_named s name) rule.NoBot (show_bot s) tt (λ bot e. tt)
tell_stands s who m (ask.PutBlob named actual size) o may = put_stands s who m named actual size
tell_stands s who m (ask.GetBlob digest) o may = by_with (Stands s who m (ask.GetBlob digest)) (blob_of s digest) (rule.BlobMissing digest) show_blob tt (λ blob e. tt)
tell_stands s who m (ask.FindMissing blobs) o may = tt
