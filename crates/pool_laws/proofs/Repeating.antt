-- What is sent again adds at most that its bot was heard.
use Rattle.std.proofs.Common.{◌≡◌, ℕ, ◌==◌, ◌⊎◌, not, List, refl, sym, ap, ◌∙◌, subst, true, Option, Some, None}
use Rattle.std.specs.Option.{option_map, option_and_then}
use Rattle.std.proofs.lemmas.Bool.{cond_both}
use Rattle.dimensions.specs.Rules.{is_empty}
use Rattle.task_props.specs.Alike.{same_task}
use Rattle.pool_laws.specs.Types.{NewTask, BotDims, Attempt, Chunk, Last, Request, Answer, Decision, TaskRow, BotRow, PoolState}
use Rattle.swarm_model.specs.declared.entry.EntryKind.TheVariants as kind
use Rattle.swarm_model.specs.declared.request.Request.TheVariants as ask
use Rattle.swarm_model.specs.declared.rule.Rule.TheVariants as rule
use Rattle.swarm_model.specs.Finding.{is_final, is_task, task_of, bot_named}
use Rattle.swarm_model.specs.Answers.{answer, claimed, as_claimed, entry_at, or_refuse, updates, refusal, file_missing, chunk_rule, store_full, unplaced_chunk, is_first_report, report, report_again, report_running, report_on, not_claimant, is_kept, named_task}
use Rattle.swarm_model.specs.Blobs.{missing_file}
use Rattle.swarm_model.specs.Effects.{fresh_chunk}
use Rattle.swarm_model.specs.Views.{files_of}
use Rattle.swarm_model.specs.Soundness.{IsSound, HasKey, sent_key}
use Rattle.swarm_model.specs.Reuse.{sent}
use Rattle.swarm_model.specs.MachineState.{MachineState, SaysContact, ActsOnce}
use Rattle.pool_laws.proofs.Answering.{by_when, by_map}
use Rattle.pool_laws.proofs.Lists.{Found, find_is}
use Rattle.pool_laws.proofs.Claimed.{claim_found}
use Rattle.pool_laws.proofs.UuidLaw.{IsKeyed, key_tells, sent_found}
use Rattle.pool_laws.proofs.RepeatLaws.{handshake_law, no_news}

module _ (kept : MachineState) (o : IsSound kept.pool) (who : List ℕ) (m pass : ℕ) where
  abbrev s : PoolState
  s = kept.pool

  -- the entry of a decision says at most that the bot was heard
  abbrev Says : BotRow → Decision → Type 0
  Says bot decision = SaysContact bot (option_map (entry_at m pass) decision.entry)

  -- it adds none
  abbrev IsQuiet : Decision → Type 0
  IsQuiet decision = option_map (entry_at m pass) decision.entry ≡ None

  task_once : (request : NewTask) (task : TaskRow) → task_of s task.no ≡ Some task → sent_key task ≡ Some (who, request.request_uuid) → (answer s who m pass (ask.New request)).entry ≡ None
  task_once request task there key =
      rw found (cond_both (same_task task.request request) _ _ IsQuiet (λ t. refl) (λ t. refl))
    where
      f : Found (is_task task.no) s.tasks task
      f = find_is (is_task task.no) s.tasks task there

      g : IsKeyed task who request.request_uuid
      g = key_tells task who request.request_uuid key

      found : sent s who request.request_uuid ≡ Some task
      found =
          subst (λ (w : List ℕ). sent s w request.request_uuid ≡ Some task) g.by
          (subst (λ (u : List ℕ). sent s task.creator u ≡ Some task) g.under (sent_found s o task f.among (ap is_empty g.under ∙ g.not_empty)))

  claim_once : (name id : List ℕ) (bot : BotRow) (task : TaskRow) → bot_named s name ≡ Some bot → task_of s task.no ≡ Some task → HasKey task (bot.no, id) →
      SaysContact bot (answer s who m pass (ask.Claim name id)).entry
  claim_once name id bot task named there key =
      let f : Found (is_task task.no) s.tasks task = find_is (is_task task.no) s.tasks task there in
      let shown : TaskRow = as_claimed bot.no id task in
      let found : claimed s bot.no id ≡ Some task = claim_found s o bot.no id task f.among key in
      rw (named, found) (cond_both (is_final shown.state) _ _ (Says bot) (λ t. tt) (λ t. refl))

  handshake_once : (name session : List ℕ) (dims : BotDims) (q : List ℕ) (bot : BotRow) → bot_named s name ≡ Some bot → bot.session ≡ session →
      SaysContact bot (answer s who m pass (ask.Handshake name session dims q)).entry
  handshake_once name session dims q bot named e =
      subst (λ (a : Answer). SaysContact bot a.entry) (sym (handshake_law s who name session q dims m pass bot named e)) refl

  report_once : (bot : BotRow) (task : TaskRow) (chunk : Option Chunk) (last : Option Last) (r : Option Attempt) → (is_final task.state ≡ true) ⊎ ((fresh_chunk r chunk ≡ None) × (last ≡ None)) →
      Says bot (or_refuse r rule.NoTask (report_on s bot task chunk last))
  report_once bot task chunk last None k = tt
  report_once bot task chunk last (Some a) k =
      by_when (Says bot) (not (a.bot == bot.no)) (not_claimant s a) (report s bot task chunk last a) (λ t. tt) (λ t.
      by_when (Says bot) (is_final task.state) (report_again bot task chunk last a) (report_running s bot task chunk last a) (λ f. cond_both (is_kept a chunk last) _ _ (Says bot) (λ t. refl) (λ t. tt)) (λ f.
      by_map (Says bot) refusal (option_and_then (chunk_rule a) chunk) _ (λ why e. tt) (λ in_turn.
      by_map (Says bot) file_missing (missing_file s (files_of last)) _ (λ file e. tt) (λ has_files.
      by_map (Says bot) (λ (c : Chunk). store_full s c.size) (unplaced_chunk s (fresh_chunk (Some a) chunk)) _ (λ c e. tt) (λ has_place.
      by_when (Says bot) (is_first_report a chunk last) (updates a (kind.Update bot.no task.no a.try_no chunk last)) (updates a (kind.Contact bot.no))
      (λ l. absurd (no_news a chunk last (is_final task.state) f l k)) (λ l. refl))))))

  update_once : (name : List ℕ) (number try_no : ℕ) (chunk : Option Chunk) (last : Option Last) (bot : BotRow) (task : TaskRow) → bot_named s name ≡ Some bot → named_task s number try_no ≡ Some task →
      (is_final task.state ≡ true) ⊎ ((fresh_chunk task.attempt chunk ≡ None) × (last ≡ None)) → SaysContact bot (answer s who m pass (ask.Update name number try_no chunk last)).entry
  update_once name number try_no chunk last bot task named is k = rw (named, is) (report_once bot task chunk last task.attempt k)

  -- so it is with every request
  pub acts_once : (request : Request) → ActsOnce kept who request (answer s who m pass request).entry
  acts_once (ask.New request) = task_once request
  acts_once (ask.Claim name id) = claim_once name id
  acts_once (ask.Handshake name session dims q) = handshake_once name session dims q
  acts_once (ask.Update name number try_no chunk last) = update_once name number try_no chunk last
  acts_once request = tt
