-- What comes of a request that is sent again.
use Rattle.std.proofs.Common.{◌≡◌, ℕ, ◌==◌, ◌&&◌, ◌||◌, ◌⊎◌, inl, inr, not, List, [], ◌∷◌, ◌++◌, map, map-id, refl, ap, ◌∙◌, subst, cond, true, false, Bool, Option, Some, None, IfSome, is_some, sym}
use Rattle.std.specs.Option.{option_map, option_map_or, option_and_then}
use Rattle.std.proofs.lemmas.Bool.{cond_both, eq-eqb, ne_eqb}
use Rattle.std.proofs.lemmas.Option.{same_Some}
use Rattle.pool_laws.specs.Types.{Attempt, Retried, Chunk, Last, TaskState, BotDied, Reply, Answer, Decision, TaskRow, BotRow, PoolState}
use Rattle.dimensions.specs.Alike.{same as same_text}
use Rattle.dimensions.specs.Choosing.{when, ◌or_else◌}
use Rattle.swarm_model.specs.declared.request.Request.TheVariants as ask
use Rattle.pool_laws.proofs.EntryPreconditions.{or_right}
use Rattle.pool_laws.proofs.Rows.{task_is}
use Rattle.swarm_model.specs.declared.entry.EntryKind.TheVariants as kind
use Rattle.swarm_model.specs.declared.reply.Reply.TheVariants as reply
use Rattle.swarm_model.specs.declared.rule.Rule.TheVariants as rule
use Rattle.swarm_model.specs.Finding.{is_final, is_task, bot_named}
use Rattle.swarm_model.specs.Answers.{answer, claimed, is_claim, is_claimed, as_claimed, lost_row, if_lost, if_named, has_try, try_of, entry_at, or_refuse, reply_with_entry, updates, refusal, file_missing, chunk_rule, store_full, unplaced_chunk, is_first_report, report, report_again, report_running, report_on, not_claimant, is_kept}
use Rattle.swarm_model.specs.Blobs.{missing_file}
use Rattle.swarm_model.specs.Views.{files_of}
use Rattle.swarm_model.specs.Effects.{opening, heard, fresh_chunk}
use Rattle.swarm_model.specs.History.{replay}
use Rattle.swarm_model.specs.Soundness.{IsSound, IsSoundRetried, IsRightTry, HasKey, runner}
use Rattle.swarm_model.specs.Reuse.{sent}
use Rattle.swarm_model.specs.Repeats.{NewTaskAgain, UuidIsTaken, HasClaimed, state_of_try, ClaimAgain, ClaimIsOver, HandshakeAgain, UpdateAgain, UpdateIsOver, ContactChanges, contact_only}
use Rattle.pool_laws.proofs.Answering.{by_when, by_map}
use Rattle.pool_laws.proofs.Lists.{Found, find_is}
use Rattle.pool_laws.proofs.Tasks.{runner_final}
use Rattle.pool_laws.proofs.Claimed.{Key, key_in, by_key, lost_key_in, claim_found}
use Rattle.pool_laws.proofs.UuidLaw.{sent_found}
use Rattle.pool_laws.proofs.Alike.{is_same, task_self}
use Rattle.pool_laws.proofs.Sound.{sound_replay, opening_sound}

-- a task that was sent under a uuid
pub new_task_law : NewTaskAgain
new_task_law settings log moment pass task c there not_empty =
    let s : PoolState = replay (opening settings) log in
    let o : IsSound s = sound_replay (opening settings) log (opening_sound settings) c in
    let f : Found (is_task task.no) s.tasks task = find_is (is_task task.no) s.tasks task there in
    rw (sent_found s o task f.among not_empty, task_self task.request) refl

-- another one under that uuid
pub uuid_taken_law : UuidIsTaken
uuid_taken_law settings log moment pass task request c there not_empty same_uuid other =
    let s : PoolState = replay (opening settings) log in
    let o : IsSound s = sound_replay (opening settings) log (opening_sound settings) c in
    let f : Found (is_task task.no) s.tasks task = find_is (is_task task.no) s.tasks task there in
    rw (ap (sent s task.creator) same_uuid ∙ sent_found s o task f.among not_empty, other) refl

-- a task that runs is not over
not_over : (task : TaskRow) (n : ℕ) → runner task ≡ Some n → is_final task.state ≡ false
not_over task n r = by_test (is_final task.state) refl
  where
    by_test : (b : Bool) → is_final task.state ≡ b → b ≡ false
    by_test false e = refl
    by_test true e = absurd (cc (r, runner_final task.state task.attempt e))

-- the task of an attempt is found by its bot and the id of its claim
its_row : (s : PoolState) → IsSound s → (name : List ℕ) (bot : BotRow) (task : TaskRow) (attempt : Attempt) → HasClaimed s name bot task attempt →
    claimed s bot.no attempt.claim ≡ Some task
its_row s o name bot task attempt h =
    let f : Found (is_task task.no) s.tasks task = find_is (is_task task.no) s.tasks task h.there in
    claim_found s o bot.no attempt.claim task f.among (subst (λ (n : ℕ). HasKey task (n, attempt.claim)) h.by_bot (keyed h.attempted))
  where
    keyed : (task.attempt ≡ Some attempt) ⊎ (option_map (λ (lost : Retried). lost.attempt) task.retried ≡ Some attempt) → HasKey task (attempt.bot, attempt.claim)
    keyed (inl e) = inl (ap key_in e)
    keyed (inr e) = inr (lost_key_in task.retried ∙ ap key_in e)

-- a claim of the run
pub claim_again_law : ClaimAgain
claim_again_law settings log who name moment pass bot task attempt c h own r =
    let s : PoolState = replay (opening settings) log in
    let o : IsSound s = sound_replay (opening settings) log (opening_sound settings) c in
    let its : is_claimed bot.no attempt.claim task ≡ true = by_key bot.no attempt.claim task.attempt (ap key_in own ∙ ap (λ (n : ℕ). let z : Key = Some (n, attempt.claim) in z) h.by_bot) in
    let shown : as_claimed bot.no attempt.claim task ≡ task = ap (λ (z : Bool). cond z task (option_map_or (lost_row task) task.retried task)) its in
    let found : claimed s bot.no attempt.claim ≡ Some task = its_row s o name bot task attempt h in
    rw (h.named, found, shown, not_over task bot.no r, own) refl

-- a claim of a run that has ended, where the row that shows it has its state and its try
over_shown : (s : PoolState) (who name : List ℕ) (moment pass : ℕ) (bot : BotRow) (task shown : TaskRow) (claim : List ℕ) (try_no : ℕ) (state : TaskState) → bot_named s name ≡ Some bot → claimed s bot.no claim ≡ Some task →
    as_claimed bot.no claim task ≡ shown → shown.no ≡ task.no → try_of shown ≡ try_no → shown.state ≡ state → is_final state ≡ true →
    answer s who moment pass (ask.Claim name claim) ≡ record { reply = reply.No (rule.ClaimOver task.no try_no state); entry = None }
over_shown s who name moment pass bot task shown claim try_no state named found row same tried is final =
    rw (named, found, row, ap is_final is ∙ final, same, tried, is) refl

-- the row of a task's own run
own_shown : (task : TaskRow) (attempt : Attempt) (b : ℕ) → task.attempt ≡ Some attempt → attempt.bot ≡ b → (as_claimed b attempt.claim task ≡ task) × (state_of_try task attempt.try_no ≡ task.state)
own_shown task attempt b own by = (
  ap (λ (z : Bool). cond z task (option_map_or (lost_row task) task.retried task)) (by_key b attempt.claim task.attempt (ap key_in own ∙ ap (λ (n : ℕ). let z : Key = Some (n, attempt.claim) in z) by)),
  ap (λ (z : Option TaskRow). option_map_or (λ row. row.state) z task.state) named,
)
  where
    named : if_named attempt.try_no task ≡ Some task
    named =
        ap (λ (c : Bool). when c task or_else option_and_then (if_lost attempt.try_no task) task.retried)
        (or_right (attempt.try_no == 0) (ap (has_try attempt.try_no) own ∙ eq-eqb attempt.try_no attempt.try_no refl))

-- and that of one that was tried again
lost_shown : (task : TaskRow) (attempt : Attempt) (b : ℕ) (lost : Retried) → task.retried ≡ Some lost → lost.attempt ≡ attempt → attempt.bot ≡ b → attempt.try_no ≡ 1 → IfSome task.attempt (IsRightTry (Some lost)) →
    (as_claimed b attempt.claim task ≡ lost_row task lost) × (if_named attempt.try_no task ≡ Some (lost_row task lost))
lost_shown task attempt b lost is same by one tries = (
  ap (λ (c : Bool). cond c task (option_map_or (lost_row task) task.retried task)) (other task.attempt tries) ∙ ap (λ (z : Option Retried). option_map_or (lost_row task) z task) is,
  ap (λ (c : Bool). when c task or_else option_and_then (if_lost attempt.try_no task) task.retried) (none task.attempt tries)
      ∙ ap (λ (z : Option Retried). option_and_then (if_lost attempt.try_no task) z) is
      ∙ ap (λ (c : Bool). when c (lost_row task lost)) (eq-eqb lost.attempt.try_no attempt.try_no (ap (λ (x : Attempt). x.try_no) same)),
)
  where
    other : (z : Option Attempt) → IfSome z (IsRightTry (Some lost)) → option_map_or (is_claim b attempt.claim) z false ≡ false
    other None h = refl
    other (Some a) h = ap (λ (c : Bool). c && same_text a.claim attempt.claim) (ne_eqb a.bot b (λ e. h.1 (e ∙ sym by ∙ ap (λ (x : Attempt). x.bot) (sym same))))

    none : (z : Option Attempt) → IfSome z (IsRightTry (Some lost)) → (attempt.try_no == 0 || has_try attempt.try_no z) ≡ false
    none None h = rw one refl
    none (Some a) h = rw (one, h.0) refl

pub claim_over_law : ClaimIsOver
claim_over_law settings log who name moment pass bot task attempt c h final = by_run h.attempted
  where
    s : PoolState
    s = replay (opening settings) log

    o : IsSound s
    o = sound_replay (opening settings) log (opening_sound settings) c

    by_lost : (z : Option Retried) → task.retried ≡ z → option_map (λ (lost : Retried). lost.attempt) z ≡ Some attempt →
        answer s who moment pass (ask.Claim name attempt.claim) ≡ record { reply = reply.No (rule.ClaimOver task.no attempt.try_no (state_of_try task attempt.try_no)); entry = None }
    by_lost None is e = absurd (cc (e))
    by_lost (Some lost) is e =
        (let f : Found (is_task task.no) s.tasks task = find_is (is_task task.no) s.tasks task h.there in
        let sound = task_is s o task f.among in
        let first : lost.attempt.try_no ≡ 1 = (subst (λ (z : Option Retried). IfSome z (IsSoundRetried s task.request.task_slices)) is sound.retried).first in
        let same : lost.attempt ≡ attempt = same_Some _ _ e in
        let one : attempt.try_no ≡ 1 = ap (λ (x : Attempt). x.try_no) (sym same) ∙ first in
        let two = lost_shown task attempt bot.no lost is same h.by_bot one (subst (λ (z : Option Retried). IfSome task.attempt (IsRightTry z)) is sound.tries) in
        let died : state_of_try task attempt.try_no ≡ BotDied = ap (λ (z : Option TaskRow). option_map_or (λ row. row.state) z task.state) two.1 in
        over_shown s who name moment pass bot task (lost_row task lost) attempt.claim attempt.try_no (state_of_try task attempt.try_no) h.named
        (its_row s o name bot task attempt h) two.0 refl (ap (λ (x : Attempt). x.try_no) same) (sym died) final)

    by_run : (task.attempt ≡ Some attempt) ⊎ (option_map (λ (lost : Retried). lost.attempt) task.retried ≡ Some attempt) →
        answer s who moment pass (ask.Claim name attempt.claim) ≡ record { reply = reply.No (rule.ClaimOver task.no attempt.try_no (state_of_try task attempt.try_no)); entry = None }
    by_run (inl own) =
        (let two = own_shown task attempt bot.no own h.by_bot in
        over_shown s who name moment pass bot task task attempt.claim attempt.try_no (state_of_try task attempt.try_no) h.named
        (its_row s o name bot task attempt h) two.0 refl (ap (λ (z : Option Attempt). option_map_or (λ (a : Attempt). a.try_no) z 0) own) (sym two.1) final)
    by_run (inr lost) = by_lost task.retried refl lost

-- a handshake of the session
pub handshake_law : HandshakeAgain
handshake_law s who name session q dims moment pass bot named e = rw (named, is_same bot.session session e) refl

-- a report that is taken says only that the bot was heard
abbrev SaysHeard : ℕ → Bool → Decision → Type 0
SaysHeard b killed told = told.reply ≡ reply.Updated killed → told ≡ reply_with_entry (reply.Updated killed) (kind.Contact b)

-- a report says nothing new of a run that goes on, where it ends it not and brings no chunk
pub no_news : (attempt : Attempt) (chunk : Option Chunk) (last : Option Last) (final : Bool) → final ≡ false → is_first_report attempt chunk last ≡ true → (final ≡ true) ⊎ ((fresh_chunk (Some attempt) chunk ≡ None) × (last ≡ None)) → ⊥
no_news attempt chunk last final f news (inl ended) = cc (f, ended)
no_news attempt chunk last final f news (inr both) = let quiet : is_first_report attempt chunk last ≡ false = rw (both.1, both.0) refl in cc (news, quiet)

-- where its run has ended, or it says nothing new
report_heard : (s : PoolState) (bot : BotRow) (task : TaskRow) (chunk : Option Chunk) (last : Option Last) (killed : Bool) (r : Option Attempt) → (is_final task.state ≡ true) ⊎ ((fresh_chunk r chunk ≡ None) × (last ≡ None)) →
    SaysHeard bot.no killed (or_refuse r rule.NoTask (report_on s bot task chunk last))
report_heard s bot task chunk last killed None k = λ e. absurd (cc (e))
report_heard s bot task chunk last killed (Some attempt) k =
    by_when P (not (attempt.bot == bot.no)) (not_claimant s attempt) (report s bot task chunk last attempt) (λ t e. absurd (cc (e))) (λ t.
    by_when P (is_final task.state) (report_again bot task chunk last attempt) (report_running s bot task chunk last attempt)
    (λ f. cond_both (is_kept attempt chunk last) _ _ P (λ t e. heard_so e) (λ t e. absurd (cc (e)))) (λ f.
    by_map P refusal (option_and_then (chunk_rule attempt) chunk) _ (λ why g e. absurd (cc (e))) (λ in_turn.
    by_map P file_missing (missing_file s (files_of last)) _ (λ file g e. absurd (cc (e))) (λ has_files.
    by_map P (λ (c : Chunk). store_full s c.size) (unplaced_chunk s (fresh_chunk (Some attempt) chunk)) _ (λ c g e. absurd (cc (e))) (λ has_place.
    by_when P (is_first_report attempt chunk last) (updates attempt (kind.Update bot.no task.no attempt.try_no chunk last)) (updates attempt (kind.Contact bot.no))
    (λ l. absurd (no_news attempt chunk last (is_final task.state) f l k)) (λ l e. heard_so e))))))
  where
    P : Decision → Type 0
    P = SaysHeard bot.no killed

    heard_so : reply.Updated attempt.kill ≡ reply.Updated killed → updates attempt (kind.Contact bot.no) ≡ reply_with_entry (reply.Updated killed) (kind.Contact bot.no)
    heard_so e = ap (λ (z : Reply). reply_with_entry z (kind.Contact bot.no)) e

-- the report of a run that has ended, or of no end and no new output
pub update_again_law : UpdateAgain
update_again_law s who name moment pass t try_no chunk last killed bot task named is taken k =
    rw (named, is) (ap (λ (told : Decision). let a : Answer = record { reply = told.reply; entry = option_map (entry_at moment pass) told.entry } in a)
    (report_heard s bot task chunk last killed task.attempt k (rw (named, is) at taken)))

-- another report of a run that has ended
pub update_over_law : UpdateIsOver
update_over_law s who name moment pass t try_no chunk last bot task attempt named is attempted by final other =
    rw (named, is, attempted, eq-eqb attempt.bot bot.no by, final, other) refl

-- heard in the words of the law
heard_is : (m : ℕ) (bot : BotRow) → heard m bot ≡ contact_only m bot
heard_is m bot = ap (λ (d : Bool). let x : BotRow = record bot { contact = m; dead = d } in x) (by_marks bot.dead (is_some bot.task))
  where
    by_marks : (d t : Bool) → (d && not t) ≡ cond t false d
    by_marks true true = refl
    by_marks true false = refl
    by_marks false true = refl
    by_marks false false = refl

-- lists that are changed alike are alike
all_same : {A B : Type 0} (f g : A → B) → ((x : A) → f x ≡ g x) → (xs : List A) → map f xs ++ [] ≡ map g xs
all_same f g e [] = refl
all_same f g e (x ∷ xs) = cc (e x, all_same f g e xs)

-- that a bot was heard
pub contact_law : ContactChanges
contact_law s m pass b =
    ap (λ (tasks : List TaskRow). let t : PoolState = record s { last = m; tasks = tasks; bots = map (λ (bot : BotRow). cond (bot.no == b) (heard m bot) bot) s.bots ++ [] } in t) (all_same (λ x. x) (λ x. x) (λ x. refl) s.tasks ∙ map-id s.tasks)
    ∙ ap (λ (bots : List BotRow). let t : PoolState = record s { last = m; bots = bots } in t)
    (all_same (λ (bot : BotRow). cond (bot.no == b) (heard m bot) bot) (λ (bot : BotRow). cond (bot.no == b) (contact_only m bot) bot) (λ bot. ap (λ (y : BotRow). cond (bot.no == b) y bot) (heard_is m bot)) s.bots)
