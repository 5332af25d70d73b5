-- What the hands hold after a turn: a run stays, and an output is pending behind what the bot counts.
use Rattle.std.proofs.Common.{◌≡◌, ℕ, ◌+◌, ◌-◌, ◌≤◌, true, false, List, ◌++◌, length, take, Option, Some, None, is_some, Result, Ok, Err, refl, ap, sym, ◌∙◌, subst, arith}
use Rattle.std.specs.Prelude.{⊤}
use Rattle.std.proofs.lemmas.List.{length-take-le, length-append}
use Rattle.bot_turns.specs.Types.{Properties, Failed, Exchanged, Look, Action, BotEvent, Hands}
use Rattle.swarm_model.specs.declared.reply.Reply.TheVariants as reply
use Rattle.server_calls.specs.declared.told.Told.TheVariants as told
use Rattle.server_calls.specs.declared.exchanged.Exchanged.TheVariants as exchanged
use Rattle.runners.specs.declared.answer.Look.TheVariants as look
use Rattle.runners.specs.Calls.{RunnerState, Looks}
use Rattle.bot_core.specs.declared.action.Action.TheVariants as action
use Rattle.bot_core.specs.declared.bot_event.BotEvent.TheVariants as event
use Rattle.bot_core.specs.RunChanges.{most_pending}
use Rattle.bot_turns.specs.Events.{exchange_event, claim_event, is_of_handshake, is_of_poll, is_of_claim, is_of_prepare, is_of_start, is_of_signal, is_of_send, is_of_upload, is_of_clean_up, is_event_of}
use Rattle.bot_turns.specs.ServerTurns.{OfRun, hands_after_claim}
use Rattle.bot_turns.specs.Inputs.{Prepares}
use Rattle.bot_turns.specs.CacheTurns.{CleansRun}
use Rattle.bot_turns.specs.ChildTurns.{look_event, pending_after}
use Rattle.bot_turns.specs.Turns.{BotWorld, IsTurnOf}
use Rattle.bot_turns.proofs.StepLemmas.{output_size, is_claim_run}

-- where so many bytes were counted as pending
pub record HandsAfter (pending : ℕ) (e : BotEvent) (h h2 : Hands) : Type 0 where
  pub run : is_some h.run ≡ true → is_some h2.run ≡ true
  pub claimed : is_claim_run e ≡ true → is_some h2.run ≡ true
  pub bytes : pending + output_size e ≤ length h2.pending.items
  pub room : pending + output_size e ≤ most_pending

-- the room of a look is what is left of the bytes that may be pending
abbrev pub LeavesRoom : Action → ℕ → Type 0
LeavesRoom (action.Look room) pending = room ≡ most_pending - pending
LeavesRoom a pending = ⊤

-- ---- events that are neither an output nor the claim of a run

abbrev IsPlain : BotEvent → Type 0
IsPlain e = (output_size e ≡ 0) × (is_claim_run e ≡ false)

plain_handshake : (e : BotEvent) → is_of_handshake e ≡ true → IsPlain e
plain_handshake (event.Output n) h = absurd (cc)
plain_handshake (event.ClaimRun a b c d) h = absurd (cc)
plain_handshake e h = (refl, refl)

plain_poll : (e : BotEvent) → is_of_poll e ≡ true → IsPlain e
plain_poll (event.Output n) h = absurd (cc)
plain_poll (event.ClaimRun a b c d) h = absurd (cc)
plain_poll e h = (refl, refl)

plain_prepare : (e : BotEvent) → is_of_prepare e ≡ true → IsPlain e
plain_prepare (event.Output n) h = absurd (cc)
plain_prepare (event.ClaimRun a b c d) h = absurd (cc)
plain_prepare e h = (refl, refl)

plain_start : (e : BotEvent) → is_of_start e ≡ true → IsPlain e
plain_start (event.Output n) h = absurd (cc)
plain_start (event.ClaimRun a b c d) h = absurd (cc)
plain_start e h = (refl, refl)

plain_signal : (e : BotEvent) → is_of_signal e ≡ true → IsPlain e
plain_signal (event.Output n) h = absurd (cc)
plain_signal (event.ClaimRun a b c d) h = absurd (cc)
plain_signal e h = (refl, refl)

plain_send : (e : BotEvent) → is_of_send e ≡ true → IsPlain e
plain_send (event.Output n) h = absurd (cc)
plain_send (event.ClaimRun a b c d) h = absurd (cc)
plain_send e h = (refl, refl)

plain_upload : (e : BotEvent) → is_of_upload e ≡ true → IsPlain e
plain_upload (event.Output n) h = absurd (cc)
plain_upload (event.ClaimRun a b c d) h = absurd (cc)
plain_upload e h = (refl, refl)

plain_clean_up : (e : BotEvent) → is_of_clean_up e ≡ true → IsPlain e
plain_clean_up (event.Output n) h = absurd (cc)
plain_clean_up (event.ClaimRun a b c d) h = absurd (cc)
plain_clean_up e h = (refl, refl)

-- ---- hands of which the run and the pending bytes stay

stay : (n : ℕ) (e : BotEvent) (h h2 : Hands) → h2.run ≡ h.run → h2.pending ≡ h.pending → IsPlain e → n ≤ length h.pending.items → n ≤ most_pending → HandsAfter n e h h2
stay n e h h2 f g p i j =
    let same : length h2.pending.items ≡ length h.pending.items = ap (λ x. length x.items) g in
    record {
      run = λ k. ap is_some f ∙ k;
      claimed = λ k. absurd (cc (p.1, k));
      bytes = omega (arith, p.0, same, i);
      room = omega (arith, p.0, j);
    }

stay_same : (n : ℕ) (e : BotEvent) (h h2 : Hands) → h2 ≡ h → IsPlain e → n ≤ length h.pending.items → n ≤ most_pending → HandsAfter n e h h2
stay_same n e h h2 f p i j = stay n e h h2 (ap (λ x. x.run) f) (ap (λ x. x.pending) f) p i j

-- ---- Claim

claimed_run : (x : Exchanged) (h : Hands) → is_some h.run ≡ true → is_some (hands_after_claim x h).run ≡ true
claimed_run (exchanged.Told (told.Good place (reply.Run task try_no slice tolerance p) bytes)) h k = refl
claimed_run (exchanged.Told (told.Good place r bytes)) h k = k
claimed_run x h k = k

claim_gives : (x : Exchanged) (e : BotEvent) (h : Hands) → exchange_event claim_event x ≡ Some e → is_claim_run e ≡ true → is_some (hands_after_claim x h).run ≡ true
claim_gives (exchanged.Told (told.Good place (reply.Run task try_no slice tolerance p) bytes)) e h f k = refl
claim_gives (exchanged.Told (told.Good place reply.Skip bytes)) e h f k = absurd (cc)
claim_gives (exchanged.Told (told.Good place r bytes)) e h f k = absurd (cc)
claim_gives (exchanged.Told (told.No code body)) e h f k = absurd (cc)
claim_gives exchanged.NoReply e h f k = absurd (cc)
claim_gives exchanged.Lost e h f k = absurd (cc)
claim_gives exchanged.Memory e h f k = absurd (cc)

claimed_pending : (x : Exchanged) (h : Hands) → (hands_after_claim x h).pending ≡ h.pending
claimed_pending (exchanged.Told (told.Good place (reply.Run task try_no slice tolerance p) bytes)) h = refl
claimed_pending (exchanged.Told (told.Good place r bytes)) h = refl
claimed_pending x h = refl

claim_size : (e : BotEvent) → is_of_claim e ≡ true → output_size e ≡ 0
claim_size (event.Output n) h = absurd (cc)
claim_size e h = refl

claim_hands : (n : ℕ) (x : Exchanged) (e : BotEvent) (h h2 : Hands) → exchange_event claim_event x ≡ Some e → h2 ≡ hands_after_claim x h → is_of_claim e ≡ true → n ≤ length h.pending.items → n ≤ most_pending → HandsAfter n e h h2
claim_hands n x e h h2 f g k i j =
    let size : output_size e ≡ 0 = claim_size e k in
    let same : length h2.pending.items ≡ length h.pending.items = ap (λ y. length y.pending.items) g ∙ ap (λ y. length y.items) (claimed_pending x h) in
    record {
      run = λ r. ap (λ y. is_some y.run) g ∙ claimed_run x h r;
      claimed = λ c. ap (λ y. is_some y.run) g ∙ claim_gives x e h f c;
      bytes = omega (arith, size, same, i);
      room = omega (arith, size, j);
    }

-- ---- Prepare and CleanUp

prepare_run : (o : Option (List ℕ × Properties)) (inputs : Result (List (List ℕ × List ℕ)) BotEvent) (h : Hands) (e : BotEvent) (r s : RunnerState) (h2 : Hands) → OfRun o (λ run p. Prepares inputs run p h e r s h2) → (h2.run ≡ h.run) × (h2.pending ≡ h.pending)
prepare_run None inputs h e r s h2 f = absurd f
prepare_run (Some run) (Ok inputs) h e r s h2 f = (ap (λ x. x.run) f.hands, ap (λ x. x.pending) f.hands)
prepare_run (Some run) (Err u) h e r s h2 f = (ap (λ x. x.run) f.2, ap (λ x. x.pending) f.2)

clean_run : (o : Option (List ℕ × Properties)) (h : Hands) (e : BotEvent) (r s : RunnerState) (h2 : Hands) → OfRun o (λ run p. CleansRun p h e r s h2) → (h2.run ≡ h.run) × (h2.pending ≡ h.pending)
clean_run None h e r s h2 f = absurd f
clean_run (Some run) h e r s h2 f = (ap (λ x. x.run) f.hands, ap (λ x. x.pending) f.hands)

-- ---- Look

cut_length : (n room : ℕ) (bytes : List ℕ) → room ≡ most_pending - n → n ≤ length bytes → n ≤ most_pending → length (take (most_pending - room) bytes) ≡ n
cut_length n room bytes f i j =
    let e : most_pending - room ≡ n = omega (arith, f, j) in
    ap (λ k. length (take k bytes)) e ∙ length-take-le n bytes i

look_bytes : (n room : ℕ) (answer : Result Look Failed) (into bytes : List ℕ) (r s : RunnerState) → length bytes ≡ n → length into ≡ room → room ≡ most_pending - n → n ≤ most_pending → Looks answer into r s →
    (n + output_size (look_event answer) ≤ length (pending_after answer into bytes)) × (n + output_size (look_event answer) ≤ most_pending) × (is_claim_run (look_event answer) ≡ false)
look_bytes n room (Ok (look.Output k)) into bytes r s f g h j l =
    let taken : length (take k into) ≡ k = length-take-le k into l.0.1 in
    let all : length (bytes ++ take k into) ≡ length bytes + length (take k into) = length-append bytes (take k into) in
    (omega (arith, all, taken, f), omega (arith, l.0.1, g, h, j), refl)
look_bytes n room (Ok look.Quiet) into bytes r s f g h j l = (omega (arith, f), omega (arith, j), refl)
look_bytes n room (Ok (look.Ended code)) into bytes r s f g h j l = (omega (arith, f), omega (arith, j), refl)
look_bytes n room (Err fault) into bytes r s f g h j l = (omega (arith, f), omega (arith, j), refl)

-- ---- all turns

pub hands_after : (a : Action) (e : BotEvent) (w v : BotWorld) (n : ℕ) → IsTurnOf a e w v → is_event_of a e ≡ true → LeavesRoom a n → n ≤ length w.hands.pending.items → n ≤ most_pending → HandsAfter n e w.hands v.hands
hands_after (action.Handshake first session) e w v n f k r i j =
    stay_same n e w.hands v.hands (ap (λ x. x.hands) f.1) (plain_handshake e k) i j
hands_after action.Poll e w v n f k r i j =
    stay_same n e w.hands v.hands (ap (λ x. x.hands) f.1) (plain_poll e k) i j
hands_after (action.Claim first session claim) e w v n f k r i j =
    claim_hands n f.0.exchanged e w.hands v.hands f.0.taken.event f.0.taken.hands k i j
hands_after action.Prepare e w v n f k r i j =
    let same = prepare_run w.hands.run f.0.inputs w.hands e w.runner v.runner v.hands f.0.prepares in
    stay n e w.hands v.hands same.0 same.1 (plain_prepare e k) i j
hands_after action.Start e w v n f k r i j =
    stay_same n e w.hands v.hands (ap (λ x. x.hands) f.1) (plain_start e k) i j
hands_after (action.Look room) e w v n f k r i j =
    let known = look_bytes n room f.0.answer f.0.into (take (most_pending - room) w.hands.pending.items) w.runner v.runner (cut_length n room w.hands.pending.items r i j) f.0.size r j f.0.looks in
    let size : output_size e ≡ output_size (look_event f.0.answer) = ap output_size f.0.event in
    let bytes : length v.hands.pending.items ≡ length (pending_after f.0.answer f.0.into (take (most_pending - room) w.hands.pending.items)) = ap length f.0.bytes in
    record {
      run = λ some. ap (λ x. is_some x.hands.run) f.1 ∙ some;
      claimed = λ claimed. absurd (cc (ap is_claim_run f.0.event, claimed, known.2));
      bytes = omega (arith, size, bytes, known.0);
      room = omega (arith, size, known.1);
    }
hands_after (action.Sleep secs) e w v n f k r i j =
    stay_same n e w.hands v.hands (ap (λ x. x.hands) f.2) (subst IsPlain (sym f.0) (refl, refl)) i j
hands_after (action.Signal signal) e w v n f k r i j =
    stay_same n e w.hands v.hands (ap (λ x. x.hands) f.1) (plain_signal e k) i j
hands_after (action.Send start size last) e w v n f k r i j =
    stay_same n e w.hands v.hands (ap (λ x. x.hands) f.1) (plain_send e k) i j
hands_after action.Upload e w v n f k r i j =
    stay n e w.hands v.hands (ap (λ x. x.run) f.0.hands) (ap (λ x. x.pending) f.0.hands) (plain_upload e k) i j
hands_after action.CleanUp e w v n f k r i j =
    let same = clean_run w.hands.run w.hands e w.runner v.runner v.hands f.0 in
    stay n e w.hands v.hands same.0 same.1 (plain_clean_up e k) i j
hands_after (action.Stop why tasks) e w v n f k r i j = absurd f
