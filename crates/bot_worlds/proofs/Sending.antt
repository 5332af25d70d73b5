-- A request that is sent anew.
use Rattle.std.proofs.Common.{◌≡◌, ◌⊎◌, inl, inr, ℕ, ◌+◌, ◌≤◌, ◌==◌, Bool, true, false, if◌then◌else◌, List, [], ◌∷◌, length, take, drop, Option, Some, None, IfSome, refl, ap, ◌∙◌, subst, arith, eqb-true}
use Rattle.std.specs.Prelude.{slice_get}
use Rattle.std.specs.Option.{option_map}
use Rattle.sha2.specs.Sha256.{sha256}
use Rattle.bot_worlds.specs.Types.{BotDims, Action, End, BotState, Phase, Awaited, Begin, Answer, Slept, Chunk, Last}
use Rattle.bot_core.specs.declared.action.Action.TheVariants as action
use Rattle.bot_core.specs.declared.bot_state.Phase.TheVariants as phase
use Rattle.bot_core.specs.Output.{CarriesOutput}
use Rattle.bot_core.specs.Table.{is_stop, phase_action, awaited_action, action_of}
use Rattle.bot_core.proofs.OutputLemmas.{all_carry}
use Rattle.bot_requests.specs.Bodies.{session_name, claim_name}
use Rattle.swarm_model.specs.declared.request.Request.TheVariants as ask
use Rattle.bot_worlds.specs.declared.child_run.ChildRun.{ChildRun}
use Rattle.bot_worlds.specs.declared.sent.Sent.{Sent}
use Rattle.bot_worlds.specs.Phases.{is_over}
use Rattle.bot_worlds.specs.World.{chunk_of, last_of, report_of, request_of, sent_after, kept_asleep, asking_after}
use Rattle.bot_worlds.specs.Invariant.{BotLog, IsPiece, IsReportedTo, Reaches, CarriesNewest, CarriesSome, IsNewest, HasNewest, wrote_of, IsBot}
use Rattle.bot_worlds.proofs.Requests.{phase_request}
use Rattle.bot_worlds.proofs.Grown.{slice_last}

-- ---- reports

record IsSend (s : BotState) (p : Phase) (start : ℕ) (last : Option End) : Type 0 where
  sent : s.run.sent ≡ start
  closed : IfSome last (λ end. is_over p ≡ true)

phase_sends : (s : BotState) (p : Phase) (start size : ℕ) (last : Option End) → phase_action s p ≡ action.Send start size last → IsSend s p start last
phase_sends s phase.Send start size None h = record { sent = cc; closed = tt }
phase_sends s phase.Send start size (Some end) h = absurd (cc)
phase_sends s phase.LastSend start size None h = absurd (cc)
phase_sends s phase.LastSend start size (Some end) h = record { sent = cc; closed = refl }
phase_sends s (phase.Signal signal) start size last h = absurd (cc)
phase_sends s (phase.Stop why) start size last h = absurd (cc)
phase_sends s p start size last h = absurd (cc)

action_sends : (s : BotState) (a : Awaited) (start size : ℕ) (last : Option End) → awaited_action s a ≡ action.Send start size last → IsSend s s.phase start last
action_sends s (Slept secs) start size last h = absurd (cc)
action_sends s Begin start size last h = phase_sends s s.phase start size last h
action_sends s Answer start size last h = phase_sends s s.phase start size last h

module _ (lg : BotLog) (dims : BotDims) (s : BotState) (pending : List ℕ) where
  -- the chunk is what was written at its start
  chunk_is_piece : (wrote : List ℕ) (start size : ℕ) (b : Bool) → (size == 0) ≡ b → take size pending ≡ take size (drop start wrote) → start + size ≤ length wrote →
      IfSome (if b then None else Some (record { start = start; size = size; digest = sha256 (take size pending) })) (IsPiece wrote)
  chunk_is_piece wrote start size true z bytes within = tt
  chunk_is_piece wrote start size false z bytes within = record { within = within; digest = ap (λ (x : List ℕ). sha256 x) bytes }

  chunk_reaches : (k j start size end : ℕ) (b : Bool) → (size == 0) ≡ b → IsReportedTo lg k j start → start + size ≡ end →
      Reaches lg k j end (if b then None else Some (record { start = start; size = size; digest = sha256 (take size pending) }))
  chunk_reaches k j start size end true z r h = let none : size ≡ 0 = eqb-true size 0 z in subst (λ n. IsReportedTo lg k j n) (omega (arith, none, h)) r
  chunk_reaches k j start size end false z r h = h

  whole_is : (k j start size : ℕ) (wrote : List ℕ) (last : Option End) → IsReportedTo lg k j start → IfSome last (λ end. end.dropped ≡ 0 → start + size ≡ length wrote) →
      IfSome (option_map last_of last) (λ report. report.dropped ≡ 0 → Reaches lg k j (length wrote) (chunk_of start size pending))
  whole_is k j start size wrote None r h = tt
  whole_is k j start size wrote (Some end) r h = λ z. chunk_reaches k j start size (length wrote) (size == 0) refl r (h z)

  closed_is : (last : Option End) → IfSome last (λ end. is_over s.phase ≡ true) → IfSome (option_map last_of last) (λ report. is_over s.phase ≡ true)
  closed_is None h = tt
  closed_is (Some end) h = h

  carries_newest : (run : ChildRun) (start size : ℕ) (last : Option End) → IsSend s s.phase start last → CarriesOutput (record { bot = s; waiting = pending; wrote = run.wrote }) start size last → IsNewest lg s run →
      CarriesNewest lg (is_over s.phase) run run.task run.try_no (chunk_of start size pending) (option_map last_of last)
  carries_newest run start size last is c h = record {
    task = refl;
    try_is = refl;
    carries = record {
      piece = chunk_is_piece run.wrote start size (size == 0) refl c.bytes c.within;
      whole = whole_is run.task run.try_no start size run.wrote last (subst (λ n. IsReportedTo lg run.task run.try_no n) is.sent h.sent) c.whole;
    };
    closed = closed_is last is.closed;
  }

  by_report : (run : ChildRun) (rest : List ChildRun) (start size : ℕ) (end : Option End) (k n : ℕ) (chunk : Option Chunk) (last : Option Last) →
      (report_of lg.name start size end pending run).request ≡ ask.Update lg.name k n chunk last →
      CarriesNewest lg (is_over s.phase) run run.task run.try_no (chunk_of start size pending) (option_map last_of end) →
      CarriesSome lg (is_over s.phase) (run ∷ rest) k n chunk last
  by_report run rest start size end k n chunk last h c =
      let e1 : run.task ≡ k = cc (h) in
      let e2 : run.try_no ≡ n = cc (h) in
      let e3 : chunk_of start size pending ≡ chunk = cc (h) in
      let e4 : option_map last_of end ≡ last = cc (h) in
      inl (subst (λ x. CarriesNewest lg (is_over s.phase) run x n chunk last) e1
      (subst (λ x. CarriesNewest lg (is_over s.phase) run run.task x chunk last) e2
      (subst (λ (x : Option Chunk). CarriesNewest lg (is_over s.phase) run run.task run.try_no x last) e3
      (subst (λ (x : Option Last). CarriesNewest lg (is_over s.phase) run run.task run.try_no (chunk_of start size pending) x) e4 c))))

  -- a report that is sent anew carries what was written
  pub report_carries : (runs : List ChildRun) (q : Sent) (k n : ℕ) (chunk : Option Chunk) (last : Option Last) → IsBot s pending (wrote_of runs) → HasNewest lg s runs →
      request_of lg.name dims runs pending (action_of s) ≡ Some q → q.request ≡ ask.Update lg.name k n chunk last → CarriesSome lg (is_over s.phase) runs k n chunk last
  report_carries runs q k n chunk last b h is u = by_action (action_of s) refl runs b h is
    where
      by_action : (a : Action) → action_of s ≡ a → (rs : List ChildRun) → IsBot s pending (wrote_of rs) → HasNewest lg s rs →
          request_of lg.name dims rs pending a ≡ Some q → CarriesSome lg (is_over s.phase) rs k n chunk last
      by_action (action.Send start size end) is [] b h e = absurd (cc)
      by_action (action.Send start size end) is (run ∷ rest) b h e =
          (let same : report_of lg.name start size end pending run ≡ q = cc (e) in
          by_report run rest start size end k n chunk last (ap (λ (x : Sent). x.request) same ∙ u)
          (carries_newest run start size end (action_sends s s.awaited start size end is)
          (all_carry b.limits b.events (record { bot = s; waiting = pending; wrote = run.wrote }) b.steps start size end is) h))
      by_action (action.Handshake first session) is rs b h e = absurd (let same : ask.Handshake lg.name (session_name first session) dims [] ≡ q.request = cc (e) in cc)
      by_action action.Poll is rs b h e = absurd (let same : ask.Poll lg.name dims [] ≡ q.request = cc (e) in cc)
      by_action (action.Claim first session claim) is rs b h e = absurd (let same : ask.Claim lg.name (claim_name first session claim) ≡ q.request = cc (e) in cc)
      by_action (action.Look room) is rs b h e = absurd (cc)
      by_action (action.Sleep secs) is rs b h e = absurd (cc)
      by_action (action.Signal signal) is rs b h e = absurd (cc)
      by_action (action.Stop why tasks) is rs b h e = absurd (cc)
      by_action a is rs b h e = absurd (cc)

-- ---- the place of the present request

stop_asks_nothing : (s : BotState) (name : List ℕ) (dims : BotDims) (runs : List ChildRun) (pending : List ℕ) (p : Phase) → is_stop p ≡ true → request_of name dims runs pending (phase_action s p) ≡ None
stop_asks_nothing s name dims runs pending (phase.Stop why) h = refl
stop_asks_nothing s name dims runs pending p h = absurd (cc)

-- a request at a place, which is that of the phase; or the bot has stopped
abbrev pub IsAt : BotState → List ℕ → BotDims → List ChildRun → List ℕ → List Sent → ℕ → Type 0
IsAt t name dims runs pending sent at =
    ((q : Sent) × (slice_get sent at ≡ Some q) × (request_of name dims runs pending (phase_action t t.phase) ≡ Some q)) ⊎ ((t.awaited ≡ Answer) × (is_stop t.phase ≡ true))

pub asks_after : (t : BotState) (name : List ℕ) (dims : BotDims) (runs : List ChildRun) (pending : List ℕ) (sent : List Sent) (again : Option ℕ) → IfSome again (IsAt t name dims runs pending sent) →
    IfSome (asking_after (request_of name dims runs pending (action_of t)) t.awaited again sent)
    (λ at. (q : Sent) × (slice_get (sent_after (request_of name dims runs pending (action_of t)) again sent) at ≡ Some q) × (request_of name dims runs pending (phase_action t t.phase) ≡ Some q))
asks_after t name dims runs pending sent again h = by_ask (request_of name dims runs pending (action_of t)) refl again h
  where
    P : Option Sent → Option ℕ → ℕ → Type 0
    P o again at = (q : Sent) × (slice_get (sent_after o again sent) at ≡ Some q) × (request_of name dims runs pending (phase_action t t.phase) ≡ Some q)

    by_asleep : (a : Awaited) → t.awaited ≡ a → (at : ℕ) → IsAt t name dims runs pending sent at → IfSome (kept_asleep a (Some at)) (P None (Some at))
    by_asleep (Slept secs) is at (inl h) = h
    by_asleep (Slept secs) is at (inr h) = absurd (let k = h.0 in cc)
    by_asleep Begin is at h = tt
    by_asleep Answer is at h = tt

    by_none : (a : Awaited) → IfSome (kept_asleep a None) (P None None)
    by_none (Slept secs) = tt
    by_none Begin = tt
    by_none Answer = tt

    by_ask : (o : Option Sent) → request_of name dims runs pending (action_of t) ≡ o → (again : Option ℕ) → IfSome again (IsAt t name dims runs pending sent) → IfSome (asking_after o t.awaited again sent) (P o again)
    by_ask None is None h = by_none t.awaited
    by_ask None is (Some at) h = by_asleep t.awaited refl at h
    by_ask (Some q) is None h = (q, slice_last sent q, phase_request t name dims runs pending q t.awaited t.phase is)
    by_ask (Some q) is (Some at) (inl h) = h
    by_ask (Some q) is (Some at) (inr h) =
        absurd (let k : request_of name dims runs pending (phase_action t t.phase) ≡ Some q = phase_request t name dims runs pending q t.awaited t.phase is in
        let z : request_of name dims runs pending (phase_action t t.phase) ≡ None = stop_asks_nothing t name dims runs pending t.phase h.1 in cc)
