-- Each turn keeps what stands between the two ends.
use Rattle.std.proofs.Common.{◌≡◌, ◌⊎◌, inl, inr, ℕ, ◌+◌, ◌<◌, ◌==◌, ◌&&◌, not, Bool, true, false, if◌then◌else◌, IsTrue, List, [], ◌∷◌, ◌++◌, length, take, Option, Some, None, IfSome, refl, ap, sym, ◌∙◌, subst, arith, eqb-true}
use Rattle.std.specs.Prelude.{slice_get, MatchOption}
use Rattle.std.specs.Option.{option_map_or}
use Rattle.std.proofs.lemmas.Bool.{and_parts}
use Rattle.std.proofs.lemmas.Option.{same_Some}
use Rattle.sha2.specs.Sha256.{sha256}
use Rattle.bot_worlds.specs.Types.{BotEvent, BotState, Phase, Chunk, Last, Entry, Reply, Request}
use Rattle.bot_core.specs.declared.bot_event.BotEvent.TheVariants as event
use Rattle.bot_core.specs.declared.bot_state.Phase.TheVariants as phase
use Rattle.bot_core.specs.Output.{HasBytes}
use Rattle.bot_core.specs.Table.{stepped, is_transient, phase_action}
use Rattle.bot_requests.specs.Bodies.{claim_name}
use Rattle.swarm_model.specs.declared.entry.EntryKind.TheVariants as kind
use Rattle.swarm_model.specs.declared.reply.Reply.TheVariants as reply
use Rattle.swarm_model.specs.declared.request.Request.TheVariants as ask
use Rattle.swarm_model.specs.Fits.{fits}
use Rattle.swarm_model.specs.History.{IsLegal}
use Rattle.pool_laws.proofs.Alike.{is_same}
use Rattle.pool_laws.proofs.Lists.{Among, among_either}
use Rattle.log_laws.specs.Runs.{HasEntry}
use Rattle.bot_worlds.specs.declared.child_run.ChildRun.{ChildRun}
use Rattle.bot_worlds.specs.declared.sent.Got.{Got}
use Rattle.bot_worlds.specs.declared.sent.Sent.{Sent}
use Rattle.bot_worlds.specs.declared.turn.ChildTurn.{ChildTurn}
use Rattle.bot_worlds.specs.declared.turn.ChildTurn.TheVariants as child
use Rattle.bot_worlds.specs.declared.turn.Turn.{Turn}
use Rattle.bot_worlds.specs.declared.turn.Turn.TheVariants as turn
use Rattle.bot_worlds.specs.Phases.{claims, is_over}
use Rattle.bot_worlds.specs.Pool.{carries, is_of_bot, may_ask, settings_of}
use Rattle.bot_worlds.specs.World.{WorldState, bare, chunk_of, fed, fed_world, report_of, request_of}
use Rattle.bot_worlds.specs.Turns.{AsksAsOther, AsksWhere, Delivers, IsSettledFrom, Turned, answered, asked_again, child_bytes, child_event, hear, is_present, reply_event, take_reply, told_by, told_run, with_reply}
use Rattle.bot_worlds.specs.Invariant.{log_of, HasNewest, HasReport, IsAsking, IsReport, IsReportedTo, IsRight, Stands}
use Rattle.bot_worlds.proofs.Walks.{is_run, is_sent, is_begin, Walks, step_walks}
use Rattle.bot_worlds.proofs.Repeating.{slept_again}
use Rattle.bot_worlds.proofs.Grown.{among_one, newest_longer, right_longer, run_longer, slice_among, slice_within, some_longer}
use Rattle.bot_worlds.proofs.Logs.{longer, old_report}
use Rattle.bot_worlds.proofs.Calls.{Called, called_by, no_update_due}
use Rattle.bot_worlds.proofs.Parts.{IsTold}
use Rattle.bot_worlds.proofs.Feeding.{again_kept, claim_phase, claims_on, fed_keeps, transient_kept, walk_claims}

-- ---- the pool takes a request

-- a reply that is got is an old one, or the one to this request
abbrev IsGotBy : WorldState → Request → Reply → Got → Type 0
IsGotBy old request answered g = Among g old.got ⊎ ((g.reply ≡ answered) × ((q : Sent) × (slice_get old.sent g.sent ≡ Some q) × (q.request ≡ request)))

taken_keeps : (old : WorldState) (request : Request) (log : List Entry) (answered : Reply) (got : List Got) → Stands old → Called (log_of old) request log answered →
    ((t n : ℕ) (chunk : Option Chunk) (last : Option Last) → request ≡ ask.Update old.name t n chunk last → (s : Sent) × Among s old.sent × (s.request ≡ request)) →
    ((g : Got) → Among g got → IsGotBy old request answered g) → Stands (record old { log = log; got = got })
taken_keeps old request log answered got s c is_sent new = record {
  base = s.base;
  legal = c.legal;
  stranger = s.stranger;
  bot = s.bot;
  limit = s.limit;
  bounds = s.bounds;
  numbered = s.numbered;
  newest = newest_longer (log_of old) log c.longer old.bot old.runs s.newest;
  runs = λ run a. run_longer (log_of old) log c.longer run (s.runs run a);
  asking = s.asking;
  sent = λ x a t n chunk last u. some_longer (log_of old) log c.longer (is_over old.bot.phase) old.runs t n chunk last (s.sent x a t n chunk last u);
  got = λ g a q h. by_got g q h (new g a);
  bounded = λ g a. by_bound g (new g a);
  log = λ t n chunk last h. by_log t n chunk last (c.own t n chunk last h);
}
  where
    by_got : (g : Got) (q : Sent) → slice_get old.sent g.sent ≡ Some q → IsGotBy old request answered g → IsRight (record (log_of old) { log = log }) q.request g.reply
    by_got g q h (inl a) = right_longer (log_of old) log c.longer q.request g.reply (s.got g a q h)
    by_got g q h (inr e) =
        (let k = e.1 in
        let same_sent : k.0 ≡ q = same_Some k.0 q (sym k.1 ∙ h) in
        let is : request ≡ q.request = sym k.2 ∙ ap (λ (x : Sent). x.request) same_sent in
        subst (λ (x : Request). IsRight (record (log_of old) { log = log }) x g.reply) is
        (subst (λ (x : Reply). IsRight (record (log_of old) { log = log }) request x) (sym e.0) c.right))

    by_bound : (g : Got) → IsGotBy old request answered g → g.sent < length old.sent
    by_bound g (inl a) = s.bounded g a
    by_bound g (inr e) = let k = e.1 in slice_within old.sent g.sent k.0 k.1

    by_log : (t n : ℕ) (chunk : Option Chunk) (last : Option Last) → HasReport (log_of old) t n chunk last ⊎ (request ≡ ask.Update old.name t n chunk last) → (x : Sent) × Among x old.sent × IsReport old t n chunk last x
    by_log t n chunk last (inl h) = s.log t n chunk last h
    by_log t n chunk last (inr e) = let k = is_sent t n chunk last e in (k.0, k.1, k.2 ∙ e)

-- where the pool is asked
asks_keep : (old : WorldState) (may : Bool) (who : List ℕ) (request : Request) (m : ℕ) (got : Reply → List Got) (new : WorldState) → Stands old → AsksWhere may old who request m got new →
    (may ≡ true → IsTrue (fits (settings_of old) request)) →
    (may ≡ true → (t n : ℕ) (chunk : Option Chunk) (last : Option Last) → request ≡ ask.Update old.name t n chunk last → (s : Sent) × Among s old.sent × (s.request ≡ request)) →
    ((answered : Reply) (g : Got) → Among g (got answered) → IsGotBy old request answered g) → Stands new
asks_keep old false who request m got new s a may is_sent each = subst Stands (sym a) s
asks_keep old true who request m got new s a may is_sent each =
    subst Stands (sym a.is)
    (taken_keeps old request new.log a.answered (got a.answered) s (called_by (log_of old) s.base s.stranger who m request (may refl) new.log a.answered a.called) (is_sent refl) (each a.answered))

delivered : (old : WorldState) (place m : ℕ) (new : WorldState) → Stands old → Delivers old place m new → Stands new
delivered old place m new s d = by_place (slice_get old.sent place) refl d
  where
    by_place : (x : Option Sent) → slice_get old.sent place ≡ x → MatchOption x (new ≡ old) (λ q. AsksWhere (may_ask old q.request q.bytes) old old.name q.request m (with_reply old place) new) → Stands new
    by_place None h d = subst Stands (sym d) s
    by_place (Some q) h d =
        asks_keep old (may_ask old q.request q.bytes) old.name q.request m (with_reply old place) new s d
        (λ may. (and_parts (fits (settings_of old) q.request) (carries q.request q.bytes) may).0)
        (λ may t n chunk last e. (q, slice_among old.sent place q h, refl))
        (λ answered g a. by_got answered g (among_either g old.got (record { sent = place; reply = answered } ∷ []) a))
      where
        by_got : (answered : Reply) (g : Got) → Among g old.got ⊎ Among g (record { sent = place; reply = answered } ∷ []) → IsGotBy old q.request answered g
        by_got answered g (inl a) = inl a
        by_got answered g (inr a) =
            (let is : g ≡ record { sent = place; reply = answered } = among_one g (record { sent = place; reply = answered }) a in
            inr (ap (λ (x : Got). x.reply) is, (q, ap (λ (x : Got). slice_get old.sent x.sent) is ∙ h, refl)))

-- a request of another caller is no report of the bot
other_asks : (old : WorldState) (who : List ℕ) (request : Request) (bytes : List ℕ) (m : ℕ) (new : WorldState) → Stands old → AsksAsOther old who request bytes m new → Stands new
other_asks old who request bytes m new s d =
    asks_keep old (may_ask old request bytes && not (is_of_bot old.name request)) who request m (λ answered. old.got) new s d
    (λ may. (and_parts (fits (settings_of old) request) (carries request bytes) (and_parts (may_ask old request bytes) (not (is_of_bot old.name request)) may).0).0)
    (λ may t n chunk last e. absurd (no_report t n chunk last e (and_parts (may_ask old request bytes) (not (is_of_bot old.name request)) may).1))
    (λ answered g a. inl a)
  where
    no_report : (t n : ℕ) (chunk : Option Chunk) (last : Option Last) → request ≡ ask.Update old.name t n chunk last → not (is_of_bot old.name request) ≡ true → ⊥
    no_report t n chunk last e h =
        (let own : is_of_bot old.name request ≡ true = ap (is_of_bot old.name) e ∙ is_same old.name old.name refl in
        let none : not true ≡ true = ap not (sym own) ∙ h in cc)

-- ---- an answer

abbrev IsPlain : BotEvent → Type 0
IsPlain e = (is_begin e ≡ false) × HasBytes e []

reply_plain : (r : Reply) → IfSome (reply_event r) IsPlain
reply_plain (reply.Shaken bot) = (refl, tt)
reply_plain (reply.Sleep secs) = (refl, tt)
reply_plain reply.ClaimHint = (refl, tt)
reply_plain reply.Terminate = (refl, tt)
reply_plain (reply.Run t n slice tolerance p) = (refl, tt)
reply_plain reply.Skip = (refl, tt)
reply_plain (reply.Updated must_stop) = (refl, tt)
reply_plain (reply.No why) = (refl, tt)
reply_plain other = tt

event_plain : (r : Reply) (e : BotEvent) → reply_event r ≡ Some e → IsPlain e
event_plain r e h = subst (λ (o : Option BotEvent). IfSome o IsPlain) h (reply_plain r)

-- the reply is one to the present request
module _ (old : WorldState) (s : Stands old) (g : Got) (there : Among g old.got) (present : old.asking ≡ Some g.sent) where
  asked : IsAsking old g.sent
  asked = subst (λ (x : Option ℕ). IfSome x (IsAsking old)) present s.asking

  abbrev q : Sent
  q = asked.0

  told : told_by old g ≡ told_run q.request g.reply
  told = ap (λ (x : Option Sent). option_map_or (λ (y : Sent). told_run y.request g.reply) x None) asked.1

  right : IsRight (log_of old) q.request g.reply
  right = s.got g there q asked.1

  -- the request of a claim that is answered with a run
  claim_request : claims old.bot.phase ≡ true → q.request ≡ ask.Claim old.name (claim_name old.bot.first old.bot.session old.bot.claim)
  claim_request c =
      let z : request_of old.name old.dims old.runs old.pending (phase_action old.bot old.bot.phase) ≡ Some (bare (ask.Claim old.name (claim_name old.bot.first old.bot.session old.bot.claim))) =
      ap (request_of old.name old.dims old.runs old.pending) (claim_phase old.bot old.bot.phase c) in
      ap (λ (x : Sent). x.request) (same_Some _ _ (sym asked.2 ∙ z))

  told_is : (e : BotEvent) (r : Reply) → r ≡ g.reply → reply_event r ≡ Some e → is_run e ≡ true → claims old.bot.phase ≡ true → IsTold (log_of old) old.bot (told_run q.request r)
  told_is e (reply.Run t n slice tolerance p) k h a c =
      let id : List ℕ = claim_name old.bot.first old.bot.session old.bot.claim in
      let is : q.request ≡ ask.Claim old.name id = claim_request c in
      let b = s.bounds (claims_on old.bot.phase c) in
      record {
        run = record { claim = id; task = t; try_no = n; started = 0; wrote = [] };
        is = ap (λ (x : Request). told_run x (reply.Run t n slice tolerance p)) is;
        named = refl;
        unstarted = refl;
        empty = refl;
        stands = record { claimed = right.run id t n slice tolerance p is (sym k); once = omega arith; idle = λ _. refl };
        small_session = let x = b.session in let y = b.steps in let l = s.limit in omega (arith, x, y, l);
        small_claim = let x = b.claim in let y = b.steps in let l = s.limit in omega (arith, x, y, l);
      }
  told_is e (reply.Shaken bot) k h a c = absurd (let z : event.HandshakeOk ≡ e = same_Some _ _ h in let y = ap is_run z in cc)
  told_is e (reply.Sleep secs) k h a c = absurd (let z : event.PollSleep secs ≡ e = same_Some _ _ h in let y = ap is_run z in cc)
  told_is e reply.ClaimHint k h a c = absurd (let z : event.PollClaim ≡ e = same_Some _ _ h in let y = ap is_run z in cc)
  told_is e reply.Terminate k h a c = absurd (let z : event.PollTerminate ≡ e = same_Some _ _ h in let y = ap is_run z in cc)
  told_is e reply.Skip k h a c = absurd (let z : event.ClaimSkip ≡ e = same_Some _ _ h in let y = ap is_run z in cc)
  told_is e (reply.Updated must_stop) k h a c = absurd (let z : event.SendOk must_stop ≡ e = same_Some _ _ h in let y = ap is_run z in cc)
  told_is e (reply.No why) k h a c = absurd (let z = ap (λ (x : Option BotEvent). option_map_or is_run x false) h in cc)
  told_is e r k h a c = absurd (cc (h))

  -- an update that is taken was of all that waited
  reported_is : (e : BotEvent) → reply_event g.reply ≡ Some e → is_sent e ≡ true → old.bot.phase ≡ phase.Send → (run : ChildRun) (rest : List ChildRun) → old.runs ≡ run ∷ rest →
      IsReportedTo (log_of old) run.task run.try_no (old.bot.run.sent + old.bot.run.pending)
  reported_is e h a at run rest is = by_reply e g.reply refl h a
    where
      is_update : q.request ≡ ask.Update old.name run.task run.try_no (chunk_of old.bot.run.sent old.bot.run.pending old.pending) None
      is_update =
          (let x : request_of old.name old.dims old.runs old.pending (phase_action old.bot old.bot.phase) ≡ request_of old.name old.dims old.runs old.pending (phase_action old.bot phase.Send) =
          ap (λ (z : Phase). request_of old.name old.dims old.runs old.pending (phase_action old.bot z)) at in
          let y : request_of old.name old.dims old.runs old.pending (phase_action old.bot phase.Send) ≡ Some (report_of old.name old.bot.run.sent old.bot.run.pending None old.pending run) =
          ap (λ (rs : List ChildRun). request_of old.name old.dims rs old.pending (phase_action old.bot phase.Send)) is in
          ap (λ (z : Sent). z.request) (same_Some _ _ (sym asked.2 ∙ x ∙ y)))

      by_size : (k : Bool) → g.reply ≡ reply.Updated k → (b : Bool) → (old.bot.run.pending == 0) ≡ b → IsReportedTo (log_of old) run.task run.try_no (old.bot.run.sent + old.bot.run.pending)
      by_size k u true z =
          (let none : old.bot.run.pending ≡ 0 = eqb-true old.bot.run.pending 0 z in
          let n : HasNewest (log_of old) old.bot (run ∷ rest) = subst (λ (rs : List ChildRun). HasNewest (log_of old) old.bot rs) is s.newest in
          subst (λ x. IsReportedTo (log_of old) run.task run.try_no x) (omega (arith, none)) n.sent)
      by_size k u false z =
          (let c : Chunk = record { start = old.bot.run.sent; size = old.bot.run.pending; digest = sha256 (take old.bot.run.pending old.pending) } in
          let as_chunk : chunk_of old.bot.run.sent old.bot.run.pending old.pending ≡ Some c = rw z refl in
          let y = right.taken run.task run.try_no c k (is_update ∙ ap (λ (x : Option Chunk). ask.Update old.name run.task run.try_no x None) as_chunk) u in
          inr (c, y.0, y.1, refl))

      by_reply : (e : BotEvent) (r : Reply) → g.reply ≡ r → reply_event r ≡ Some e → is_sent e ≡ true → IsReportedTo (log_of old) run.task run.try_no (old.bot.run.sent + old.bot.run.pending)
      by_reply e (reply.Updated k) u h a = by_size k u (old.bot.run.pending == 0) refl
      by_reply e (reply.Shaken bot) u h a = absurd (let z : event.HandshakeOk ≡ e = same_Some _ _ h in let y = ap is_sent z in cc)
      by_reply e (reply.Sleep secs) u h a = absurd (let z : event.PollSleep secs ≡ e = same_Some _ _ h in let y = ap is_sent z in cc)
      by_reply e reply.ClaimHint u h a = absurd (let z : event.PollClaim ≡ e = same_Some _ _ h in let y = ap is_sent z in cc)
      by_reply e reply.Terminate u h a = absurd (let z : event.PollTerminate ≡ e = same_Some _ _ h in let y = ap is_sent z in cc)
      by_reply e (reply.Run t n slice tolerance p) u h a = absurd (let z = ap (λ (x : Option BotEvent). option_map_or is_sent x false) h in cc)
      by_reply e reply.Skip u h a = absurd (let z : event.ClaimSkip ≡ e = same_Some _ _ h in let y = ap is_sent z in cc)
      by_reply e (reply.No why) u h a = absurd (let z = ap (λ (x : Option BotEvent). option_map_or is_sent x false) h in cc)
      by_reply e r u h a = absurd (cc (h))

  -- the bot takes it
  heard : (e : BotEvent) (m : ℕ) → reply_event g.reply ≡ Some e → Stands (hear old m g e)
  heard e m h = by_step (stepped old.bot e m) refl
    where
      by_step : (o : Option BotState) → stepped old.bot e m ≡ o → Stands (option_map_or (fed_world old e [] (told_by old g) (asked_again e old.asking)) o old)
      by_step None is = s
      by_step (Some t) is =
          (let k = event_plain g.reply e h in
          let walk : Walks old.bot old.bot.phase e t = step_walks old.bot e m t k.0 is in
          fed_keeps old e m [] (told_by old g) (asked_again e old.asking) t s k.0 is k.1
          (λ a. subst (IsTold (log_of old) old.bot) (sym told)
          (told_is e g.reply refl h a (walk_claims old.bot old.bot.phase e (t.first, t.session, t.limits.steps) t.claim t.run.sent t.phase walk a)))
          (λ a p run rest is. reported_is e h a p run rest is)
          (transient_kept old t e m (told_by old g) (is_transient e) refl is s.asking))

answered_keeps : (old : WorldState) (place m : ℕ) → Stands old → Stands (answered old place m)
answered_keeps old place m s = by_got (slice_get old.got place) refl
  where
    by_present : (g : Got) → Among g old.got → (a : Option ℕ) → old.asking ≡ a → is_present a g.sent ≡ true → Stands (option_map_or (hear old m g) (reply_event g.reply) old)
    by_present g among None is h = absurd (cc (h))
    by_present g among (Some x) is h =
        by_event (reply_event g.reply) refl
      where
        by_event : (o : Option BotEvent) → reply_event g.reply ≡ o → Stands (option_map_or (hear old m g) o old)
        by_event None k = s
        by_event (Some e) k = heard old s g among (is ∙ ap (λ (n : ℕ). Some n) (eqb-true x g.sent h)) e m k

    by_test : (g : Got) → Among g old.got → (b : Bool) → is_present old.asking g.sent ≡ b → Stands (if b then option_map_or (hear old m g) (reply_event g.reply) old else old)
    by_test g among true h = by_present g among old.asking refl h
    by_test g among false h = s

    by_got : (o : Option Got) → slice_get old.got place ≡ o → Stands (option_map_or (take_reply old m) o old)
    by_got None h = s
    by_got (Some g) h = by_test g (slice_among old.got place g h) (is_present old.asking g.sent) refl

-- ---- the other turns of the bot

fed_where : (old : WorldState) (e : BotEvent) (m : ℕ) (bytes : List ℕ) (again : Option ℕ) → Stands old → ((t : BotState) → stepped old.bot e m ≡ Some t → Stands (fed_world old e bytes None again t)) → Stands (fed old e m bytes None again)
fed_where old e m bytes again s keeps = by_step (stepped old.bot e m) refl
  where
    by_step : (o : Option BotState) → stepped old.bot e m ≡ o → Stands (option_map_or (fed_world old e bytes None again) o old)
    by_step None is = s
    by_step (Some t) is = keeps t is

lost_keeps : (old : WorldState) (m : ℕ) → Stands old → Stands (fed old event.Lost m [] None old.asking)
lost_keeps old m s =
    fed_where old event.Lost m [] old.asking s
    (λ t is. fed_keeps old event.Lost m [] None old.asking t s refl is tt (λ h. absurd (cc)) (λ h p run rest k. absurd (cc)) (transient_kept old t event.Lost m None true refl is s.asking))

woken_keeps : (old : WorldState) (m : ℕ) → Stands old → Stands (fed old event.Slept m [] None old.asking)
woken_keeps old m s =
    fed_where old event.Slept m [] old.asking s
    (λ t is. fed_keeps old event.Slept m [] None old.asking t s refl is tt (λ h. absurd (cc)) (λ h p run rest k. absurd (cc))
    (again_kept old t event.Slept None old.asking s.asking (λ place h. slept_again old.bot m t is) refl refl))

child_plain : (c : ChildTurn) → (is_begin (child_event c) ≡ false) × (is_run (child_event c) ≡ false) × (is_sent (child_event c) ≡ false) × HasBytes (child_event c) (child_bytes c)
child_plain (child.Output bytes) = (refl, refl, refl, refl)
child_plain (child.Ended code) = (refl, refl, refl, tt)
child_plain c = (refl, refl, refl, tt)

child_keeps : (old : WorldState) (c : ChildTurn) (m : ℕ) → Stands old → Stands (fed old (child_event c) m (child_bytes c) None None)
child_keeps old c m s =
    let k = child_plain c in
    fed_where old (child_event c) m (child_bytes c) None s
    (λ t is. fed_keeps old (child_event c) m (child_bytes c) None None t s k.0 is k.3 (λ h. absurd (let z = k.1 in cc)) (λ h p run rest i. absurd (let z = k.2 in cc)) tt)

-- ---- all turns

pub turned_stands : (old : WorldState) (t : Turn) (new : WorldState) → Stands old → Turned old t new → Stands new
turned_stands old (turn.Deliver place m) new s d = delivered old place m new s d
turned_stands old (turn.Answer place m) new s d = subst Stands (sym d) (answered_keeps old place m s)
turned_stands old (turn.Lose m) new s d = subst Stands (sym d) (lost_keeps old m s)
turned_stands old (turn.Wake m) new s d = subst Stands (sym d) (woken_keeps old m s)
turned_stands old (turn.Child c m) new s d = subst Stands (sym d) (child_keeps old c m s)
turned_stands old (turn.Other who request bytes m) new s d = other_asks old who request bytes m new s d

-- deadlines that are settled keep it, too
pub settled_stands : (old new : WorldState) → Stands old → IsSettledFrom old new → Stands new
settled_stands old new s d =
    subst Stands (sym d.is)
    (subst (λ (xs : List Entry). Stands (record old { log = xs })) (sym d.settles.log)
    (let legal : IsLegal old.start.rows (old.log ++ d.settles.settled) = subst (IsLegal old.start.rows) d.settles.log d.settles.legal in
    let more = longer (log_of old) d.settles.settled s.base.sound legal.caused in
    record {
      base = s.base;
      legal = legal;
      stranger = s.stranger;
      bot = s.bot;
      limit = s.limit;
      bounds = s.bounds;
      numbered = s.numbered;
      newest = newest_longer (log_of old) (old.log ++ d.settles.settled) more old.bot old.runs s.newest;
      runs = λ run a. run_longer (log_of old) (old.log ++ d.settles.settled) more run (s.runs run a);
      asking = s.asking;
      sent = λ x a t n chunk last u. some_longer (log_of old) (old.log ++ d.settles.settled) more (is_over old.bot.phase) old.runs t n chunk last (s.sent x a t n chunk last u);
      got = λ g a q h. right_longer (log_of old) (old.log ++ d.settles.settled) more q.request g.reply (s.got g a q h);
      bounded = s.bounded;
      log = λ t n chunk last h. by_log t n chunk last legal h (old_report (log_of old) d.settles.settled s.base.sound legal.caused t n chunk last h);
    }))
  where
    by_log : (t n : ℕ) (chunk : Option Chunk) (last : Option Last) (legal : IsLegal old.start.rows (old.log ++ d.settles.settled)) (h : HasReport (record (log_of old) { log = old.log ++ d.settles.settled }) t n chunk last) →
        HasReport (log_of old) t n chunk last ⊎ HasEntry d.settles.settled (kind.Update h.b t n chunk last) → (x : Sent) × Among x old.sent × IsReport old t n chunk last x
    by_log t n chunk last legal h (inl k) = s.log t n chunk last k
    by_log t n chunk last legal h (inr k) = absurd (no_update_due d.settles.settled d.settles.deadlines h.b t n chunk last k)
