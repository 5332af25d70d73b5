-- What stands in a log once a call is answered.
use Rattle.std.proofs.Common.{◌≡◌, ◌⊎◌, inl, inr, ℕ, List, [], ◌∷◌, ◌++◌, Bool, true, false, Option, Some, None, option_to_list, IsTrue, refl, ap, sym, ◌∙◌, subst, arith, append_assoc}
use Rattle.std.specs.Bool.{MatchBool}
use Rattle.std.specs.List.{AllByRecursion, Contains}
use Rattle.std.proofs.lemmas.List.Elements.{All-contains, All-from_recursion, Contains-append_cases}
use Rattle.log_laws.specs.Types.{Properties, Attempt, Chunk, Last, PoolState, Entry, EntryKind, Request, Reply}
use Rattle.swarm_model.specs.declared.pool_settings.PoolSettings.{PoolSettings}
use Rattle.swarm_model.specs.declared.entry.EntryKind.TheVariants as kind
use Rattle.swarm_model.specs.declared.request.Request.TheVariants as ask
use Rattle.swarm_model.specs.declared.reply.Reply.TheVariants as reply
use Rattle.swarm_model.specs.Answers.{answer}
use Rattle.swarm_model.specs.BaseRules.{AreBaseRows}
use Rattle.swarm_model.specs.Bases.{front}
use Rattle.swarm_model.specs.Entries.{is_deadline}
use Rattle.swarm_model.specs.Finding.{bot_of, bot_named}
use Rattle.swarm_model.specs.Fits.{fits}
use Rattle.swarm_model.specs.History.{replay, IsCaused, moment_of}
use Rattle.swarm_model.specs.Points.{added, is_ahead, IsSettled, IsFrontAhead, IsServed, taken_by}
use Rattle.swarm_model.specs.Soundness.{IsSound}
use Rattle.pool_laws.proofs.Finals.{replay_parts, caused_first, caused_rest}
use Rattle.pool_laws.proofs.Sound.{sound_replay, settings_stay}
use Rattle.log_laws.specs.Calls.{TellsCall, CallsAreTold, StopsAddNoUpdate}
use Rattle.log_laws.specs.Names.{name_of}
use Rattle.log_laws.specs.Replies.{Adds, IsReportBy, HasRun, IsToldRun, IsTakenChunk, with_chunk}
use Rattle.log_laws.specs.Runs.{HasEntry, TellsRun}
use Rattle.log_laws.proofs.Entries.{has_left, has_right, has_last, has_cases}
use Rattle.log_laws.proofs.NameLaw.{names_last, name_found, new_names}
use Rattle.log_laws.proofs.RunLaw.{attempts_told}
use Rattle.log_laws.proofs.Telling.{updates_asked, runs_told, chunks_taken}

no_entry : (k : EntryKind) → HasEntry [] k → ⊥
no_entry k h = let low = h.among.1 in omega (arith, low)

-- a log of one entry has its kind alone
only : (e : Entry) (k : EntryKind) → HasEntry (e ∷ []) k → e.kind ≡ k
only e k h = by_case (has_cases [] e k h)
  where
    by_case : HasEntry [] k ⊎ (e.kind ≡ k) → e.kind ≡ k
    by_case (inl x) = absurd (no_entry k x)
    by_case (inr x) = x

-- the entry of an answer stands at the log's end
adds_has : (own : Option Entry) (k : EntryKind) → Adds own k → HasEntry (option_to_list own) k
adds_has None k h = absurd h
adds_has (Some e) k h = has_last [] e k h

-- what was due is no update
settled_none : (pass moment : ℕ) (settled : List Entry) (b t n : ℕ) (chunk : Option Chunk) (last : Option Last) → AllByRecursion (IsSettled pass moment) settled → HasEntry settled (kind.Update b t n chunk last) → ⊥
settled_none pass moment settled b t n chunk last due h =
    let is = All-contains (IsSettled pass moment) settled h.entry (All-from_recursion (IsSettled pass moment) settled due) h.among in
    let d : is_deadline h.entry.kind ≡ true = is.0 in
    let f : is_deadline h.entry.kind ≡ false = ap is_deadline h.is in
    cc (d, f)

-- an update that a call adds is its own entry
own_left : (settled more : List Entry) (pass moment : ℕ) (b t n : ℕ) (chunk : Option Chunk) (last : Option Last) → AllByRecursion (IsSettled pass moment) settled → HasEntry (settled ++ more) (kind.Update b t n chunk last) →
    HasEntry more (kind.Update b t n chunk last)
own_left settled more pass moment b t n chunk last due h = by_part (Contains-append_cases settled more h.entry h.among)
  where
    by_part : Contains settled h.entry ⊎ Contains more h.entry → HasEntry more (kind.Update b t n chunk last)
    by_part (inl c) = absurd (settled_none pass moment settled b t n chunk last due (record { entry = h.entry; among = c; is = h.is }))
    by_part (inr c) = record { entry = h.entry; among = c; is = h.is }

-- a request is answered at the end of a log
module _ (base : PoolState) (mid : List Entry) (o : IsSound base) (rows : AreBaseRows base) (who : List ℕ) (moment pass : ℕ) (request : Request) (own : Option Entry) (answered : Reply)
    (c : IsCaused base (mid ++ option_to_list own)) (may : IsTrue (fits base.settings request))
    (replied : (answer (replay base mid) who moment pass request).reply ≡ answered) (gives : (answer (replay base mid) who moment pass request).entry ≡ own) where
  abbrev s : PoolState
  s = replay base mid

  caused : IsCaused base mid
  caused = caused_first base mid (option_to_list own) c

  sound : IsSound (replay base mid)
  sound = sound_replay base mid o caused

  fitting : IsTrue (fits s.settings request)
  fitting = subst (λ (p : PoolSettings). IsTrue (fits p request)) (sym (settings_stay base mid)) may

  -- names stay
  name_now : (b : ℕ) (name : List ℕ) → name_of s b ≡ Some name → name_of (replay base (mid ++ option_to_list own)) b ≡ Some name
  name_now b name h =
      subst (λ (z : PoolState). name_of z b ≡ Some name) (sym (replay_parts base mid (option_to_list own)))
      (names_last s (option_to_list own) b name sound (caused_rest base mid (option_to_list own) c) h)

  -- what the law on runs says of one of a bot whose name the base has not
  run_known : (name : List ℕ) (b t n : ℕ) (run : Attempt) → bot_named base name ≡ None → name_of s b ≡ Some name → HasRun s b t n run → TellsRun mid t run
  run_known name b t n run unknown h r =
      let new : bot_of base b ≡ None = new_names base mid b name o caused unknown h in
      subst (λ (z : ℕ). TellsRun mid z run) r.number (attempts_told base mid r.task run o rows caused r.among (inl r.attempt) (subst (λ (z : ℕ). bot_of base z ≡ None) (sym r.by) new))

  pub own_told : (b t n : ℕ) (chunk : Option Chunk) (last : Option Last) → HasEntry (option_to_list own) (kind.Update b t n chunk last) →
      (name : List ℕ) × (request ≡ ask.Update name t n chunk last) × (name_of (replay base (mid ++ option_to_list own)) b ≡ Some name)
  own_told b t n chunk last h = by_own own refl h
    where
      by_report : IsReportBy s request b t n chunk last → (name : List ℕ) × (request ≡ ask.Update name t n chunk last) × (name_of (replay base (mid ++ option_to_list own)) b ≡ Some name)
      by_report f = (f.bot.name, f.asked, name_now b f.bot.name (subst (λ (z : ℕ). name_of s z ≡ Some f.bot.name) f.number (name_found s f.bot.name f.bot sound f.named)))

      by_own : (r : Option Entry) → own ≡ r → HasEntry (option_to_list r) (kind.Update b t n chunk last) → (name : List ℕ) × (request ≡ ask.Update name t n chunk last) × (name_of (replay base (mid ++ option_to_list own)) b ≡ Some name)
      by_own None e g = absurd (no_entry (kind.Update b t n chunk last) g)
      by_own (Some y) e g = by_report (updates_asked s who moment pass request y b t n chunk last fitting (gives ∙ e) (only y (kind.Update b t n chunk last) g))

  pub run_told : (name id : List ℕ) (t n slice tolerance : ℕ) (properties : Properties) → bot_named base name ≡ None → request ≡ ask.Claim name id → answered ≡ reply.Run t n slice tolerance properties →
      (b : ℕ) × (name_of (replay base (mid ++ option_to_list own)) b ≡ Some name) × HasEntry (mid ++ option_to_list own) (kind.Claim b t id)
  run_told name id t n slice tolerance properties unknown asked is =
      by_told (runs_told s who name id moment pass t n slice tolerance properties (ap (λ (r : Request). (answer s who moment pass r).reply) (sym asked) ∙ replied ∙ is))
    where
      by_told : IsToldRun s (answer s who moment pass (ask.Claim name id)).entry name id t n →
          (b : ℕ) × (name_of (replay base (mid ++ option_to_list own)) b ≡ Some name) × HasEntry (mid ++ option_to_list own) (kind.Claim b t id)
      by_told f = (f.bot.no, name_now f.bot.no name named, by_run f.by)
        where
          named : name_of s f.bot.no ≡ Some name
          named = name_found s name f.bot sound f.named

          by_run : ((run : Attempt) × HasRun s f.bot.no t n run × (run.claim ≡ id)) ⊎ Adds (answer s who moment pass (ask.Claim name id)).entry (kind.Claim f.bot.no t id) → HasEntry (mid ++ option_to_list own) (kind.Claim f.bot.no t id)
          by_run (inl x) =
              has_left mid (option_to_list own) (kind.Claim f.bot.no t id)
              (subst (λ (z : ℕ). HasEntry mid (kind.Claim z t id)) x.1.by
              (subst (λ (z : List ℕ). HasEntry mid (kind.Claim x.0.bot t z)) x.2 (run_known name f.bot.no t n x.0 unknown named x.1).claimed))
          by_run (inr x) =
              has_right mid (option_to_list own) (kind.Claim f.bot.no t id)
              (adds_has own (kind.Claim f.bot.no t id) (subst (λ (r : Option Entry). Adds r (kind.Claim f.bot.no t id)) (ap (λ (r : Request). (answer s who moment pass r).entry) (sym asked) ∙ gives) x))

  pub taken_told : (name : List ℕ) (t n : ℕ) (chunk : Chunk) (must_stop : Bool) → bot_named base name ≡ None → request ≡ with_chunk name t n chunk → answered ≡ reply.Updated must_stop →
      (b : ℕ) × (name_of (replay base (mid ++ option_to_list own)) b ≡ Some name) × (last : Option Last) × HasEntry (mid ++ option_to_list own) (kind.Update b t n (Some chunk) last)
  taken_told name t n chunk must_stop unknown asked is =
      by_taken (chunks_taken s who name moment pass t n chunk must_stop (subst (λ (r : Request). IsTrue (fits s.settings r)) asked fitting)
      (ap (λ (r : Request). (answer s who moment pass r).reply) (sym asked) ∙ replied ∙ is))
    where
      by_taken : IsTakenChunk s (answer s who moment pass (with_chunk name t n chunk)).entry name t n chunk →
          (b : ℕ) × (name_of (replay base (mid ++ option_to_list own)) b ≡ Some name) × (last : Option Last) × HasEntry (mid ++ option_to_list own) (kind.Update b t n (Some chunk) last)
      by_taken f = (let x = by_run f.by in (f.bot.no, name_now f.bot.no name named, x.0, x.1))
        where
          named : name_of s f.bot.no ≡ Some name
          named = name_found s name f.bot sound f.named

          by_run : ((run : Attempt) × HasRun s f.bot.no t n run × Contains run.chunks chunk) ⊎ Adds (answer s who moment pass (with_chunk name t n chunk)).entry (kind.Update f.bot.no t n (Some chunk) None) →
              (last : Option Last) × HasEntry (mid ++ option_to_list own) (kind.Update f.bot.no t n (Some chunk) last)
          by_run (inl x) =
              (let y = (run_known name f.bot.no t n x.0 unknown named x.1).chunks chunk x.2 in (
                y.0,
                has_left mid (option_to_list own) (kind.Update f.bot.no t n (Some chunk) y.0)
                    (subst (λ (z : ℕ). HasEntry mid (kind.Update z t n (Some chunk) y.0)) x.1.by
                    (subst (λ (z : ℕ). HasEntry mid (kind.Update x.0.bot t z (Some chunk) y.0)) x.1.is_try y.1)),
              ))
          by_run (inr x) = (
            None,
            has_right mid (option_to_list own) (kind.Update f.bot.no t n (Some chunk) None)
                (adds_has own (kind.Update f.bot.no t n (Some chunk) None) (subst (λ (r : Option Entry). Adds r (kind.Update f.bot.no t n (Some chunk) None)) (ap (λ (r : Request). (answer s who moment pass r).entry) (sym asked) ∙ gives) x)),
          )

pub calls_told : CallsAreTold
calls_told start call old new growth answered o rows may h = by_ahead (is_ahead (front start (old ++ growth.others)) call.after) h.finds
  where
    mid : List Entry
    mid = (old ++ growth.others) ++ growth.settled

    whole : new ≡ ((old ++ growth.others) ++ growth.settled) ++ option_to_list growth.own
    whole = h.grows.parts ∙ sym (append_assoc old growth.others (added growth)) ∙ sym (append_assoc (old ++ growth.others) growth.settled (option_to_list growth.own))

    caused : IsCaused start.rows (((old ++ growth.others) ++ growth.settled) ++ option_to_list growth.own)
    caused = subst (IsCaused start.rows) whole h.grows.legal.caused

    moment : ℕ
    moment = moment_of (replay start.rows (old ++ growth.others)) call.moment

    settled_then : replay start.rows ((old ++ growth.others) ++ growth.settled) ≡ replay (replay start.rows (old ++ growth.others)) growth.settled
    settled_then = replay_parts start.rows (old ++ growth.others) growth.settled

    by_ahead : (b : Bool) → MatchBool b (IsFrontAhead (front start (old ++ growth.others)) growth answered) (IsServed (replay start.rows (old ++ growth.others)) (taken_by (replay start.rows (old ++ growth.others)) call) growth answered) →
        TellsCall start call new growth answered
    by_ahead true g = record {
      own = λ b t n chunk last x. absurd (no_entry (kind.Update b t n chunk last) (subst (λ (l : List Entry). HasEntry l (kind.Update b t n chunk last)) (ap (λ (l : List Entry). l ++ option_to_list growth.own) g.settled_is ∙ ap option_to_list g.own_is) x));
      run = λ name id t n slice tolerance properties unknown asked is. absurd (let no = g.reply in cc (no, is));
      taken = λ name t n chunk must_stop unknown asked is. absurd (let no = g.reply in cc (no, is));
    }
    by_ahead false g = record {
      own = λ b t n chunk last x.
          subst (λ (l : List Entry). (name : List ℕ) × (call.request ≡ ask.Update name t n chunk last) × (name_of (replay start.rows l) b ≡ Some name)) (sym whole)
          (own_told start.rows mid o rows call.caller moment call.pass call.request growth.own answered caused may replied gives b t n chunk last (own_left growth.settled (option_to_list growth.own) call.pass moment b t n chunk last g.due_first x));
      run = λ name id t n slice tolerance properties unknown asked is.
          subst (λ (l : List Entry). (b : ℕ) × (name_of (replay start.rows l) b ≡ Some name) × HasEntry l (kind.Claim b t id)) (sym whole)
          (run_told start.rows mid o rows call.caller moment call.pass call.request growth.own answered caused may replied gives name id t n slice tolerance properties unknown asked is);
      taken = λ name t n chunk must_stop unknown asked is.
          subst (λ (l : List Entry). (b : ℕ) × (name_of (replay start.rows l) b ≡ Some name) × (last : Option Last) × HasEntry l (kind.Update b t n (Some chunk) last)) (sym whole)
          (taken_told start.rows mid o rows call.caller moment call.pass call.request growth.own answered caused may replied gives name t n chunk must_stop unknown asked is);
    }
      where
        replied : (answer (replay start.rows ((old ++ growth.others) ++ growth.settled)) call.caller moment call.pass call.request).reply ≡ answered
        replied = ap (λ (z : PoolState). (answer z call.caller moment call.pass call.request).reply) settled_then ∙ g.reply

        gives : (answer (replay start.rows ((old ++ growth.others) ++ growth.settled)) call.caller moment call.pass call.request).entry ≡ growth.own
        gives = ap (λ (z : PoolState). (answer z call.caller moment call.pass call.request).entry) settled_then ∙ g.entry

pub stops_add_no_update : StopsAddNoUpdate
stops_add_no_update start call old new growth is_full b t n chunk last h x =
    no_entry (kind.Update b t n chunk last)
    (subst (λ (o : Option Entry). HasEntry (option_to_list o) (kind.Update b t n chunk last)) h.no_own
    (own_left growth.settled (option_to_list growth.own) call.pass (moment_of (replay start.rows (old ++ growth.others)) call.moment) b t n chunk last h.due_first x))
