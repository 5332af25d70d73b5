-- What a call of a pool tells of the tasks of its caller.
use Rattle.std.proofs.Common.{◌≡◌, ◌⊎◌, inl, inr, ℕ, Bool, true, false, IsTrue, List, [], ◌∷◌, ◌++◌, Option, Some, None, refl, ap, sym, ◌∙◌, subst, append-nil}
use Rattle.std.specs.List.{AllByRecursion, list_any}
use Rattle.std.specs.Option.{option_to_list}
use Rattle.std.proofs.lemmas.List.{append_assoc}
use Rattle.dimensions.specs.Rules.{is_empty}
use Rattle.batch_plays.specs.Types.{NewTask, TaskState, Entry, Reply, Request}
use Rattle.swarm_model.specs.declared.entry.EntryKind.TheVariants as kind
use Rattle.swarm_model.specs.declared.pool_state.PoolState.{PoolState}
use Rattle.swarm_model.specs.declared.reply.Reply.TheVariants as reply
use Rattle.swarm_model.specs.declared.request.Request.TheVariants as ask
use Rattle.swarm_model.specs.declared.rule.Rule.TheVariants as rule
use Rattle.swarm_model.specs.Answers.{answer}
use Rattle.swarm_model.specs.Bases.{Base}
use Rattle.swarm_model.specs.Entries.{is_deadline}
use Rattle.swarm_model.specs.History.{IsCaused, moment_of, replay}
use Rattle.swarm_model.specs.Points.{Call, Growth, IsPoint, IsServed, IsSettled, IsStopped, added, taken_by}
use Rattle.swarm_model.specs.Reuse.{sent}
use Rattle.swarm_model.specs.Soundness.{IsSound}
use Rattle.pool_laws.proofs.Finals.{caused_first, replay_parts}
use Rattle.pool_laws.proofs.Lists.{Among, among_either}
use Rattle.pool_laws.proofs.Lists.Among.{here, later}
use Rattle.log_laws.specs.Sent.{sends_as}
use Rattle.log_laws.proofs.Own.{new_is_asked}
use Rattle.log_laws.proofs.Resent.{replies_are_told}
use Rattle.swarm_history.specs.Calls.{first_call}
use Rattle.swarm_history.specs.Settling.{IsPointAlone, IsOwnStop}
use Rattle.batch_plays.specs.Turns.{IsCalled, Settles}
use Rattle.batch_plays.proofs.Entries.{IsNew, due_is_not_new}

-- The log grows and stays one that may be. A task of a caller that is added is the one that is asked for, of the caller
-- who asks. The number that a task is told is that of one that the log has.
pub record CallTells (start : Base) (who : List ℕ) (request : Request) (old new : List Entry) (answered : Reply) : Type 0 where
  pub caused : IsCaused start.rows new
  pub added : List Entry
  pub log : new ≡ old ++ added
  pub own : (e : Entry) → Among e added → (caller : List ℕ) (t : ℕ) (task : NewTask) → IsNew e caller t task → (caller ≡ who) × (request ≡ ask.New task)
  pub told : (task : NewTask) (t : ℕ) (state : TaskState) → request ≡ ask.New task → answered ≡ reply.New t state → is_empty task.request_uuid ≡ false
      → sent start.rows who task.request_uuid ≡ None → list_any (sends_as who task.request_uuid t) new ≡ true

-- the log by its three parts, where no other wrote
parts_alone : (old : List Entry) (growth : Growth) (new : List Entry) → growth.others ≡ [] → new ≡ old ++ (growth.others ++ added growth) → new ≡ old ++ added growth
parts_alone old growth new alone parts = parts ∙ ap (λ (xs : List Entry). old ++ (xs ++ added growth)) alone

due_all : (pass moment : ℕ) (log : List Entry) → AllByRecursion (IsSettled pass moment) log → AllByRecursion (λ e. IsTrue (is_deadline e.kind)) log
due_all pass moment [] d = tt
due_all pass moment (e ∷ log) d = (d.0.0, due_all pass moment log d.1)

-- a call that stopped settled deadlines alone
pub stop_settles : (start : Base) (call : Call) (old new : List Entry) (is_full : Bool) → IsOwnStop start call old new is_full → Settles old new
stop_settles start call old new is_full s =
    let is : new ≡ old ++ added s.growth = parts_alone old s.growth new s.no_others s.stop.grows.parts in
    record {
      settled = s.growth.settled;
      deadlines = due_all call.pass _ s.growth.settled s.stop.due_first;
      log = is ∙ ap (λ (o : Option Entry). old ++ (s.growth.settled ++ option_to_list o)) s.stop.no_own ∙ ap (λ (xs : List Entry). old ++ xs) (append-nil s.growth.settled);
    }

module _ (start : Base) (sound : IsSound start.rows) (who : List ℕ) (m : ℕ) (request : Request) where
  abbrev call : Call
  call = first_call who m request

  stopped_tells : (old new : List Entry) (answered : Reply) → IsOwnStop start call old new true → answered ≡ reply.No rule.LogFull → CallTells start who request old new answered
  stopped_tells old new answered s e =
      let settles = stop_settles start call old new true s in
      record {
        caused = s.stop.grows.legal.caused;
        added = settles.settled;
        log = settles.log;
        own = λ x a caller t task n. absurd (due_is_not_new settles.settled settles.deadlines x a caller t task n);
        told = λ task t state f g h k. absurd (cc (e, g));
      }

  point_tells : (old new : List Entry) (answered : Reply) → IsPointAlone start call old new answered → CallTells start who request old new answered
  point_tells old new answered p = record {
    caused = p.point.grows.legal.caused;
    added = added p.growth;
    log = is;
    own = λ e a caller t task n. by_part e caller t task n (among_either e p.growth.settled (option_to_list p.growth.own) a);
    told = λ task t state f g h k.
        let held = replies_are_told start.rows mid who at 0 task t state sound mid_caused h k (subst (λ (q : Request). (answer rows who at 0 q).reply ≡ reply.New t state) f (told_rows ∙ g)) in
        let entry_is : (answer rows who at 0 (ask.New task)).entry ≡ p.growth.own = subst (λ (q : Request). (answer rows who at 0 q).entry ≡ p.growth.own) f adds in
        subst (λ (xs : List Entry). list_any (sends_as who task.request_uuid t) xs ≡ true) (ap (λ (o : Option Entry). mid ++ option_to_list o) entry_is ∙ whole ∙ sym is) held;
  }
    where
      is : new ≡ old ++ added p.growth
      is = parts_alone old p.growth new p.no_others p.point.grows.parts

      served : IsServed (replay start.rows old) (taken_by (replay start.rows old) call) p.growth answered
      served = subst (λ (xs : List Entry). IsServed (replay start.rows xs) (taken_by (replay start.rows xs) call) p.growth answered) (ap (λ (xs : List Entry). old ++ xs) p.no_others ∙ append-nil old) p.point.finds

      at : ℕ
      at = moment_of (replay start.rows old) m

      mid : List Entry
      mid = old ++ p.growth.settled

      rows : PoolState
      rows = replay start.rows mid

      mid_rows : replay (replay start.rows old) p.growth.settled ≡ rows
      mid_rows = sym (replay_parts start.rows old p.growth.settled)

      whole : mid ++ option_to_list p.growth.own ≡ old ++ added p.growth
      whole = append_assoc old p.growth.settled (option_to_list p.growth.own)

      mid_caused : IsCaused start.rows mid
      mid_caused = caused_first start.rows mid (option_to_list p.growth.own) (subst (IsCaused start.rows) (is ∙ sym whole) p.point.grows.legal.caused)

      told_rows : (answer rows who at 0 request).reply ≡ answered
      told_rows = subst (λ (s : PoolState). (answer s who at 0 request).reply ≡ answered) mid_rows served.reply

      adds : (answer rows who at 0 request).entry ≡ p.growth.own
      adds = subst (λ (s : PoolState). (answer s who at 0 request).entry ≡ p.growth.own) mid_rows served.entry

      by_own : (o : Option Entry) → p.growth.own ≡ o → (e : Entry) → Among e (option_to_list o) → (caller : List ℕ) (t : ℕ) (task : NewTask) → IsNew e caller t task → (caller ≡ who) × (request ≡ ask.New task)
      by_own None o e a caller t task n = elim a [ ]
      by_own (Some x) o e here caller t task n =
          (let asked = new_is_asked rows who at 0 request x t caller task n.state n.slice n.source (adds ∙ o) n.is in (asked.by, asked.asked))
      by_own (Some x) o e (later a) caller t task n = elim a [ ]

      by_part : (e : Entry) (caller : List ℕ) (t : ℕ) (task : NewTask) → IsNew e caller t task → Among e p.growth.settled ⊎ Among e (option_to_list p.growth.own) → (caller ≡ who) × (request ≡ ask.New task)
      by_part e caller t task n (inl a) = absurd (due_is_not_new p.growth.settled (due_all 0 _ p.growth.settled served.due_first) e a caller t task n)
      by_part e caller t task n (inr a) = by_own p.growth.own refl e a caller t task n

  -- what any call tells
  pub call_tells : (old new : List Entry) (answered : Reply) → IsCalled start call old new answered → CallTells start who request old new answered
  call_tells old new answered (inl p) = point_tells old new answered p
  call_tells old new answered (inr s) = stopped_tells old new answered s.0 s.1
