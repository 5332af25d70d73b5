-- What a call of the pool tells of its bot.
use Rattle.std.proofs.Common.{◌≡◌, ◌⊎◌, inl, inr, ℕ, true, IsTrue, List, [], ◌∷◌, ◌++◌, Option, None, refl, ap, sym, ◌∙◌, subst}
use Rattle.std.specs.List.{AllByRecursion}
use Rattle.std.specs.Option.{option_to_list}
use Rattle.std.proofs.lemmas.List.{append_assoc}
use Rattle.std.proofs.lemmas.Option.{same_Some}
use Rattle.bot_worlds.specs.Types.{Properties, Chunk, Last, Entry, PoolState, Reply, Request}
use Rattle.swarm_model.specs.declared.entry.EntryKind.TheVariants as kind
use Rattle.swarm_model.specs.declared.reply.Reply.TheVariants as reply
use Rattle.swarm_model.specs.declared.request.Request.TheVariants as ask
use Rattle.swarm_model.specs.declared.rule.Rule.TheVariants as rule
use Rattle.swarm_model.specs.Answers.{answer}
use Rattle.swarm_model.specs.BaseRules.{IsBase}
use Rattle.swarm_model.specs.Entries.{is_deadline}
use Rattle.swarm_model.specs.Finding.{bot_named}
use Rattle.swarm_model.specs.Fits.{fits}
use Rattle.swarm_model.specs.History.{IsCaused, IsLegal, moment_of, replay}
use Rattle.swarm_model.specs.Points.{Call, Growth, IsPoint, IsServed, IsStopped, added, taken_by}
use Rattle.pool_laws.proofs.Finals.{replay_parts}
use Rattle.pool_laws.proofs.Lists.{Among}
use Rattle.pool_laws.proofs.Lists.Among.{here, later}
use Rattle.pool_laws.proofs.Sound.{sound_replay}
use Rattle.log_laws.specs.Calls.{TellsCall}
use Rattle.log_laws.specs.Runs.{HasEntry}
use Rattle.log_laws.proofs.CallLaw.{calls_told, stops_add_no_update}
use Rattle.bot_worlds.specs.Invariant.{BotLog, HasReport, IsNumber, IsRight, IsTryOf, rows_by}
use Rattle.bot_worlds.specs.Pool.{IsCalled, call_by}
use Rattle.bot_worlds.proofs.Grown.{IsLonger}
use Rattle.bot_worlds.proofs.Logs.{among_of, longer, old_report, one_number}
use Rattle.bot_worlds.proofs.Tries.{told_try}

-- what the log has stays, an update of the bot that is added is the request, and what the reply says is in the log
pub record Called (l : BotLog) (request : Request) (new : List Entry) (answered : Reply) : Type 0 where
  pub longer : IsLonger l new
  pub legal : IsLegal l.start.rows new
  pub own : (t n : ℕ) (chunk : Option Chunk) (last : Option Last) → HasReport (record l { log = new }) t n chunk last →
      HasReport l t n chunk last ⊎ (request ≡ ask.Update l.name t n chunk last)
  pub right : IsRight (record l { log = new }) request answered

-- the log by its three parts, where no other wrote
parts_alone : (old : List Entry) (growth : Growth) (new : List Entry) → growth.others ≡ [] → new ≡ old ++ (growth.others ++ added growth) → new ≡ old ++ added growth
parts_alone old growth new alone parts = parts ∙ ap (λ (xs : List Entry). old ++ (xs ++ added growth)) alone

module _ (l : BotLog) (base : IsBase l.start.rows.settings l.start.count l.start.rows) (stranger : bot_named l.start.rows l.name ≡ None) (who : List ℕ) (m : ℕ) (request : Request) (answered : Reply) (growth : Growth) where
  abbrev call : Call
  call = call_by who m request

  abbrev more : List Entry
  more = added growth

  abbrev l2 : BotLog
  l2 = record l { log = l.log ++ more }

  module _ (legal : IsLegal l.start.rows (l.log ++ more)) where
    -- a call in which no update is added but the request
    by_own : ((b t n : ℕ) (chunk : Option Chunk) (last : Option Last) → HasEntry more (kind.Update b t n chunk last) → IsNumber l2 b → request ≡ ask.Update l.name t n chunk last) →
        IsRight l2 request answered → Called l request (l.log ++ more) answered
    by_own own right = record {
      longer = longer l more base.sound legal.caused;
      legal = legal;
      own = λ t n chunk last h. by_part t n chunk last h (old_report l more base.sound legal.caused t n chunk last h);
      right = right;
    }
      where
        by_part : (t n : ℕ) (chunk : Option Chunk) (last : Option Last) → (h : HasReport l2 t n chunk last) → HasReport l t n chunk last ⊎ HasEntry more (kind.Update h.b t n chunk last) →
            HasReport l t n chunk last ⊎ (request ≡ ask.Update l.name t n chunk last)
        by_part t n chunk last h (inl k) = inl k
        by_part t n chunk last h (inr k) = inr (own h.b t n chunk last k h.number)

    -- a stop
    stopped_tells : IsStopped l.start call l.log (l.log ++ more) growth true → answered ≡ reply.No rule.LogFull → Called l request (l.log ++ more) answered
    stopped_tells s e =
        by_own (λ b t n chunk last h k. absurd (stops_add_no_update l.start call l.log (l.log ++ more) growth true b t n chunk last s h))
        (record { run = λ claim t n slice tolerance p f g. absurd (cc (e, g)); taken = λ t n c must_stop f g. absurd (cc (e, g)) })

    -- an answer
    point_tells : IsTrue (fits l.start.rows.settings request) → growth.others ≡ [] → IsPoint l.start call l.log (l.log ++ more) growth answered → Called l request (l.log ++ more) answered
    point_tells may alone point =
        by_own by_request
        (record {
          run = λ claim t n slice tolerance p f g.
              let z = tells.run l.name claim t n slice tolerance p stranger f g in
              record { b = z.0; number = z.1; entry = z.2; is_try = by_claim claim t n slice tolerance p f g z.0 z.1 };
          taken = λ t n c must_stop f g. let z = tells.taken l.name t n c must_stop stranger f g in (z.2, record { b = z.0; number = z.1; entry = z.3 });
        })
      where
        tells : TellsCall l.start call (l.log ++ more) growth answered
        tells = calls_told l.start call l.log (l.log ++ more) growth answered base.sound base.rows may point

        by_request : (b t n : ℕ) (chunk : Option Chunk) (last : Option Last) → HasEntry more (kind.Update b t n chunk last) → IsNumber l2 b → request ≡ ask.Update l.name t n chunk last
        by_request b t n chunk last h k =
            (let z = tells.own b t n chunk last h in
            let same : z.0 ≡ l.name = same_Some _ _ (sym z.2 ∙ k) in
            z.1 ∙ ap (λ (x : List ℕ). ask.Update x t n chunk last) same)

        by_claim : (claim : List ℕ) (t n slice tolerance : ℕ) (p : Properties) → request ≡ ask.Claim l.name claim → answered ≡ reply.Run t n slice tolerance p → (b : ℕ) → IsNumber l2 b → IsTryOf l2 t n b
        by_claim claim t n slice tolerance p f g b k =
            served_try served
          where
            append_nil : (xs : List Entry) → xs ++ [] ≡ xs
            append_nil [] = refl
            append_nil (x ∷ xs) = ap (λ (ys : List Entry). x ∷ ys) (append_nil xs)

            served : IsServed (replay l.start.rows l.log) (taken_by (replay l.start.rows l.log) call) growth answered
            served = subst (λ (xs : List Entry). IsServed (replay l.start.rows xs) (taken_by (replay l.start.rows xs) call) growth answered) (ap (λ (xs : List Entry). l.log ++ xs) alone ∙ append_nil l.log) point.finds

            served_try : IsServed (replay l.start.rows l.log) (taken_by (replay l.start.rows l.log) call) growth answered → IsTryOf l2 t n b
            served_try s =
                (let mid : BotLog = record l { log = l.log ++ growth.settled } in
                let mid_rows : replay (replay l.start.rows l.log) growth.settled ≡ rows_by mid = sym (replay_parts l.start.rows l.log growth.settled) in
                let whole : (l.log ++ growth.settled) ++ option_to_list growth.own ≡ l.log ++ more = append_assoc l.log growth.settled (option_to_list growth.own) in
                let at : ℕ = moment_of (replay l.start.rows l.log) m in
                let told : (answer (rows_by mid) who at 0 (ask.Claim l.name claim)).reply ≡ reply.Run t n slice tolerance p =
                subst (λ (q : Request). (answer (rows_by mid) who at 0 q).reply ≡ reply.Run t n slice tolerance p) f
                (subst (λ (rows : PoolState). (answer rows who at 0 request).reply ≡ reply.Run t n slice tolerance p) mid_rows (s.reply ∙ g)) in
                let adds : (answer (rows_by mid) who at 0 (ask.Claim l.name claim)).entry ≡ growth.own =
                subst (λ (q : Request). (answer (rows_by mid) who at 0 q).entry ≡ growth.own) f
                (subst (λ (rows : PoolState). (answer rows who at 0 request).entry ≡ growth.own) mid_rows s.entry) in
                let z = told_try mid base.sound who claim at 0 t n slice tolerance p growth.own (subst (IsCaused l.start.rows) (sym whole) legal.caused) told adds in
                let number2 : IsNumber l2 z.0 = subst (λ (xs : List Entry). IsNumber (record l { log = xs }) z.0) whole z.1 in
                let try2 : IsTryOf l2 t n z.0 = subst (λ (xs : List Entry). IsTryOf (record l { log = xs }) t n z.0) whole z.2 in
                subst (IsTryOf l2 t n) (one_number l2 (sound_replay l.start.rows (l.log ++ more) base.sound legal.caused) z.0 b number2 k) try2)

-- what any call tells
pub called_by : (l : BotLog) → IsBase l.start.rows.settings l.start.count l.start.rows → bot_named l.start.rows l.name ≡ None → (who : List ℕ) (m : ℕ) (request : Request) → IsTrue (fits l.start.rows.settings request) →
    (new : List Entry) (answered : Reply) → IsCalled l.start (call_by who m request) l.log new answered → Called l request new answered
called_by l base stranger who m request may new answered c = by_done c.done
  where
    by_done : IsPoint l.start (call_by who m request) l.log new c.growth answered ⊎ (IsStopped l.start (call_by who m request) l.log new c.growth true × (answered ≡ reply.No rule.LogFull)) → Called l request new answered
    by_done (inl point) =
        (let is : new ≡ l.log ++ added c.growth = parts_alone l.log c.growth new c.no_others point.grows.parts in
        subst (λ (xs : List Entry). Called l request xs answered) (sym is)
        (point_tells l base stranger who m request answered c.growth (subst (IsLegal l.start.rows) is point.grows.legal) may c.no_others
        (subst (λ (xs : List Entry). IsPoint l.start (call_by who m request) l.log xs c.growth answered) is point)))
    by_done (inr stop) =
        (let is : new ≡ l.log ++ added c.growth = parts_alone l.log c.growth new c.no_others stop.0.grows.parts in
        subst (λ (xs : List Entry). Called l request xs answered) (sym is)
        (stopped_tells l base stranger who m request answered c.growth (subst (IsLegal l.start.rows) is stop.0.grows.legal)
        (subst (λ (xs : List Entry). IsStopped l.start (call_by who m request) l.log xs c.growth true) is stop.0) stop.1))

-- deadlines that are settled tell nothing new
pub no_update_due : (log : List Entry) → AllByRecursion (λ e. IsTrue (is_deadline e.kind)) log → (b t n : ℕ) (chunk : Option Chunk) (last : Option Last) → HasEntry log (kind.Update b t n chunk last) → ⊥
no_update_due log due b t n chunk last h = by_among log due h.entry (among_of log h.entry h.among) h.is
  where
    by_among : (xs : List Entry) → AllByRecursion (λ e. IsTrue (is_deadline e.kind)) xs → (e : Entry) → Among e xs → e.kind ≡ kind.Update b t n chunk last → ⊥
    by_among [] d e a is = elim a [ ]
    by_among (x ∷ xs) d e here is = (let k : is_deadline (kind.Update b t n chunk last) ≡ true = ap is_deadline (sym is) ∙ d.0 in cc)
    by_among (x ∷ xs) d e (later a) is = by_among xs d.1 e a is
