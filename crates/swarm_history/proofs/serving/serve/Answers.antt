-- The call's point, or what stopped it.
use Rattle.std.proofs.Common.{◌≡◌, ◌^◌, ℕ, Bool, true, false, min, max, arith, refl, sym, ap, ◌∙◌, subst, Option, None, Result, Ok, Err, IfOk, OnErr, IfErr}
use Rattle.std.proofs.lemmas.Result.{IfOk-weaker, err_from_is_err_and}
use Rattle.swarm_history.specs.Types.{PoolState, Answered}
use Rattle.swarm_model.specs.declared.reply.Reply.TheVariants as reply
use Rattle.swarm_model.specs.declared.rule.Rule.TheVariants as rule
use Rattle.std.specs.Bool.{OnTrue}
use Rattle.swarm_model.specs.Answers.{answer}
use Rattle.swarm_model.specs.Bases.{front}
use Rattle.swarm_model.specs.Deadlines.{due_entry}
use Rattle.swarm_model.specs.History.{moment_of}
use Rattle.swarm_model.specs.Points.{is_ahead, LacksRoom}
use Rattle.pool_doors.specs.Calls.{call_of}
use Rattle.swarm_history.specs.Settling.{IsPointAlone, Responds, Settles}
use Rattle.pool_doors.specs.Doors.{is_log_full}
use Rattle.pool_laws.proofs.MachineLaws.{is_sound}
use Rattle.swarm_history.proofs.OwnPoints.{early_point, due_next, own_next, settled_point, settled_stop}
use Rattle.swarm_history.proofs.serving.serve.Goals as goal

-- what the test of a front says of the log
ahead_is : (size found : ℕ) (seen : Option ℕ) (decision truth : Bool) → found ≡ size → decision ≡ is_ahead found seen → decision ≡ truth → is_ahead size seen ≡ truth
ahead_is size found seen decision truth counted tests is = ap (λ n. is_ahead n seen) (sym counted) ∙ sym tests ∙ is

-- the moment that was reckoned
moment_is : (s : PoolState) (moment last low at : ℕ) → last ≡ s.last → low ≡ min moment (2 ^ 40) → at ≡ max last low → at ≡ moment_of s moment
moment_is s moment last low at is lower greater = cc

-- what holds after a call that stopped
stops : {T E : Type 0} → (r : Result T E) (S : Type 0) (P Q : E → Type 0) → (S → (f : E) → P f → Q f) → OnErr r S → IfErr r P → IfErr r Q
stops (Ok x) S P Q all stays lacks = tt
stops (Err f) S P Q all stays lacks = all stays f lacks

pub returns-then-is_ahead-clause-point : goal.returns-then-is_ahead-clause-point
returns-then-is_ahead-clause-point g c =
    let k = g.D.Desk.kept c.args.desk.now in
    let the_call = call_of (g.D.Desk.number c.args.desk.now) c.args.call.now in
    let ahead = ahead_is (front k.start k.log) c.length-length.result c.args.call.now.after c.is_ahead.result true c.length-length.ensures.length c.is_ahead.ensures c.if-is_ahead.true in
    rw c.length-length.ensures.same
    (subst (λ (n : ℕ). IsPointAlone k.start the_call k.log k.log (reply.No (rule.FrontAhead n)))
    (sym c.length-length.ensures.length)
    (early_point k.start the_call k.log c.length-length.ensures.history.legal ahead))

pub settle-requires : goal.settle-requires
settle-requires g c =
    let same = c.last.ensures.same ∙ c.length-length.ensures.same in
    let bound = (is_sound (g.D.Desk.kept c.args.desk.now) c.length-length.ensures.history).last in
    let last = c.last.ensures.last ∙ ap (λ d. (g.D.Desk.kept d).pool.last) c.length-length.ensures.same in
    rw same (record {
      ready = c.requires.ready;
      history = c.length-length.ensures.history;
      not_before = omega (arith, last);
      not_late = omega (arith, bound, last);
    })

pub respond-requires : goal.respond-requires
respond-requires g c =
    let same = c.last.ensures.same ∙ c.length-length.ensures.same in
    let bound = (is_sound (g.D.Desk.kept c.args.desk.now) c.length-length.ensures.history).last in
    let last = c.last.ensures.last ∙ ap (λ d. (g.D.Desk.kept d).pool.last) c.length-length.ensures.same in
    let settles = c.in_ok-settle.ensures.settles in
    record {
      ready = c.settle.ensures.ready;
      fits = rw (settles.settings ∙ ap (λ d. (g.D.Desk.kept d).pool.settings) same) c.requires.fits;
      carries = c.requires.carries;
      history = settles.history;
      not_before = settles.last;
      not_late = omega (arith, bound, last);
      nothing_due = rw c.settle.ensures.number c.in_ok-settle.ensures.nothing_due;
    }

pub returns-in_err-settle-clause-stopped : goal.returns-in_err-settle-clause-stopped
returns-in_err-settle-clause-stopped g c =
    let k = g.D.Desk.kept c.args.desk.now in
    let the_call = call_of (g.D.Desk.number c.args.desk.now) c.args.call.now in
    let m = g.D.Desk.kept c.settle.new.desk in
    let same = c.last.ensures.same ∙ c.length-length.ensures.same in
    let last = c.last.ensures.last ∙ ap (λ d. (g.D.Desk.kept d).pool.last) c.length-length.ensures.same in
    let behind = ahead_is (front k.start k.log) c.length-length.result c.args.call.now.after c.is_ahead.result false c.length-length.ensures.length c.is_ahead.ensures c.if-is_ahead.false in
    let at = moment_is k.pool c.args.call.now.moment c.last.result c.min.result c.max-moment.result last c.min.ensures c.max-moment.ensures in
    let f = c.in_err-settle.field-0.0 in
    let p = err_from_is_err_and c.from_residual.result c.from_residual.ensures.1 in
    rw (p.1, p.2)
    (settled_stop the_call c.max-moment.result k m c.length-length.ensures.history behind at
    (subst (λ d. Settles (g.D.Desk.number d) c.max-moment.result (g.D.Desk.kept d) m) same c.in_err-settle.ensures.settles) m.log (is_log_full f) refl
    (due_next (is_log_full f) _ (due_entry m.pool c.max-moment.result the_call.pass) _
    (subst (λ d. OnTrue (is_log_full f) (LacksRoom m.start.rows m.log (due_entry m.pool c.max-moment.result (g.D.Desk.number d)))) same c.in_err-settle.ensures.full)))

pub returns-clause-point : goal.returns-clause-point
returns-clause-point g c =
    let k = g.D.Desk.kept c.args.desk.now in
    let the_call = call_of (g.D.Desk.number c.args.desk.now) c.args.call.now in
    let m = g.D.Desk.kept c.settle.new.desk in
    let n = g.D.Desk.kept c.respond.new.desk in
    let same = c.last.ensures.same ∙ c.length-length.ensures.same in
    let last = c.last.ensures.last ∙ ap (λ d. (g.D.Desk.kept d).pool.last) c.length-length.ensures.same in
    let number = c.settle.ensures.number ∙ ap g.D.Desk.number same in
    let behind = ahead_is (front k.start k.log) c.length-length.result c.args.call.now.after c.is_ahead.result false c.length-length.ensures.length c.is_ahead.ensures c.if-is_ahead.false in
    let at = moment_is k.pool c.args.call.now.moment c.last.result c.min.result c.max-moment.result last c.min.ensures c.max-moment.ensures in
    IfOk-weaker c.respond.result _ _
    (λ (a : Answered). settled_point the_call c.max-moment.result k m c.length-length.ensures.history behind at
    (subst (λ d. Settles (g.D.Desk.number d) c.max-moment.result (g.D.Desk.kept d) m) same c.in_ok-settle.ensures.settles) n
    (subst (λ d. due_entry m.pool c.max-moment.result (g.D.Desk.number d) ≡ None) same c.in_ok-settle.ensures.nothing_due) a.reply)
    (subst (λ (p : ℕ). IfOk c.respond.result (λ (a : Answered). Responds p c.args.call.now.who.now c.max-moment.result c.args.call.now.request.now m n a.reply)) number c.respond.ensures.answers)

pub returns-clause-stopped : goal.returns-clause-stopped
returns-clause-stopped g c =
    let k = g.D.Desk.kept c.args.desk.now in
    let the_call = call_of (g.D.Desk.number c.args.desk.now) c.args.call.now in
    let m = g.D.Desk.kept c.settle.new.desk in
    let n = g.D.Desk.kept c.respond.new.desk in
    let same = c.last.ensures.same ∙ c.length-length.ensures.same in
    let last = c.last.ensures.last ∙ ap (λ d. (g.D.Desk.kept d).pool.last) c.length-length.ensures.same in
    let number = c.settle.ensures.number ∙ ap g.D.Desk.number same in
    let behind = ahead_is (front k.start k.log) c.length-length.result c.args.call.now.after c.is_ahead.result false c.length-length.ensures.length c.is_ahead.ensures c.if-is_ahead.false in
    let at = moment_is k.pool c.args.call.now.moment c.last.result c.min.result c.max-moment.result last c.min.ensures c.max-moment.ensures in
    stops c.respond.result _ _ _
    (λ stays f lacks. settled_stop the_call c.max-moment.result k m c.length-length.ensures.history behind at
    (subst (λ d. Settles (g.D.Desk.number d) c.max-moment.result (g.D.Desk.kept d) m) same c.in_ok-settle.ensures.settles) n.log (is_log_full f) stays.log
    (own_next (is_log_full f) _ (due_entry m.pool c.max-moment.result the_call.pass) _
    (subst (λ d. due_entry m.pool c.max-moment.result (g.D.Desk.number d) ≡ None) same c.in_ok-settle.ensures.nothing_due) lacks))
    c.respond.ensures.stays
    (subst (λ (p : ℕ). IfErr c.respond.result (λ f. OnTrue (is_log_full f) (LacksRoom m.start.rows m.log (answer m.pool c.args.call.now.who.now c.max-moment.result p c.args.call.now.request.now).entry))) number c.respond.ensures.full)
