-- What the turn found stands before the call's point.
use Rattle.std.proofs.Common.{ℕ, IsTrue, sym, ap, subst, ◌∙◌}
use Rattle.swarm_model.specs.declared.pool_settings.PoolSettings.{PoolSettings}
use Rattle.swarm_model.specs.Bases.{empty_base}
use Rattle.swarm_model.specs.Fits.{fits}
use Rattle.swarm_model.specs.Points.{Call}
use Rattle.pool_doors.specs.Calls.{call_of}
use Rattle.swarm_history.proofs.OwnPoints.{never_fails}
use Rattle.turnstile.specs.Passes.{IsPassOf, fixed_of, number, of_value, pass_of, raised, seen, told}
use Rattle.shared_doors.specs.Desks.{no_state}
use Rattle.shared_doors.specs.Machines.{lasting_in}
use Rattle.shared_doors.proofs.Desks.{begins_at, lock_after, log_now, ready_first, settings_at, view_after}
use Rattle.shared_doors.proofs.SharedPoints.{turn_call}
use Rattle.shared_doors.proofs.shared_desk.take_turn.Goals as goal

pub serve-result-requires : goal.serve-result-requires
serve-result-requires g c =
    let e = c.enter-turn.ensures in
    let t = c.enter-turn.result in
    let lock = c.args.turnstile.now in
    let ready = ready_first (λ k. g.M.Machine.kept k.machine) g.K.Keeper.SURE t lock e.lock c.requires.sure e.turn c.requires.standing e.value in
    record {
      ready = ready;
      fits = subst (λ (p : PoolSettings). IsTrue (fits p c.args.call.now.request.now)) (sym (settings_at (λ k. g.M.Machine.kept k.machine) g.K.Keeper.SURE t ready lock e.lock)) c.requires.fits;
      carries = c.requires.carries;
    }

pub leave-requires : goal.leave-requires
leave-requires g c = record { turn = c.serve-result.ensures.ready.turn; raised = c.serve-result.ensures.ready.raised }

pub returns-clause-own : goal.returns-clause-own
returns-clause-own g c =
    subst (λ l. IsPassOf (lasting_in g.M.Machine.kept) l c.leave.result)
    (lock_after c.enter-turn.result c.serve-result.new.desk.turn c.serve-result.ensures.rest ∙ c.enter-turn.ensures.lock) c.leave.ensures.own

pub returns-clause-done : goal.returns-clause-done
returns-clause-done g c =
    let e = c.enter-turn.ensures in
    let t = c.enter-turn.result in
    let next = c.serve-result.new.desk.turn in
    let lock = c.args.turnstile.now in
    let ready = ready_first (λ k. g.M.Machine.kept k.machine) g.K.Keeper.SURE t lock e.lock c.requires.sure e.turn c.requires.standing e.value in
    let the_call : ℕ → Call = λ n. call_of n c.args.call.now in
    let there = of_value (λ k. g.M.Machine.kept k.machine) no_state t in
    turn_call (empty_base (fixed_of (lasting_in g.M.Machine.kept) lock).settings) there.start
    (the_call (number c.args.pass)) (the_call (number (pass_of t))) (seen c.args.pass) (raised t) there.log (seen c.leave.result)
    (of_value (λ k. g.M.Machine.kept k.machine) no_state next) (told c.args.pass) c.serve-result.result
    e.found e.fresh (begins_at (λ k. g.M.Machine.kept k.machine) g.K.Keeper.SURE t ready lock e.lock)
    c.serve-result.ensures.start (ap the_call e.same.0.0)
    (log_now (λ k. g.M.Machine.kept k.machine) g.K.Keeper.SURE t ready)
    (log_now (λ k. g.M.Machine.kept k.machine) g.K.Keeper.SURE next c.serve-result.ensures.ready ∙ sym c.leave.ensures.seen)
    c.serve-result.ensures.point c.serve-result.ensures.shows c.serve-result.ensures.stopped

pub returns-clause-no_fault : goal.returns-clause-no_fault
returns-clause-no_fault g c = never_fails c.serve-result.result c.serve-result.ensures.failed

pub returns-clause-rest : goal.returns-clause-rest
returns-clause-rest g c =
    view_after c.args.pass c.leave.result c.enter-turn.result c.serve-result.new.desk.turn c.enter-turn.ensures.same c.serve-result.ensures.rest c.leave.ensures.same
