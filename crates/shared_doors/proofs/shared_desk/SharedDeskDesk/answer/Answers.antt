-- Nothing was written.
use Rattle.std.proofs.Common.{◌≡◌, ◌≤◌, IsTrue, None, ap, subst, ◌∙◌}
use Rattle.swarm_model.specs.Deadlines.{due_entry}
use Rattle.swarm_model.specs.Fits.{fits}
use Rattle.swarm_model.specs.MachineState.{MachineState}
use Rattle.turnstile.specs.Passes.{number, pass_of, of_value}
use Rattle.shared_doors.specs.Desks.{no_state}
use Rattle.shared_doors.proofs.Desks.{answer_along, kept_is, same_desk}
use Rattle.shared_doors.proofs.shared_desk.SharedDeskDesk.answer.Goals as goal

pub pass-number-requires : goal.pass-number-requires
pass-number-requires g c = c.requires.ready.turn

pub value-requires : goal.value-requires
value-requires g c = record { turn = c.requires.ready.turn; value = (c.requires.ready.raised.0, c.requires.ready.raised.1) }

pub answer_uncounted-requires : goal.answer_uncounted-requires
answer_uncounted-requires g c =
    let is = kept_is (λ k. g.M.Machine.kept k.machine) c.args.self.now.turn c.value.result.now c.value.ensures.value in
    record {
      fits = subst (λ (k : MachineState). IsTrue (fits k.pool.settings c.args.request.now)) is c.requires.fits;
      not_before = subst (λ (k : MachineState). k.pool.last ≤ c.args.moment) is c.requires.not_before;
      not_late = c.requires.not_late;
      nothing_due = ap (due_entry (g.M.Machine.kept c.value.result.now.machine).pool c.args.moment) c.pass-number.ensures
          ∙ subst (λ (k : MachineState). due_entry k.pool c.args.moment (number (pass_of c.args.self.now.turn)) ≡ None) is c.requires.nothing_due;
    }

pub returns-clause-same : goal.returns-clause-same
returns-clause-same g c = same_desk c.args.self.now.turn c.value.result.now c.value.ensures.value

pub returns-clause-exact : goal.returns-clause-exact
returns-clause-exact g c =
    answer_along (of_value (λ k. g.M.Machine.kept k.machine) no_state c.args.self.now.turn) (g.M.Machine.kept c.value.result.now.machine)
    c.answer_uncounted.result c.args.who.now c.args.moment (number (pass_of c.args.self.now.turn)) c.pass-number.result c.args.request.now
    (kept_is (λ k. g.M.Machine.kept k.machine) c.args.self.now.turn c.value.result.now c.value.ensures.value) c.pass-number.ensures c.answer_uncounted.ensures
