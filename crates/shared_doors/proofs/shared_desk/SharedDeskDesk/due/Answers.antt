-- Nothing was written.
use Rattle.turnstile.specs.Passes.{number, pass_of, of_value}
use Rattle.shared_doors.specs.Desks.{no_state}
use Rattle.shared_doors.proofs.Desks.{due_along, kept_is, same_desk}
use Rattle.shared_doors.proofs.shared_desk.SharedDeskDesk.due.Goals as goal

pub pass-number-requires : goal.pass-number-requires
pass-number-requires g c = c.requires.ready.turn

pub value-requires : goal.value-requires
value-requires g c = record { turn = c.requires.ready.turn; value = (c.requires.ready.raised.0, c.requires.ready.raised.1) }

pub returns-clause-same : goal.returns-clause-same
returns-clause-same g c = same_desk c.args.self.now.turn c.value.result.now c.value.ensures.value

pub returns-clause-due : goal.returns-clause-due
returns-clause-due g c =
    due_along (of_value (λ k. g.M.Machine.kept k.machine) no_state c.args.self.now.turn) (g.M.Machine.kept c.value.result.now.machine)
    c.due_uncounted.result c.args.moment (number (pass_of c.args.self.now.turn)) c.pass-number.result
    (kept_is (λ k. g.M.Machine.kept k.machine) c.args.self.now.turn c.value.result.now c.value.ensures.value) c.pass-number.ensures c.due_uncounted.ensures
