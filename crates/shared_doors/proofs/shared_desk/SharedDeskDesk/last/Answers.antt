-- Nothing was written.
use Rattle.std.proofs.Common.{ap, sym, ◌∙◌}
use Rattle.swarm_model.specs.MachineState.{MachineState}
use Rattle.shared_doors.proofs.Desks.{kept_is, same_desk}
use Rattle.shared_doors.proofs.shared_desk.SharedDeskDesk.last.Goals as goal

pub value-requires : goal.value-requires
value-requires g c = record { turn = c.requires.ready.turn; value = (c.requires.ready.raised.0, c.requires.ready.raised.1) }

pub returns-clause-same : goal.returns-clause-same
returns-clause-same g c = same_desk c.args.self.now.turn c.value.result.now c.value.ensures.value

pub returns-clause-last : goal.returns-clause-last
returns-clause-last g c =
    let is = kept_is (λ k. g.M.Machine.kept k.machine) c.args.self.now.turn c.value.result.now c.value.ensures.value in
    c.last.ensures.last ∙ ap (λ (k : MachineState). k.pool.last) (sym is)
