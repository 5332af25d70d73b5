-- Nothing was written.
use Rattle.std.proofs.Common.{ap, sym, subst, ◌∙◌}
use Rattle.swarm_model.specs.Bases.{front}
use Rattle.swarm_model.specs.MachineState.{MachineState, IsHistory}
use Rattle.shared_doors.proofs.Desks.{kept_is, same_desk}
use Rattle.shared_doors.proofs.shared_desk.SharedDeskDesk.length.Goals as goal

pub value-requires : goal.value-requires
value-requires g c = record { turn = c.requires.ready.turn; value = (c.requires.ready.raised.0, c.requires.ready.raised.1) }

pub returns-clause-same : goal.returns-clause-same
returns-clause-same g c = same_desk c.args.self.now.turn c.value.result.now c.value.ensures.value

pub returns-clause-length : goal.returns-clause-length
returns-clause-length g c =
    let is = kept_is (λ k. g.M.Machine.kept k.machine) c.args.self.now.turn c.value.result.now c.value.ensures.value in
    c.length.ensures.length ∙ ap (λ (k : MachineState). front k.start k.log) (sym is)

pub returns-clause-history : goal.returns-clause-history
returns-clause-history g c =
    let is = kept_is (λ k. g.M.Machine.kept k.machine) c.args.self.now.turn c.value.result.now c.value.ensures.value in
    subst IsHistory (sym is) c.length.ensures.history
