-- Nothing was written.
use Rattle.std.proofs.Common.{subst}
use Rattle.swarm_model.specs.MachineState.{MachineState}
use Rattle.pool_laws.specs.NamedBlobs.{HasNamed}
use Rattle.shared_doors.proofs.Desks.{kept_is, same_desk, standing_is}
use Rattle.shared_doors.proofs.Standing.{held_when}
use Rattle.shared_doors.proofs.shared_desk.SharedDeskDesk.pieces.Goals as goal

pub value-requires : goal.value-requires
value-requires g c = record { turn = c.requires.ready.turn; value = (c.requires.ready.raised.0, c.requires.ready.raised.1) }

pub pieces_of-requires : goal.pieces_of-requires
pieces_of-requires g c =
    let t = c.args.self.now.turn in
    let v = c.value.result.now in
    record {
      held = held_when (g.M.Machine.kept v.machine) (standing_is (λ k. g.M.Machine.kept k.machine) g.K.Keeper.SURE t c.requires.ready v c.value.ensures.value).1;
      present = subst (λ (k : MachineState). HasNamed k.pool c.args.reply.now) (kept_is (λ k. g.M.Machine.kept k.machine) t v c.value.ensures.value) c.requires.present;
    }

pub returns-clause-same : goal.returns-clause-same
returns-clause-same g c = same_desk c.args.self.now.turn c.value.result.now c.value.ensures.value
