-- Nothing was written.
use Rattle.std.proofs.Common.{◌≡◌, IfOk, List, take, drop, subst}
use Rattle.swarm_model.specs.declared.entry.Entry.{Entry}
use Rattle.shared_doors.proofs.Desks.{legal_is, log_is, nothing_led, same_desk}
use Rattle.shared_doors.proofs.shared_desk.SharedDesk.copied.Goals as goal

pub value-requires : goal.value-requires
value-requires g c = record { turn = c.requires.ready.turn; value = (c.requires.ready.raised.0, c.requires.ready.raised.1) }

pub copy_log-requires : goal.copy_log-requires
copy_log-requires g c = record {
  first = nothing_led (λ k. g.M.Machine.kept k.machine) g.K.Keeper.SURE c.args.self.now.turn c.requires.ready c.value.result.now c.value.ensures.value;
}

pub returns-clause-same : goal.returns-clause-same
returns-clause-same g c = same_desk c.args.self.now.turn c.value.result.now c.value.ensures.value

pub returns-clause-copied : goal.returns-clause-copied
returns-clause-copied g c =
    subst (λ (l : List Entry). IfOk c.copy_log.result (λ entries. entries.items ≡ take c.args.most (drop c.args.from l)))
    (log_is (λ k. g.M.Machine.kept k.machine) g.K.Keeper.SURE c.args.self.now.turn c.requires.ready c.value.result.now c.value.ensures.value)
    c.copy_log.ensures.copied

pub returns-clause-legal : goal.returns-clause-legal
returns-clause-legal g c =
    legal_is (λ k. g.M.Machine.kept k.machine) g.K.Keeper.SURE c.args.self.now.turn c.requires.ready c.value.result.now c.value.ensures.value
    c.copy_log.ensures.history
