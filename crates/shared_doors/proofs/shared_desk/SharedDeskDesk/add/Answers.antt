-- The entry is added and raised, or the log stays.
use Rattle.std.proofs.Common.{IsTrue, is_some, sym, subst}
use Rattle.std.proofs.lemmas.Result.{err_from_is_err_and}
use Rattle.swarm_model.specs.Bytes.{new_digest}
use Rattle.swarm_model.specs.History.{MayFollow}
use Rattle.swarm_model.specs.MachineState.{MachineState, IsHistory}
use Rattle.swarm_history.specs.Settling.{IsUnchanged}
use Rattle.turnstile.specs.Passes.{of_value}
use Rattle.turnstile.proofs.Lending.{IsTurn-turn_with}
use Rattle.shared_doors.specs.Desks.{no_state}
use Rattle.shared_doors.specs.Machines.{lasting_in}
use Rattle.shared_doors.proofs.Desks.{adds_along, grown, kept_is, kept_raised, ready_raised, ready_still, rest_is, short_is, standing_is}
use Rattle.shared_doors.proofs.shared_desk.SharedDeskDesk.add.Goals as goal

pub value-requires : goal.value-requires
value-requires g c = record { turn = c.requires.ready.turn; value = (c.requires.ready.raised.0, c.requires.ready.raised.1) }

pub add-requires : goal.add-requires
add-requires g c =
    let t = c.args.self.now.turn in
    let v = c.value.result.now in
    let is = kept_is (λ k. g.M.Machine.kept k.machine) t v c.value.ensures.value in
    record {
      sure = c.requires.ready.is_sure;
      standing = standing_is (λ k. g.M.Machine.kept k.machine) g.K.Keeper.SURE t c.requires.ready v c.value.ensures.value;
      follows = subst (λ (k : MachineState). MayFollow k.pool c.args.entry) is c.requires.follows;
      history = subst IsHistory is c.requires.history;
      brings = c.requires.brings;
      whole = subst (λ (k : MachineState). IsTrue (is_some (new_digest k.pool c.args.entry.kind)) → IsTrue (is_some c.args.bytes)) is c.requires.whole;
    }

pub returns-in_err-add-clause-ready : goal.returns-in_err-add-clause-ready
returns-in_err-add-clause-ready g c =
    ready_still (λ k. g.M.Machine.kept k.machine) g.K.Keeper.SURE c.args.self.now.turn c.requires.ready c.value.result.now c.value.ensures.value
    c.add.new.self c.in_err-add.ensures.stays c.add.ensures.lasting

pub returns-in_err-add-clause-stays : goal.returns-in_err-add-clause-stays
returns-in_err-add-clause-stays g c =
    let is = kept_is (λ k. g.M.Machine.kept k.machine) c.args.self.now.turn c.value.result.now c.value.ensures.value in
    let p = err_from_is_err_and c.from_residual.result c.from_residual.ensures.1 in
    rw p.1 (subst (λ (k : MachineState). IsUnchanged k (g.M.Machine.kept c.add.new.self.machine)) (sym is) c.in_err-add.ensures.stays)

pub raise-requires : goal.raise-requires
raise-requires g c =
    let t = c.args.self.now.turn in
    let v = c.value.result.now in
    let w = c.add.new.self in
    record {
      turn = IsTurn-turn_with (lasting_in g.M.Machine.kept) t w c.requires.ready.turn;
      grown = grown (λ k. g.M.Machine.kept k.machine) g.K.Keeper.SURE t c.requires.ready v c.value.ensures.value w c.args.entry c.in_ok-add.ensures.added c.requires.number;
      short = short_is (λ k. g.M.Machine.kept k.machine) g.K.Keeper.SURE t c.requires.ready v c.value.ensures.value c.in_ok-add.ensures.short;
    }

pub returns-clause-ready : goal.returns-clause-ready
returns-clause-ready g c =
    ready_raised (λ k. g.M.Machine.kept k.machine) g.K.Keeper.SURE c.args.self.now.turn c.requires.ready c.value.result.now c.value.ensures.value
    c.add.new.self c.raise.new.self c.raise.ensures.raised c.raise.ensures.turn c.raise.ensures.lock c.add.ensures.lasting

pub returns-clause-added : goal.returns-clause-added
returns-clause-added g c =
    let t = c.args.self.now.turn in
    let v = c.value.result.now in
    let w = c.add.new.self in
    let next = c.raise.new.self in
    adds_along (of_value (λ k. g.M.Machine.kept k.machine) no_state t) (of_value (λ k. g.M.Machine.kept k.machine) no_state next)
    (g.M.Machine.kept v.machine) (g.M.Machine.kept w.machine) c.args.entry
    (kept_is (λ k. g.M.Machine.kept k.machine) t v c.value.ensures.value)
    (kept_raised (λ k. g.M.Machine.kept k.machine) g.K.Keeper.SURE t c.requires.ready v c.value.ensures.value w next c.raise.ensures.raised)
    c.in_ok-add.ensures.added

pub returns-clause-rest : goal.returns-clause-rest
returns-clause-rest g c =
    let s = c.raise.ensures.same in
    rest_is c.args.self.now.turn c.raise.new.self c.raise.ensures.lock s.0 s.1 s.2
