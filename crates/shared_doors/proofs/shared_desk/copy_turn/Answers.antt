-- The turn found what was copied, and was left as it was taken.
use Rattle.std.proofs.Common.{◌≡◌, IfOk, List, take, drop, sym, ap, subst, ◌∙◌}
use Rattle.swarm_model.specs.declared.entry.Entry.{Entry}
use Rattle.swarm_model.specs.Bases.{empty_base}
use Rattle.swarm_model.specs.History.{IsLegal}
use Rattle.turnstile.specs.Passes.{IsPassOf, IsRaised, IsTurn, fixed_of, lock_of, raised}
use Rattle.shared_doors.specs.Machines.{lasting_in, log_in}
use Rattle.shared_doors.proofs.Desks.{ready_first}
use Rattle.shared_doors.proofs.TurnsTaken.{turn_taken}
use Rattle.shared_doors.proofs.shared_desk.copy_turn.Goals as goal

pub copied-copied-requires : goal.copied-copied-requires
copied-copied-requires g c =
    let e = c.enter-turn.ensures in
    record {
      ready = ready_first (λ k. g.M.Machine.kept k.machine) g.K.Keeper.SURE c.enter-turn.result c.args.turnstile.now e.lock c.requires.sure e.turn c.requires.standing e.value;
    }

pub leave-requires : goal.leave-requires
leave-requires g c =
    let same = ap (λ d. d.turn) c.copied-copied.ensures.same in
    record {
      turn = subst (λ t. IsTurn (lasting_in g.M.Machine.kept) t) (sym same) c.enter-turn.ensures.turn;
      raised = subst (λ t. IsRaised (log_in g.M.Machine.kept) (lasting_in g.M.Machine.kept) t) (sym same) c.enter-turn.ensures.value;
    }

pub returns-clause-own : goal.returns-clause-own
returns-clause-own g c =
    let same = ap (λ d. d.turn) c.copied-copied.ensures.same in
    subst (λ l. IsPassOf (lasting_in g.M.Machine.kept) l c.leave.result) (ap (λ t. lock_of t) same ∙ c.enter-turn.ensures.lock) c.leave.ensures.own

pub returns-clause-copied : goal.returns-clause-copied
returns-clause-copied g c =
    let same = ap (λ d. d.turn) c.copied-copied.ensures.same in
    subst (λ (l : List Entry). IfOk c.copied-copied.result (λ entries. entries.items ≡ take c.args.most (drop c.args.from l)))
    (sym (c.leave.ensures.seen ∙ ap (λ t. raised t) same)) c.copied-copied.ensures.copied

pub returns-clause-turn : goal.returns-clause-turn
returns-clause-turn g c =
    let e = c.enter-turn.ensures in
    let lock = c.args.turnstile.now in
    turn_taken (empty_base (fixed_of (lasting_in g.M.Machine.kept) lock).settings).rows c.args.pass c.leave.result c.enter-turn.result c.copied-copied.new.self.turn
    (ap (λ d. d.turn) c.copied-copied.ensures.same) e.found e.joined e.same
    (subst (λ l. IsLegal (empty_base (fixed_of (lasting_in g.M.Machine.kept) l).settings).rows (raised c.enter-turn.result)) e.lock c.copied-copied.ensures.legal)
    c.leave.ensures.seen c.leave.ensures.same
