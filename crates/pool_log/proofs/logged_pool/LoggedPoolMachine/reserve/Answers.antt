-- The rows and the log stay, and what lies ready is the entry.
use Rattle.std.proofs.Common.{refl, sym, ◌∙◌, arith}
use Rattle.pool_log.specs.Invariant.{start_of}
use Rattle.pool_log.proofs.Logs.{kept_same, weighs_own, on_err, on_ok}
use Rattle.pool_log.proofs.logged_pool.LoggedPoolMachine.reserve.Goals as goal
use Rattle.pool_log.proofs.logged_pool.LoggedPoolMachine.reserve.Goals.{then-len-settings-via-then-len-settings, then-len-settings-via-else-len-settings+then-weight-from}

pub invariant_of-self : goal.invariant_of-self
invariant_of-self g c =
    elim c.then-len-settings.branch [
      | then-len-settings-via-then-len-settings w ↦ rw w.self-inside-is (kept_same _ _ _ _ c.self.inside _ c.self.invariant c.release.ensures.state refl refl refl (rw c.release.ensures.ready tt))
      | then-len-settings-via-else-len-settings+then-weight-from w ↦ rw w.self-inside-is (kept_same _ _ _ _ c.self.inside _ c.self.invariant c.release.ensures.state refl refl refl (rw c.release.ensures.ready tt))
    ]

pub invariant_of-self-then-is_err : goal.invariant_of-self-then-is_err
invariant_of-self-then-is_err g c =
    kept_same _ _ _ _ c.self.inside _ c.self.invariant c.release.ensures.state refl c.reserve.ensures.items refl (rw c.release.ensures.ready tt)

pub invariant_of-self-then-is_err-2 : goal.invariant_of-self-then-is_err-2
invariant_of-self-then-is_err-2 g c =
    let none = on_err c.reserve-else-is_err.result (sym c.is_err-else-is_err.ensures.value ∙ c.if-is_err-2.true) c.reserve-else-is_err.ensures.err in
    kept_same _ _ _ _ c.self.inside _ c.self.invariant (c.reserve-else-is_err.ensures.state ∙ c.release.ensures.state) refl c.reserve.ensures.items refl (rw none tt)

pub invariant_of-self-2 : goal.invariant_of-self-2
invariant_of-self-2 g c =
    let ready = on_ok c.reserve-else-is_err.result (sym c.is_err-else-is_err.ensures.value ∙ c.if-is_err-2.false) c.reserve-else-is_err.ensures.ok in
    let room = on_ok c.reserve.result (sym c.is_err.ensures.value ∙ c.if-is_err.false) c.reserve.ensures.ok in
    kept_same _ _ _ _ c.self.inside _ c.self.invariant (c.reserve-else-is_err.ensures.state ∙ c.release.ensures.state) refl c.reserve.ensures.items refl
    (rw ready (record {
      weighs = weighs_own (start_of c.self.inside) c.self.inside.log.items _ _ c.weight-weight.result c.self.inside.weight c.self.invariant.replay_of c.weight-weight.ensures (omega (arith, c.if-weight-from.false, c.from.ensures));
      room = omega (arith, room);
    }))
