use Rattle.std.proofs.Common.{rules}
use Rattle.turnstile.proofs.Keeps.{awaits, same_first}
use Rattle.turnstile.proofs.Passes.{with_none}
use Rattle.turnstile.proofs.turnstile.Turnstile.await_turn.Goals as goal

pub load-served-requires : goal.load-served-requires
load-served-requires g c =
    let w = c.requires.waits in
    (search rules, search rules, rw (with_none _ _ _ c.loop.invariant.1 w.0) (awaits _ _ _ _ g.V.Counted.fixed _ _ _ (λ y b. same_first _ _ c.requires.first (g.V.Counted.fixed y) b) w.1 w.2 w.3))
