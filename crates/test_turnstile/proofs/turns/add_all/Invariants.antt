use Rattle.std.proofs.Common.{◌≡◌, ◌+◌}
use Rattle.turnstile.specs.Passes.{IsPassOf, turns}
use Rattle.test_turnstile.proofs.turns.add_all.Given as goal

abbrev pub invariant-loop-item : goal.invariant-loop-item
invariant-loop-item g l = IsPassOf (λ j. j.title) l.lock l.pass × (turns l.pass ≡ turns l.fn.pass + l.item)
