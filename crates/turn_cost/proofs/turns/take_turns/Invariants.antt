use Rattle.std.proofs.Common.{◌≡◌, ◌+◌}
use Rattle.turnstile.specs.Passes.{IsPassOf, turns}
use Rattle.turn_cost.proofs.turns.take_turns.Given as goal

abbrev pub invariant-loop-turn : goal.invariant-loop-turn
invariant-loop-turn g l = IsPassOf (λ j. j.title) l.lock l.pass × (turns l.pass ≡ turns l.fn.pass + l._turn)
