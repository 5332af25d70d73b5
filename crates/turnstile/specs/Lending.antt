-- A pass and a turn, after a write to the value that is with them.
use Rattle.atomic_table.specs.Lent.{seat_with}
use Rattle.turnstile.specs.declared.pass.Pass.{Pass}
use Rattle.turnstile.specs.declared.turn.Turn.{Turn}

module _ {V I F : Type 0} where
  abbrev pub pass_with : Pass V I F → V → Pass V I F
  pass_with p x = record p { seat = seat_with p.seat 0 x }

  abbrev pub turn_with : Turn V I F → V → Turn V I F
  turn_with t x = record t { pass = pass_with t.pass x }
