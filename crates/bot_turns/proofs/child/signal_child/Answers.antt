use Rattle.std.proofs.Common.{sym, ap}
use Rattle.bot_turns.specs.ChildTurns.{signal_event}
use Rattle.bot_turns.proofs.child.signal_child.Goals as goal

pub returns-in-Ok-clause-turn : goal.returns-in-Ok-clause-turn
returns-in-Ok-clause-turn g c = record { answer = c.signal.result; signals = c.signal.ensures; event = sym (ap signal_event c.in-Ok.is) }

pub returns-in-Err-clause-turn : goal.returns-in-Err-clause-turn
returns-in-Err-clause-turn g c = record { answer = c.signal.result; signals = c.signal.ensures; event = sym (ap signal_event c.in-Err.is) }
