use Rattle.std.proofs.Common.{arith}
use Rattle.std.proofs.lemmas.Grind.{common_steps}
use Rattle.bot_turns.proofs.child.look_at_child.Goals as goal

pub returns-in_ok-extend_from_slice-in-Ok-Output-clause-turn : goal.returns-in_ok-extend_from_slice-in-Ok-Output-clause-turn
returns-in_ok-extend_from_slice-in-Ok-Output-clause-turn g c = grind (arith, common_steps)

pub returns-in-Ok-Quiet-clause-turn : goal.returns-in-Ok-Quiet-clause-turn
returns-in-Ok-Quiet-clause-turn g c = grind (arith, common_steps)

pub returns-in-Ok-Ended-clause-turn : goal.returns-in-Ok-Ended-clause-turn
returns-in-Ok-Ended-clause-turn g c = grind (arith, common_steps)

pub returns-in-Err-clause-turn : goal.returns-in-Err-clause-turn
returns-in-Err-clause-turn g c = grind (arith, common_steps)
