use Rattle.std.proofs.Common.{arith}
use Rattle.std.proofs.lemmas.Grind.{common_steps}
use Rattle.bot_turns.proofs.claiming.take_claim.Goals as goal

pub returns-in-NoReply : goal.returns-in-NoReply
returns-in-NoReply c = grind (arith, common_steps)
