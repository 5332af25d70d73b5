-- The scan comes to the first of the bots that are listed.
use Rattle.std.proofs.Common.{arith}
use Rattle.std.proofs.lemmas.Grind.{common_steps}
use Rattle.swarm_plain.proofs.NextBot.{first_listed}
use Rattle.swarm_plain.proofs.pages.next_bot.Goals as goal

pub returns : goal.returns
returns c = rw (first_listed c.args.name.now c.args.bots.now) (grind (arith, common_steps))
