use Rattle.std.proofs.Common.{arith, rules}
use Rattle.client_commands.proofs.Following.{paused}
use Rattle.client_commands.proofs.polls.pause.Goals as goal

pub returns-then-left-gt0 : goal.returns-then-left-gt0
returns-then-left-gt0 g c = λ server next dialer console files. paused c.args.every c.args.left (omega arith) c.wait.ensures.waited (search rules)
