use Rattle.std.proofs.Common.{rules}
use Rattle.client_commands.specs.Plans.{say, end, lacks_memory}
use Rattle.client_commands.proofs.Following.{told_none}
use Rattle.client_commands.proofs.once.print_reply.Goals as goal

pub returns-in-Ok-None : goal.returns-in-Ok-None
returns-in-Ok-None g c = λ server dialer aside. told_none (λ t. say t (end 0)) (g.S.ShowReply.text c.args.shown.now c.args.place c.args.reply.now) (search rules)

pub returns-in-Err : goal.returns-in-Err
returns-in-Err g c = λ server dialer aside. lacks_memory _ _
