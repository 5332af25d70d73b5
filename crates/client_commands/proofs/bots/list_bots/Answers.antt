use Rattle.client_commands.specs.Requests.{bots_call}
use Rattle.client_commands.proofs.bots.list_bots.Goals as goal

pub returns : goal.returns
returns g c = λ aside. c.print_answer.ensures (bots_call c.args.pool.now c.args.limit) aside c.bots_post-post.ensures
