use Rattle.client_commands.specs.Requests.{cancel_call}
use Rattle.client_commands.proofs.canceling.cancel.Goals as goal

pub returns : goal.returns
returns g c = λ aside. c.print_answer.ensures (cancel_call c.args.id.now c.args.kill) aside c.cancel_post-post.ensures
