use Rattle.client_commands.specs.Requests.{tasks_call}
use Rattle.client_commands.proofs.tasks.list_tasks.Goals as goal

pub returns : goal.returns
returns g c = λ aside. c.print_answer.ensures (tasks_call c.args.pool.now c.args.state c.args.limit) aside c.tasks_post-post.ensures
