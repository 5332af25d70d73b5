use Rattle.std.proofs.Common.{rules}
use Rattle.client_commands.specs.Commands.{viewed, task_in}
use Rattle.client_commands.specs.Requests.{result_call}
use Rattle.client_commands.proofs.Following.{told_some, told_none}
use Rattle.client_commands.proofs.polls.poll.Goals as goal

pub returns-in-Some : goal.returns-in-Some
returns-in-Some g c = λ id aside next posts v status f.
    c.in-Ok.ensures (result_call id) aside posts (viewed next) v status (told_some next (task_in c.in-Ok.answer.reply) c.in-Some.task (search rules) f)

pub returns-in-Ok : goal.returns-in-Ok
returns-in-Ok g c = λ id aside next posts.
    c.in-Ok.ensures (result_call id) aside posts (viewed next) _ _ (told_none next (task_in c.in-Ok.answer.reply) (search rules))

pub returns : goal.returns
returns g c = λ id aside next posts. c.in-Err.ensures (result_call id) aside posts (viewed next)
