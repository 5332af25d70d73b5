use Rattle.std.proofs.Common.{rules, ◌-◌, arith}
use Rattle.client_commands.proofs.Following.{through, polled_on, polled_last, polled_end, polls_used_up}
use Rattle.client_commands.proofs.polls.await_end.Goals as goal

pub polls-init : goal.polls-init
polls-init g c = λ id files next posts v status f. f

pub returns-in-Err : goal.returns-in-Err
returns-in-Err g c = λ id files next posts. c.polls.invariant id files next posts _ _ (polled_end id c.args.every next c.polls.left (c.polls.left - 1) (omega arith) (λ other. c.in-Err.ensures id _ other posts))

pub returns-then-is_final : goal.returns-then-is_final
returns-then-is_final g c = λ id files next posts. through (c.polls.invariant id files next posts) (polled_last id c.args.every next c.polls.left (c.polls.left - 1) (omega arith) (λ other. c.in-Ok.ensures id _ other posts) (search rules))

pub polls-preserved : goal.polls-preserved
polls-preserved g c = λ id files next posts. through (c.polls.invariant id files next posts) (through (polled_on id c.args.every next c.polls.left (c.polls.left - 1) (omega arith) (λ other. c.in-Ok.ensures id _ other posts) (search rules)) (c.pause.ensures _ _ _ _ _))

pub returns : goal.returns
returns g c = λ id files next posts. c.polls.invariant id files next posts _ _ (polls_used_up id c.args.every next c.polls.left _ (omega arith))
