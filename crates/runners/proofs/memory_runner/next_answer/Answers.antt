use Rattle.runners.proofs.Taking.{taken_output}
use Rattle.runners.proofs.memory_runner.next_answer.Goals as goal

pub returns-then-at-output-clause-taken : goal.returns-then-at-output-clause-taken
returns-then-at-output-clause-taken c = taken_output c.args.at.now c.args.output.now c.args.answers.now.items c.if-at-output.true
