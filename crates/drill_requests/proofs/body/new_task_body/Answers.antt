use Rattle.std.proofs.Common.{rules}
use mathlib.Core.List.{append_assoc}
use Rattle.drill_requests.specs.Texts.{new_task_text}
use Rattle.drill_requests.proofs.body.new_task_body.Goals as goal

pub returns : goal.returns
unfolding new_task_text
returns c = simp append_assoc (search rules)
