use Rattle.std.proofs.Common.{rules}
use mathlib.Core.List.{append_assoc}
use Rattle.drill_requests.specs.Texts.{cancel_task_text}
use Rattle.drill_requests.proofs.body.cancel_task_body.Goals as goal

pub returns : goal.returns
unfolding cancel_task_text
returns c = simp append_assoc (search rules)
