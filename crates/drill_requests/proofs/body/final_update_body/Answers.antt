use Rattle.std.proofs.Common.{rules}
use mathlib.Core.List.{append_assoc}
use Rattle.drill_requests.specs.Texts.{final_update_text}
use Rattle.drill_requests.proofs.body.final_update_body.Goals as goal

pub returns : goal.returns
unfolding final_update_text
returns c = simp append_assoc (search rules)
