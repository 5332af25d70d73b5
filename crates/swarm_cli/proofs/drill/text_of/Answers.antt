use Rattle.std.proofs.Common.{rules}
use mathlib.Core.List.{append_assoc}
use Rattle.swarm_cli.specs.Drills.{drill_text}
use Rattle.swarm_cli.proofs.drill.text_of.Goals as goal

pub returns : goal.returns
unfolding drill_text
returns c = simp append_assoc (search rules)
