use Rattle.std.proofs.Common.{arith, sym, ap, ◌∙◌, Option}
use Rattle.swarm_batch.specs.declared.faults.BatchRule.{BatchRule}
use Rattle.swarm_batch.specs.Broken.{first_broken, or_in}
use Rattle.swarm_batch.proofs.reading.read_lines.Goals as goal

pub returns-in-Some : goal.returns-in-Some
returns-in-Some c = (
  c.in_ok-cut.cut,
  rw c.in_ok-cut.was at c.cut_lines.ensures,
  ap (λ (o : Option BatchRule). or_in o 0 (first_broken 1 c.in_ok-cut.cut.lines)) (sym c.count_rule.ensures ∙ c.in-Some.is),
)

pub returns-in-Some-2 : goal.returns-in-Some-2
returns-in-Some-2 c = (
  c.in_ok-cut.cut,
  rw c.in_ok-cut.was at c.cut_lines.ensures,
  grind (arith, c.count_rule.ensures, c.in_default.is, c.in_default.not-Some, c.as_slice.ensures, c.first_broken_line.ensures, c.in_ok-line.was, c.in_ok-line.ensures, c.in-Some-2.is, c.in-Some-2.line-is, c.in-Some-2.rule-is),
)
