use Rattle.std.proofs.Common.{◌≡◌, take, drop, []}
use Rattle.task_props.specs.ItemRules.{first_broken_item}
use Rattle.task_checks.proofs.item_rule.first_broken_item.Given as goal

abbrev pub invariant-loop-place : goal.invariant-loop-place
invariant-loop-place g l = first_broken_item (g.R.ItemRule.rule_of l.rule) [] l.items ≡ first_broken_item (g.R.ItemRule.rule_of l.rule) (take l.place l.items) (drop l.place l.items)
