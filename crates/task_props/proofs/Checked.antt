-- What is known of a checked task.
use Rattle.std.proofs.Common.{◌≡◌, ℕ, ◌≤◌, ◌&&◌, not, Bool, true, false, length, leb-true}
use Rattle.std.specs.Prelude.{nat_le, is_none}
use Rattle.std.proofs.lemmas.Bool.{and_parts}
use Rattle.dimensions.specs.Choosing.{when}
use Rattle.task_props.specs.declared.prop_rule.PropRule.TheVariants as prop_rule
use Rattle.task_props.specs.declared.new_task.NewTask.{NewTask}
use Rattle.task_props.specs.FieldRules.{count_rule}
use Rattle.task_props.specs.Checked.{is_checked, is_sound_slice}
use Rattle.task_props.specs.Slices.{slices_rule}
use Rattle.std.specs.List.{list_all}

within : (b : Bool) → is_none (when (not b) prop_rule.Count) ≡ true → b ≡ true
within true h = h
within false h = absurd (cc (h))

counted : (most n : ℕ) → is_none (count_rule most n) ≡ true → (1 ≤ n) × (n ≤ most)
counted most n h = let two = and_parts _ _ (within (nat_le 1 n && nat_le n most) h) in (leb-true 1 n two.0, leb-true n most two.1)

-- it has 1 to 8 slices
pub slices_counted : (task : NewTask) → is_checked task ≡ true → (1 ≤ length task.task_slices) × (length task.task_slices ≤ 8)
slices_counted task h =
    let fields = (and_parts _ (is_none (slices_rule task.task_slices)) h).0 in
    counted 8 (length task.task_slices) (and_parts _ _ (and_parts _ (list_all is_sound_slice task.task_slices) fields).0).1
