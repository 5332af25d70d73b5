-- Lists of items that were read, checked item by item.
use Rattle.std.specs.Prelude.{ℕ, nat_le, decimal, List, length, if◌then◌else◌, Result, Ok, Err}
use Rattle.task_props.specs.declared.prop_rule.PropRule.{PropRule}
use Rattle.task_props.specs.declared.prop_rule.PropRule.TheVariants.{Count}
use Rattle.task_props.specs.declared.prop_fault.PropFault.{PropFault}
use Rattle.json_fields.specs.Readings.{at, inside, each_from, ◌>>=◌}

-- an item at its place
abbrev pub checked_item : {A B : Type 0} → (A → Result B PropFault) → ℕ → A → Result B PropFault
checked_item check place raw = inside (decimal place) (check raw)

abbrev pub at_most : {A : Type 0} → ℕ → List A → Result (List A) PropRule
at_most most list = if nat_le (length list) most then Ok list else Err Count

-- the list of a key, of at most so many items
unfoldable pub checked_items : {A B : Type 0} → (A → Result B PropFault) → List ℕ → ℕ → List A → Result (List B) PropFault
checked_items check key most raws = do
  few ← at key (at_most most raws)
  inside key (each_from (checked_item check) 0 few)
