-- What it means that no item of a list breaks a rule.
use Rattle.std.proofs.Common.{◌≡◌, ◌≤◌, List, [], ◌∷◌, ◌++◌, Bool, true, false, Option, None, refl}
use Rattle.std.specs.List.{All, count_by, list_any, list_all}
use Rattle.std.proofs.lemmas.List.{append-nil, append_assoc}
use Rattle.std.proofs.lemmas.List.Elements.{All-nil, All-cons}
use Rattle.dimensions.proofs.Choosing.{none-first, none-other}
use Rattle.dimensions.proofs.Counting.{count-push_le}
use Rattle.task_props.specs.declared.prop_rule.PropRule.{PropRule}
use Rattle.task_props.specs.declared.task_field.SliceField.{SliceField}
use Rattle.task_props.specs.ItemRules.{first_broken_item}

module _ {X : Type 0} (broken : List X → X → Option (SliceField × PropRule)) where
  -- what the rule asks of an item by itself holds of each
  pub all-unbroken : (P : X → Type 0) → ((earlier : List X) (item : X) → broken earlier item ≡ None → P item) → (earlier items : List X) → first_broken_item broken earlier items ≡ None → All P items
  all-unbroken P asks earlier [] none = All-nil P
  all-unbroken P asks earlier (item ∷ items) none =
      All-cons P item items (asks earlier item (none-first (broken earlier item) _ none)) (all-unbroken P asks (earlier ++ item ∷ []) items (none-other (broken earlier item) _ none))

  pub list_all-unbroken : (k : X → Bool) → ((earlier : List X) (item : X) → broken earlier item ≡ None → k item ≡ true) → (earlier items : List X) → first_broken_item broken earlier items ≡ None → list_all k items ≡ true
  list_all-unbroken k asks earlier [] none = refl
  list_all-unbroken k asks earlier (item ∷ items) none =
      rw (asks earlier item (none-first (broken earlier item) _ none)) (list_all-unbroken k asks (earlier ++ item ∷ []) items (none-other (broken earlier item) _ none))

  -- where the rule forbids a second one that passes, at most one passes
  pub count-unbroken : (k : X → Bool) → ((earlier : List X) (item : X) → broken earlier item ≡ None → k item ≡ true → list_any k earlier ≡ false) → (earlier items : List X) → count_by k earlier ≤ 1 → first_broken_item broken earlier items ≡ None → count_by k (earlier ++ items) ≤ 1
  count-unbroken k forbids earlier [] few none = rw append-nil few
  count-unbroken k forbids earlier (item ∷ items) few none =
      let here : broken earlier item ≡ None = none-first (broken earlier item) _ none in
      let next : count_by k (earlier ++ item ∷ []) ≤ 1 = count-push_le k earlier item few (forbids earlier item here) in
      rw append_assoc at (count-unbroken k forbids (earlier ++ item ∷ []) items next (none-other (broken earlier item) _ none))
