-- The canonical text has no float.
use Rattle.std.proofs.Common.{◌≡◌, List, [], ◌∷◌, false, refl}
use Rattle.serde_json.specs.Data.{Data, string}
use Rattle.serde_json.specs.Written.{has_float, members_have_float}
use Rattle.json_values.specs.Values.{list_data}
use Rattle.task_props.specs.declared.properties.Properties.{Properties}
use Rattle.task_props.specs.Canonical.{pair_data, cache_data, input_data, canonical_data}
use Rattle.task_props.specs.Shown.{later_members, properties_with}

plain_items : {A : Type 0} (show : A → Data) → ((a : A) → has_float (show a) ≡ false) → (list : List A) → has_float (list_data show list) ≡ false
plain_items show h [] = refl
plain_items show h (a ∷ list) = rw (h a, plain_items show h list) refl

later_are_plain : (inputs : Data) → has_float inputs ≡ false → (p : Properties) → members_have_float (later_members inputs p) ≡ false
unfolding later_members
later_are_plain inputs h p = rw (h, plain_items string (λ _. refl) p.outputs) refl

-- where the lists that are given have no float
pub properties_are_plain
    : (caches dimensions env inputs : Data) → has_float caches ≡ false → has_float dimensions ≡ false → has_float env ≡ false → has_float inputs ≡ false
    → (p : Properties) → has_float (properties_with caches dimensions env inputs p) ≡ false
unfolding properties_with
properties_are_plain caches dimensions env inputs c d e i p = rw (c, plain_items string (λ _. refl) p.command, d, e, later_are_plain inputs i p) refl

pub canonical_is_plain : (p : Properties) → has_float (canonical_data p) ≡ false
canonical_is_plain p =
    properties_are_plain _ _ _ _
    (plain_items cache_data (λ _. refl) p.caches)
    (plain_items pair_data (λ _. refl) p.dimensions)
    (plain_items pair_data (λ _. refl) p.env)
    (plain_items input_data (λ _. refl) p.inputs)
    p
