-- The rules on the lists of a slice's environment, caches and outputs: the first one that an item breaks.
use Rattle.std.specs.Prelude.{ℕ, Bool, not, ◌||◌, ◌==◌, nat_lt, List, [], ◌∷◌, ◌++◌, length, Option, None}
use Rattle.std.specs.List.{list_any, list_all}
use Rattle.std.specs.Option.{option_map}
use Rattle.std.specs.Char.{is_ascii_alphanumeric, is_ascii_lowercase, is_ascii_digit}
use Rattle.task_props.specs.Types.{Text, Cache, PropRule, SliceField}
use Rattle.dimensions.specs.Alike.{same}
use Rattle.dimensions.specs.Choosing.{when, ◌or_else◌}
use Rattle.dimensions.specs.Rules.{has_length_to, begins_with_digit}
use Rattle.task_props.specs.declared.prop_rule.PropRule.TheVariants as prop_rule
use Rattle.task_props.specs.declared.task_field.SliceField.TheVariants as slice_field
use Rattle.task_props.specs.FieldRules.{is_nul, broken_at}
use Rattle.task_props.specs.Paths.{path_rule}

-- a list of at most so many items
abbrev pub most_rule : ℕ → ℕ → Option PropRule
most_rule most count = when (nat_lt most count) prop_rule.Count

-- the first item that breaks a rule, where these items stand before it
abbrev pub first_broken_item : {A : Type 0} → (List A → A → Option (SliceField × PropRule)) → List A → List A → Option (SliceField × PropRule)
first_broken_item broken earlier [] = None
first_broken_item broken earlier (item ∷ items) = broken earlier item or_else first_broken_item broken (earlier ++ item ∷ []) items

-- ---- the environment

-- an ASCII letter or digit, or '_'
abbrev pub is_env_byte : ℕ → Bool
is_env_byte byte = is_ascii_alphanumeric byte || byte == 95

-- 1 to 64 letters, digits and '_', the first no digit
abbrev pub env_key_rule : Text → Option PropRule
env_key_rule key =
    when (not (has_length_to 64 key)) prop_rule.Count
    or_else when (not (list_all is_env_byte key) || begins_with_digit key) prop_rule.Grammar

-- at most 4096 bytes, none of them NUL
abbrev pub env_value_rule : Text → Option PropRule
env_value_rule value =
    when (nat_lt 4096 (length value)) prop_rule.Count
    or_else when (list_any is_nul value) prop_rule.Grammar

abbrev pub has_key : Text → Text × Text → Bool
has_key key pair = same pair.0 key

-- no key stands twice
abbrev pub broken_pair : List (Text × Text) → Text × Text → Option (SliceField × PropRule)
broken_pair earlier pair =
    option_map (broken_at (slice_field.EnvKey (length earlier))) (env_key_rule pair.0 or_else when (list_any (has_key pair.0) earlier) prop_rule.Repeated)
    or_else option_map (broken_at (slice_field.EnvValue (length earlier))) (env_value_rule pair.1)

-- at most 64 pairs
abbrev pub broken_env : List (Text × Text) → Option (SliceField × PropRule)
broken_env pairs =
    option_map (broken_at slice_field.Env) (most_rule 64 (length pairs))
    or_else first_broken_item broken_pair [] pairs

-- ---- caches

-- a lower-case ASCII letter, a digit or '_'
abbrev pub is_cache_byte : ℕ → Bool
is_cache_byte byte = is_ascii_lowercase byte || (is_ascii_digit byte || byte == 95)

-- 1 to 64 lower-case letters, digits and '_'
abbrev pub cache_name_rule : Text → Option PropRule
cache_name_rule name =
    when (not (has_length_to 64 name)) prop_rule.Count
    or_else when (not (list_all is_cache_byte name)) prop_rule.Grammar

abbrev pub has_name : Text → Cache → Bool
has_name name cache = same cache.name name

abbrev pub has_path : Text → Cache → Bool
has_path path cache = same cache.path path

-- no name and no path stands twice
abbrev pub broken_cache : List Cache → Cache → Option (SliceField × PropRule)
broken_cache earlier cache =
    option_map (broken_at (slice_field.CacheName (length earlier))) (cache_name_rule cache.name or_else when (list_any (has_name cache.name) earlier) prop_rule.Repeated)
    or_else option_map (broken_at (slice_field.CachePath (length earlier))) (path_rule cache.path or_else when (list_any (has_path cache.path) earlier) prop_rule.Repeated)

-- at most 8 caches
abbrev pub broken_caches : List Cache → Option (SliceField × PropRule)
broken_caches caches =
    option_map (broken_at slice_field.Caches) (most_rule 8 (length caches))
    or_else first_broken_item broken_cache [] caches

-- ---- outputs

-- no path stands twice
abbrev pub broken_output : List Text → Text → Option (SliceField × PropRule)
broken_output earlier path =
    option_map (broken_at (slice_field.Output (length earlier))) (path_rule path or_else when (list_any (same path) earlier) prop_rule.Repeated)

-- at most 64 paths
abbrev pub broken_outputs : List Text → Option (SliceField × PropRule)
broken_outputs paths =
    option_map (broken_at slice_field.Outputs) (most_rule 64 (length paths))
    or_else first_broken_item broken_output [] paths
