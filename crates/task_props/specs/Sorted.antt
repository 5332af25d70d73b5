-- The items of a slice's lists by themselves, and their order.
use Rattle.std.specs.Prelude.{Bool, false, ◌&&◌, ◌||◌, nat_le, List, [], ◌∷◌, is_none}
use Rattle.std.specs.List.{list_any}
use Rattle.std.specs.Cmp.Lexicographic.{slice_cmp}
use Rattle.std.specs.Ordering.{nat_cmp, ordering_then, is_lt}
use Rattle.std.specs.declared.cmp.Ordering.{Ordering}
use Rattle.task_props.specs.Types.{Text, Cache, File}
use Rattle.dimensions.specs.Order.{text_cmp, is_text_below}
use Rattle.task_props.specs.Digests.{is_digest}
use Rattle.task_props.specs.ItemRules.{env_key_rule, env_value_rule, cache_name_rule, has_path}
use Rattle.task_props.specs.Paths.{path_rule}

abbrev pub is_pair : Text × Text → Bool
is_pair pair = is_none (env_key_rule pair.0) && is_none (env_value_rule pair.1)

abbrev pub is_key_below : Text × Text → Text × Text → Bool
is_key_below a b = is_text_below a.0 b.0

abbrev pub is_path : Text → Bool
is_path path = is_none (path_rule path)

abbrev pub is_cache : Cache → Bool
is_cache cache = is_none (cache_name_rule cache.name) && is_path cache.path

-- a path stands again at a later cache
abbrev pub has_path_twice : List Cache → Bool
has_path_twice [] = false
has_path_twice (cache ∷ caches) = list_any (has_path cache.path) caches || has_path_twice caches

abbrev pub is_name_below : Cache → Cache → Bool
is_name_below a b = is_text_below a.name b.name

-- by name, then path
abbrev pub cache_cmp : Cache → Cache → Ordering
cache_cmp a b = ordering_then (text_cmp a.name b.name) (text_cmp a.path b.path)

abbrev pub is_cache_below : Cache → Cache → Bool
is_cache_below a b = is_lt (cache_cmp a b)

-- a file below a folder, of at most 16777216 bytes
abbrev pub is_file : File → Bool
is_file file = is_path file.path && (is_digest file.digest && nat_le file.size 16777216)

abbrev pub is_path_below : File → File → Bool
is_path_below a b = is_text_below a.path b.path

-- by path, then digest, then size
abbrev pub file_cmp : File → File → Ordering
file_cmp a b = ordering_then (text_cmp a.path b.path) (ordering_then (slice_cmp nat_cmp a.digest b.digest) (nat_cmp a.size b.size))

abbrev pub is_file_below : File → File → Bool
is_file_below a b = is_lt (file_cmp a b)
