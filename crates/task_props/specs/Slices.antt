-- The rules on the slices of a task as a whole.
use Rattle.std.specs.Prelude.{Bool, false, not, ◌||◌, List, [], ◌∷◌, Option}
use Rattle.std.specs.List.{list_any, list_all}
use Rattle.task_props.specs.Types.{Text, PropRule, Repeated, Pool, Slice}
use Rattle.dimensions.specs.Alike.{same}
use Rattle.dimensions.specs.Choosing.{when, ◌or_else◌}
use Rattle.dimensions.specs.Rules.{pool_of}
use Rattle.task_props.specs.Alike.{same_properties}

-- whatever their expirations, and whether they wait
abbrev pub is_like : Slice → Slice → Bool
is_like a b = same_properties a.properties b.properties

-- a slice is like a later one
abbrev pub has_repeated : List Slice → Bool
has_repeated [] = false
has_repeated (slice ∷ slices) = list_any (is_like slice) slices || has_repeated slices

-- the pool of the first slice
abbrev pub pool_of_slices : List Slice → Text
pool_of_slices [] = []
pool_of_slices (slice ∷ slices) = pool_of slice.properties.dimensions

abbrev pub is_of_pool : Text → Slice → Bool
is_of_pool pool slice = same (pool_of slice.properties.dimensions) pool

abbrev pub are_of_one_pool : List Slice → Bool
are_of_one_pool slices = list_all (is_of_pool (pool_of_slices slices)) slices

-- no two slices are alike, and all are of one pool
abbrev pub slices_rule : List Slice → Option PropRule
slices_rule slices =
    when (has_repeated slices) Repeated
    or_else when (not (are_of_one_pool slices)) Pool
