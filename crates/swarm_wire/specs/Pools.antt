-- The pools of the settings, by their names.
use Rattle.std.specs.Prelude.{ℕ, ◌+◌, List, [], ◌∷◌, Option, Some, None, if◌then◌else◌}
use Rattle.dimensions.specs.Alike.{same}
use Rattle.swarm_model.specs.declared.pool_settings.PoolSettings.{PoolSettings}

-- the place of the first pool of the name, where the first of the list has this place
abbrev pub place_from : ℕ → List ℕ → List PoolSettings → Option ℕ
place_from place name [] = None
place_from place name (pool ∷ pools) = if same pool.name name then Some place else place_from (place + 1) name pools

unfoldable pub pool_place : List PoolSettings → List ℕ → Option ℕ
pool_place pools name = place_from 0 name pools
