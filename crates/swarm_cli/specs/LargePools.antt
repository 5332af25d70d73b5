-- Pools that are too large for boards, which take copies of a pool's rows.
use Rattle.std.specs.Prelude.{ℕ, nat_lt, List, [], ◌∷◌, ◌++◌, codes, decimal, if◌then◌else◌, Option, Some, None, option_map}
use Rattle.std.specs.Option.{option_or}
use Rattle.swarm_model.specs.declared.pool_settings.PoolSettings.{PoolSettings}

-- the first key at which a pool is too large for boards
abbrev pub large_key : PoolSettings → Option (List ℕ)
large_key pool =
    if nat_lt 65536 pool.most_tasks then Some (codes "most_tasks")
    else (if nat_lt 1048576 pool.most_entries then Some (codes "most_entries")
    else (if nat_lt 33554432 pool.most_weight then Some (codes "most_weight")
    else None))

-- a key of the pool at this place, as a place of the settings
abbrev pub key_path : ℕ → List ℕ → List ℕ
key_path place key = codes "pools." ++ (decimal place ++ (codes "." ++ key))

-- that of the first pool that is too large, at the first such key
abbrev pub large_path : List PoolSettings → Option (List ℕ)
large_path [] = None
large_path (pool ∷ pools) = option_or (option_map (key_path pool.place) (large_key pool)) (large_path pools)
