-- Pools with grants.
use Rattle.std.specs.Prelude.{ℕ, List, [], ◌∷◌}
use Rattle.swarm_model.specs.declared.permission.Permission.{Permission}
use Rattle.swarm_model.specs.declared.pool_settings.PoolSettings.{PoolSettings}
use Rattle.swarm_model.specs.Examples.{settings}

-- a pool with one grant
abbrev pub granting : List ℕ → Permission → PoolSettings
granting who permission = record settings { grants = (record { caller = who; permissions = permission ∷ [] }) ∷ [] }
