-- The settings of a board of one pool, and the base from which its log begins.
use Rattle.std.proofs.Common.{◌≡◌, List, [], ◌∷◌, length, refl, ap, subst, arith}
use Rattle.pool_laws.proofs.BaseLaws.{opening_base}
use Rattle.swarm_model.specs.declared.pool_settings.PoolSettings.{PoolSettings}
use Rattle.swarm_model.specs.declared.pool_state.PoolState.{PoolState}
use Rattle.swarm_model.specs.BaseRules.{IsBase}
use Rattle.swarm_model.specs.Bases.{Base}
use Rattle.swarm_history.specs.Machines.{no_pool}
use Rattle.shared_doors.specs.SharedDoors.{start_of}
use Rattle.pool_views.specs.Views.{Known, pools_of}
use Rattle.board_sessions.specs.Boards.{KeepsViews}
use Rattle.std.specs.Prelude.{slice_index_or}

-- a connection leaves the settings as they are
pub same_pools : (old new : List Known) → KeepsViews old new → pools_of new ≡ pools_of old
same_pools [] [] keeps = refl
same_pools [] (w ∷ ws) keeps = absurd keeps
same_pools (v ∷ vs) [] keeps = absurd keeps
same_pools (v ∷ vs) (w ∷ ws) keeps =
    let here = ap (λ (b : Base). b.rows.settings) keeps.0.start in
    let rest = same_pools vs ws keeps.1 in
    rw (here, rest) refl

-- the one pool is that whose log begins there
pub only_pool : (pools : List PoolSettings) → length pools ≡ 1 → pools ≡ (start_of pools 0).rows.settings ∷ []
only_pool [] one = absurd (omega (arith, one))
only_pool (pool ∷ []) one = refl
only_pool (pool ∷ other ∷ pools) one = absurd (omega (arith, one))

-- its log begins from a base, to which nothing led
pub starts_from : (pools : List PoolSettings) (rows : PoolState) → start_of pools 0 ≡ record { rows = rows; count = 0 } → IsBase rows.settings 0 rows
starts_from pools rows is =
    subst (λ (b : Base). IsBase b.rows.settings 0 b.rows) is (opening_base (slice_index_or pools 0 no_pool) 0 (omega arith))
