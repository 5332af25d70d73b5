-- Which settings a pool may have.
use Rattle.std.specs.Prelude.{ℕ, Bool, true, ◌+◌, ◌==◌, ◌&&◌, ◌||◌, nat_le, List, [], ◌∷◌, length, codes}
use Rattle.std.specs.List.{list_all, list_any}
use Rattle.dimensions.specs.Alike.{same}
use Rattle.dimensions.specs.Rules.{has_length_to, is_key_byte}
use Rattle.swarm_model.specs.Types.{Permission, PoolSettings}
use Rattle.swarm_model.specs.declared.pool_settings.Grant.{Grant}
use Rattle.swarm_model.specs.declared.pool_settings.Settings.{Settings}
use Rattle.swarm_model.specs.Permissions.{is_permission}
use Rattle.swarm_model.specs.Words.{is_between}

-- 1 to 64 ASCII letters, digits, '-', '_' and '.'
abbrev pub is_pool_name : List ℕ → Bool
is_pool_name name = has_length_to 64 name && list_all is_key_byte name

-- everyone, or 1 to 128 visible ASCII characters
abbrev pub is_caller : List ℕ → Bool
is_caller who = same who (codes "*") || (is_between 1 128 (length who) && list_all (is_between 33 126) who)

abbrev pub is_grant : Grant → Bool
is_grant grant = is_caller grant.caller

-- the settings of a pool keep their rules
abbrev pub keeps_rules : PoolSettings → Bool
keeps_rules p =
    nat_le p.place 3
    && (is_pool_name p.name
    && (nat_le p.reuse_age_secs 31536000
    && (is_between 60 2592000 p.death_timeout_secs
    && (is_between 60 31536000 p.blob_life_secs
    && (is_between 1 4194304 p.store_units
    && (is_between 1 262144 p.most_tasks
    && (is_between 1 4096 p.most_bots
    && (is_between 1 4194304 p.most_entries
    && (is_between 1 134217728 p.most_weight
    && (nat_le p.retries 1
    && (nat_le (length p.grants) 256 && list_all is_grant p.grants)))))))))))

-- the pools stand in the order of their places, from this one on
abbrev pub are_placed : ℕ → List PoolSettings → Bool
are_placed place [] = true
are_placed place (p ∷ pools) = p.place == place && are_placed (place + 1) pools

-- one to four pools, in their order, each of which keeps its rules
abbrev pub are_settings : Settings → Bool
are_settings settings =
    is_between 1 4 (length settings.pools) && (list_all keeps_rules settings.pools && are_placed 0 settings.pools)

-- the grant is for this caller or for every one, and lists the permission
abbrev pub gives : List ℕ → Permission → Grant → Bool
gives who wanted grant =
    (same grant.caller who || same grant.caller (codes "*")) && list_any (is_permission wanted) grant.permissions

-- a caller has a permission in the pool
abbrev pub permits : PoolSettings → List ℕ → Permission → Bool
permits settings who wanted = list_any (gives who wanted) settings.grants
