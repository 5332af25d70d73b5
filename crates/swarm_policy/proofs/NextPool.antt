-- Pools that are read one by one: what a pool that was read keeps, and the pools with it.
use Rattle.std.proofs.Common.{◌≡◌, ℕ, ◌+◌, ◌<◌, List, [], ◌∷◌, ◌++◌, length, refl, ◌∙◌, Bool, true, false, arith}
use Rattle.std.specs.Prelude.{◌&&◌, ◌==◌, nat_le, not}
use Rattle.std.specs.List.{list_all, list_any}
use Rattle.std.proofs.lemmas.Bool.{and_from, and_parts, or_from, or_parts, not-true, not_from_false, eqb-true, eq-eqb, le-leb}
use Rattle.std.proofs.lemmas.List.Folds.{list_all-append, list_any-append}
use Rattle.swarm_model.specs.declared.pool_settings.PoolSettings.{PoolSettings}
use Rattle.swarm_model.specs.Settings.{are_placed, is_pool_name, keeps_rules}
use Rattle.swarm_policy.specs.Grants.{are_grants}
use Rattle.swarm_policy.specs.declared.limits.Limit.TheVariants as limit
use Rattle.swarm_policy.specs.Limits.{is_within}
use Rattle.swarm_policy.specs.Pools.{are_pools, has_name, have_own_names, is_new, is_next_pool}

all-more : {X : Type 0} (t : X → Bool) (xs : List X) (x : X) → list_all t xs ≡ true → t x ≡ true → list_all t (xs ++ x ∷ []) ≡ true
all-more t xs x all one = list_all-append t xs (x ∷ []) ∙ and_from _ _ all (and_from _ _ one refl)

none-more : {X : Type 0} (t : X → Bool) (xs : List X) (x : X) → list_any t xs ≡ false → t x ≡ false → list_any t (xs ++ x ∷ []) ≡ false
none-more t xs x none other = list_any-append t xs (x ∷ []) ∙ or_from _ _ none (or_from _ _ other refl)

placed-more : (place : ℕ) (pools : List PoolSettings) (p : PoolSettings) → are_placed place pools ≡ true → p.place ≡ place + length pools → are_placed place (pools ++ p ∷ []) ≡ true
placed-more place [] p placed at = and_from _ _ (eq-eqb p.place place (omega (arith, at))) refl
placed-more place (q ∷ pools) p placed at =
    let k = and_parts (q.place == place) (are_placed (place + 1) pools) placed in
    and_from _ _ k.0 (placed-more (place + 1) pools p k.1 (omega (arith, at)))

own_names-more : (pools : List PoolSettings) (p : PoolSettings) → have_own_names pools ≡ true → is_new pools p.name ≡ true → have_own_names (pools ++ p ∷ []) ≡ true
own_names-more [] p own new = refl
own_names-more (q ∷ pools) p own new =
    let k = and_parts (not (list_any (λ other. has_name other.name q) pools)) (have_own_names pools) own in
    let n = or_parts (has_name p.name q) (list_any (has_name p.name) pools) (not-true _ new) in
    and_from _ _
    (not_from_false _ (none-more (λ other. has_name other.name q) pools p (not-true _ k.0) n.0))
    (own_names-more pools p k.1 (not_from_false _ n.1))

pub no_pools : are_pools [] ≡ true
unfolding are_pools
no_pools = refl

-- the pools so far, and a next one
pub with_next_pool : (pools : List PoolSettings) (p : PoolSettings) → are_pools pools ≡ true → is_next_pool pools p ≡ true → are_pools (pools ++ p ∷ []) ≡ true
unfolding are_pools is_next_pool
with_next_pool pools p are next =
    let a = and_parts (list_all keeps_rules pools) (are_placed 0 pools && have_own_names pools) are in
    let b = and_parts (are_placed 0 pools) (have_own_names pools) a.1 in
    let m = and_parts (keeps_rules p) (p.place == length pools && is_new pools p.name) next in
    let k = and_parts (p.place == length pools) (is_new pools p.name) m.1 in
    let at = eqb-true p.place (length pools) k.0 in
    and_from _ _ (all-more keeps_rules pools p a.0 m.0)
    (and_from _ _ (placed-more 0 pools p b.0 (omega (arith, at))) (own_names-more pools p b.1 k.1))

-- a pool whose parts keep their rules, behind fewer than four
pub next_pool : (before : List PoolSettings) (p : PoolSettings)
    → length before < 4
    → p.place ≡ length before
    → is_pool_name p.name ≡ true
    → is_new before p.name ≡ true
    → is_within limit.ReuseAgeSecs p.reuse_age_secs ≡ true
    → is_within limit.DeathTimeoutSecs p.death_timeout_secs ≡ true
    → is_within limit.BlobLifeSecs p.blob_life_secs ≡ true
    → is_within limit.StoreUnits p.store_units ≡ true
    → is_within limit.MostTasks p.most_tasks ≡ true
    → is_within limit.MostBots p.most_bots ≡ true
    → is_within limit.MostEntries p.most_entries ≡ true
    → is_within limit.MostWeight p.most_weight ≡ true
    → is_within limit.Retries p.retries ≡ true
    → are_grants p.grants ≡ true
    → is_next_pool before p ≡ true
unfolding is_next_pool
next_pool before p few place name own reuse death blob units tasks bots entries weight retries grants =
    and_from _ _
    (and_from _ _ (le-leb p.place 3 (omega (arith, place)))
    (and_from _ _ name
    (and_from _ _ (and_parts (nat_le 0 p.reuse_age_secs) (nat_le p.reuse_age_secs 31536000) reuse).1
    (and_from _ _ death
    (and_from _ _ blob
    (and_from _ _ units
    (and_from _ _ tasks
    (and_from _ _ bots
    (and_from _ _ entries
    (and_from _ _ weight
    (and_from _ _ (and_parts (nat_le 0 p.retries) (nat_le p.retries 1) retries).1 grants)))))))))))
    (and_from _ _ (eq-eqb p.place (length before) place) own)
