-- How many pools there are, and what they don't permit.
use Rattle.std.proofs.Common.{◌≡◌, ℕ, ◌<◌, ◌≤◌, false, List, length, leb-true, refl, Option, Some, None, Err}
use Rattle.std.specs.Prelude.{IsTrue, IsSomeAnd, nat_le, slice_get}
use Rattle.std.proofs.lemmas.Bool.{and_parts}
use Rattle.std.proofs.lemmas.Option.{slice_get_within}
use Rattle.swarm_http.specs.Types.{Permission, PoolSettings, Settings, Asked}
use Rattle.swarm_model.specs.declared.rule.Rule.TheVariants as rule
use Rattle.swarm_model.specs.Fits.{fits}
use Rattle.swarm_model.specs.Words.{is_between}
use Rattle.swarm_model.specs.Settings.{are_settings, permits}
use Rattle.swarm_http.specs.Permissions.{permission_of, permitted}

-- settings that keep their rules have few pools
pub few_pools : (settings : Settings) → IsTrue (are_settings settings) → length settings.pools ≤ 4
few_pools settings rules =
    let counted = and_parts (is_between 1 4 (length settings.pools)) _ rules in
    let most = and_parts (nat_le 1 (length settings.pools)) _ counted.0 in
    leb-true (length settings.pools) 4 most.1

-- a request whose pool doesn't give the caller the permission
pub is_denied : (settings : Settings) (who : List ℕ) (asked : Asked) (wanted : Permission) (pool : PoolSettings) → permission_of asked.request ≡ Some wanted
    → slice_get settings.pools asked.place ≡ Some pool → permits pool who wanted ≡ false → permitted settings who asked ≡ Err (rule.Denied wanted pool.name)
is_denied settings who asked wanted pool e at given = rw (e, at, given) refl

within_by : {A : Type 0} (xs : List A) (k : ℕ) (found : Option A) (P : A → Type 0) → slice_get xs k ≡ found → IsSomeAnd found P → k < length xs
within_by xs k None P e h = absurd h
within_by xs k (Some x) P e h = slice_get_within xs k x e

-- a request that fits a pool has its place
pub place_within : (settings : Settings) (asked : Asked) → IsSomeAnd (slice_get settings.pools asked.place) (λ pool. IsTrue (fits pool asked.request)) → asked.place < length settings.pools
place_within settings asked h = within_by settings.pools asked.place (slice_get settings.pools asked.place) (λ (pool : PoolSettings). IsTrue (fits pool asked.request)) refl h
