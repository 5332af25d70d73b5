-- How many rows and entries a pool may have at most, and how much they may weigh.
use Rattle.std.proofs.Common.{ℕ, ◌≤◌, IsTrue, nat_le}
use Rattle.std.proofs.lemmas.Bool.{and_parts}
use borrow.Author.Tests.{leb-true}
use Rattle.swarm_model.specs.declared.pool_settings.PoolSettings.{PoolSettings}
use Rattle.swarm_model.specs.Settings.{is_pool_name, keeps_rules}
use Rattle.swarm_model.specs.Words.{is_between}

at_most : (low high n : ℕ) → IsTrue (is_between low high n) → n ≤ high
at_most low high n between = leb-true n high (and_parts (nat_le low n) (nat_le n high) between).1

-- the rules of a pool's settings on what it may hold
pub record PoolRules (p : PoolSettings) : Type 0 where
  pub most_tasks : p.most_tasks ≤ 262144
  pub most_bots : p.most_bots ≤ 4096
  pub most_entries : p.most_entries ≤ 4194304
  pub most_weight : p.most_weight ≤ 134217728

pub rules_of : (p : PoolSettings) → IsTrue (keeps_rules p) → PoolRules p
rules_of p rules =
    let place = and_parts (nat_le p.place 3) _ rules in
    let name = and_parts (is_pool_name p.name) _ place.1 in
    let age = and_parts (nat_le p.reuse_age_secs 31536000) _ name.1 in
    let death = and_parts (is_between 60 2592000 p.death_timeout_secs) _ age.1 in
    let life = and_parts (is_between 60 31536000 p.blob_life_secs) _ death.1 in
    let units = and_parts (is_between 1 4194304 p.store_units) _ life.1 in
    let tasks = and_parts (is_between 1 262144 p.most_tasks) _ units.1 in
    let bots = and_parts (is_between 1 4096 p.most_bots) _ tasks.1 in
    let entries = and_parts (is_between 1 4194304 p.most_entries) _ bots.1 in
    let weight = and_parts (is_between 1 134217728 p.most_weight) _ entries.1 in
    record {
      most_tasks = at_most 1 262144 p.most_tasks tasks.0;
      most_bots = at_most 1 4096 p.most_bots bots.0;
      most_entries = at_most 1 4194304 p.most_entries entries.0;
      most_weight = at_most 1 134217728 p.most_weight weight.0;
    }
