-- What is known of the rows, since a log leads to them.
use Rattle.std.proofs.Common.{◌≡◌, ◌<◌, ◌^◌, length, ap, arith}
use Rattle.swarm_model.specs.declared.pool_settings.PoolSettings.{PoolSettings}
use Rattle.swarm_machine.specs.Types.{PoolState, Entry}
use Rattle.swarm_model.specs.Soundness.{IsSound}
use Rattle.pool_log.specs.Reached.{MayComeNext}
use Rattle.pool_log.proofs.Limits.{rules_of}
use Rattle.pool_log.proofs.Reached.{reached_is_sound, room_before}
use Rattle.common_rows.specs.Rows.{state_of}
use Rattle.swarm_machine.specs.declared.indexed_rows.IndexedRows.TheInside.{Inside}
use Rattle.swarm_machine.specs.Invariant.{IsKept}
use Rattle.swarm_machine.specs.UsesBehind.{HasFewUses}
use Rattle.swarm_machine.proofs.UsesFollow.{uses_are_small}

module _ (own : Inside) (kept : IsKept own) where
  pub kept_sound : IsSound (state_of own.rows)
  kept_sound = reached_is_sound (state_of own.rows) kept.reached

  pub few_tasks : length own.rows.tasks.rows < 2 ^ 32
  few_tasks = let few = kept_sound.few_tasks in let most = (rules_of own.rows.settings kept.reached.replay_of.rules).most_tasks in omega (arith, few, most)

  pub few_bots : length own.rows.bots.rows < 2 ^ 32
  few_bots = let few = kept_sound.few_bots in let most = (rules_of own.rows.settings kept.reached.replay_of.rules).most_bots in omega (arith, few, most)

-- no digest has 2^32 uses after an entry for which the log has room
pub few_uses : (s : PoolState) (e : Entry) → MayComeNext s e → HasFewUses s e
few_uses s e next =
    let most = (rules_of s.settings next.replay_of.rules).most_weight in
    let base = next.start.rows in
    let same : base.settings.most_weight ≡ s.settings.most_weight = ap (λ (p : PoolSettings). p.most_weight) next.replay_of.base.own in
    uses_are_small base next.log s e base.settings.most_weight next.replay_of.base.sound next.replay_of.replayed next.replay_of.legal.caused (room_before s e next).light (omega (arith, most, same))
