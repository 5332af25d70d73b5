-- What is known of a state to which a log leads, and where an entry leads from it.
use Rattle.std.proofs.Common.{◌≡◌, ℕ, List, [], ◌∷◌, ◌++◌, ◌+◌, ◌<◌, ◌^◌, IsTrue, refl, subst, sym, ap, ◌∙◌, arith}
use Rattle.swarm_model.specs.declared.pool_settings.PoolSettings.{PoolSettings}
use Rattle.swarm_model.specs.declared.pool_state.PoolState.{PoolState}
use Rattle.swarm_model.specs.declared.entry.Entry.{Entry}
use Rattle.swarm_model.specs.Bases.{Base}
use Rattle.swarm_model.specs.BaseRules.{IsBase}
use Rattle.swarm_model.specs.Settings.{keeps_rules}
use Rattle.swarm_model.specs.Effects.{after}
use Rattle.swarm_model.specs.History.{replay, IsLegal, MayFollow, has_room}
use Rattle.swarm_model.specs.Soundness.{IsSound}
use Rattle.pool_laws.proofs.Bots.{settings_same}
use Rattle.pool_laws.proofs.Sound.{sound_replay}
use Rattle.pool_changes.proofs.Growing.{placed_within, replayed_more}
use Rattle.pool_changes.proofs.Legality.{Rooms, rooms, legal_more}
use Rattle.pool_log.specs.Reached.{IsReplayOf, IsReached, MayComeNext}
use Rattle.pool_log.proofs.Limits.{rules_of}

-- a state to which a log leads is sound
pub replay_is_sound : (start : Base) (log : List Entry) (s : PoolState) → IsReplayOf start log s → IsSound s
replay_is_sound start log s is = subst IsSound (sym is.replayed) (sound_replay start.rows log is.base.sound is.legal.caused)

-- rows that are a base after some entries are one after as many as may come before a base
pub base_by_then : (count : ℕ) (base : PoolState) → IsBase base.settings count base → IsBase base.settings (2 ^ 31) base
base_by_then count base is =
    let placed = is.placed in
    let few = is.few in
    record { own = is.own; sound = is.sound; rows = is.rows; light = is.light; placed = omega (arith, placed, few); few = omega arith }

-- the empty log leads to the rows of a base
pub replay_of_base : (count : ℕ) (base s : PoolState) → IsTrue (keeps_rules base.settings) → IsBase base.settings count base → s ≡ base → IsReplayOf (record { rows = base; count = count }) [] s
replay_of_base count base s rules is_base is =
    let same : s.settings ≡ base.settings = ap (λ (p : PoolState). p.settings) is in
    let light = is_base.light in
    record {
      rules = subst (λ (p : PoolSettings). IsTrue (keeps_rules p)) (sym same) rules;
      base = subst (λ (p : PoolSettings). IsBase p count base) (sym same) is_base;
      replayed = is;
      legal = record { caused = tt; few = omega arith; light = omega (arith, light) };
    }

-- a log that goes on by an entry leads to the state after it
pub replay_of_more : (start : Base) (s new : PoolState) (log more : List Entry) (entry : Entry) → IsReplayOf start log s → MayFollow s entry → IsTrue (has_room start.rows log entry) →
    more ≡ log ++ entry ∷ [] → new ≡ after s entry → IsReplayOf start more new
replay_of_more start s new log more entry is follows room grown changed =
    let same : new.settings ≡ s.settings = ap (λ (p : PoolState). p.settings) changed ∙ settings_same s entry.moment entry.kind in
    let caused : MayFollow (replay start.rows log) entry = subst (λ (p : PoolState). MayFollow p entry) is.replayed follows in
    record {
      rules = subst (λ (p : PoolSettings). IsTrue (keeps_rules p)) (sym same) is.rules;
      base = subst (λ (p : PoolSettings). IsBase p start.count start.rows) (sym same) is.base;
      replayed = replayed_more start.rows s new log more entry is.replayed grown changed;
      legal = subst (λ (l : List Entry). IsLegal start.rows l) (sym grown) (legal_more start.rows log entry is.legal caused (rooms start.rows log entry room));
    }

pub reached_is_sound : (s : PoolState) → IsReached s → IsSound s
reached_is_sound s is = replay_is_sound is.start is.log s is.replay_of

pub base_is_reached : (base s : PoolState) → IsTrue (keeps_rules base.settings) → IsBase base.settings (2 ^ 31) base → s ≡ base → IsReached s
base_is_reached base s rules is_base is =
    record { start = record { rows = base; count = 2 ^ 31 }; log = []; replay_of = replay_of_base (2 ^ 31) base s rules is_base is }

module _ (s : PoolState) (entry : Entry) (next : MayComeNext s entry) where
  pub sound_before : IsSound s
  sound_before = replay_is_sound next.start next.log s next.replay_of

  pub room_before : Rooms next.start.rows next.log entry
  room_before = rooms next.start.rows next.log entry next.room

  -- few blobs were ever placed
  pub few_placed : s.placed + 1 < 2 ^ 32
  few_placed =
      let is = next.replay_of in
      let placed = placed_within next.start.rows s next.log is.replayed in
      let before = is.base.placed in
      let count = is.base.few in
      let few = room_before.few in
      let same = ap (λ (p : PoolSettings). p.most_entries) is.base.own in
      let most = (rules_of s.settings is.rules).most_entries in
      omega (arith, placed, before, count, few, same, most)

  pub reached_after : (new : PoolState) → new ≡ after s entry → IsReached new
  reached_after new changed =
      record {
        start = next.start;
        log = next.log ++ entry ∷ [];
        replay_of = replay_of_more next.start s new next.log (next.log ++ entry ∷ []) entry next.replay_of next.follows next.room refl changed;
      }
