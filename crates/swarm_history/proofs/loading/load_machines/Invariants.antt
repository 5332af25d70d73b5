-- The places that were passed have their machines.
use Rattle.std.proofs.Common.{◌≡◌, ◌≤◌, length, map, IsTrue}
use Rattle.std.specs.List.{All, sum_by}
use Rattle.swarm_history.specs.Records.{AreLoaded, IsNew}
use Rattle.swarm_history.proofs.loading.load_machines.Given as goal

abbrev pub invariant-loop-place : goal.invariant-loop-place
invariant-loop-place g l =
    (length l.machines.items ≡ l.place)
    × AreLoaded l.settings.pools (map g.K.Keeper.tables l.initial.keepers.items) (map g.M.Machine.kept l.machines.items)
    × (IsTrue g.K.Keeper.SURE → All IsNew (map g.M.Machine.kept l.machines.items))
    × (map g.K.Keeper.tables l.keepers.items ≡ map g.K.Keeper.tables l.initial.keepers.items)
    × (length l.keepers.items ≡ length l.initial.keepers.items)
    × (sum_by g.K.Keeper.faults l.initial.keepers.items ≤ sum_by g.K.Keeper.faults l.keepers.items)
