-- The records at the places that were passed begin anew.
use Rattle.std.proofs.Common.{◌≡◌, ◌≤◌, length, map}
use Rattle.std.specs.List.{sum_by}
use Rattle.swarm_history.specs.Checkpoints.{HaveBegunTo}
use Rattle.swarm_history.proofs.checkpointing.begin_all_anew.Given as goal

abbrev pub invariant-loop-place : goal.invariant-loop-place
invariant-loop-place g l = record {
  begun : HaveBegunTo (map g.M.Machine.kept l.machines) l.place (map g.K.Keeper.tables l.initial.keepers.items) (map g.K.Keeper.tables l.keepers.items);
  count : length l.keepers.items ≡ length l.initial.keepers.items;
  grows : sum_by g.K.Keeper.faults l.initial.keepers.items ≤ sum_by g.K.Keeper.faults l.keepers.items;
}
