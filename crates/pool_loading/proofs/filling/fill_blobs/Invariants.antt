-- The blobs before this place have their bytes; rows and log are as they were.
use Rattle.std.proofs.Common.{◌≡◌, ◌≤◌}
use Rattle.pool_loading.specs.Filling.{KeepsLog, IsFilledTo}
use Rattle.pool_loading.proofs.filling.fill_blobs.Given as goal

abbrev pub invariant-loop-at : goal.invariant-loop-at
invariant-loop-at g l =
    record {
      keeps : KeepsLog (g.M.Machine.kept l.initial.machine) (g.M.Machine.kept l.machine);
      filled : IsFilledTo (g.K.Keeper.tables l.initial.keeper) l.at (g.M.Machine.kept l.machine);
      stays : g.K.Keeper.tables l.keeper ≡ g.K.Keeper.tables l.initial.keeper;
      grows : g.K.Keeper.faults l.initial.keeper ≤ g.K.Keeper.faults l.keeper;
    }
