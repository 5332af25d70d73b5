-- The log is that of the first lines; each line takes one of the entries that the log still has room for.
use Rattle.std.proofs.Common.{◌≡◌, ◌-◌, ◌+◌, ◌≤◌, IsTrue, [], false, length, cond}
use Rattle.pool_loading.specs.Lines.{IsReplay, AreAll}
use Rattle.pool_loading.proofs.replaying.load_lines.Given as goal

abbrev pub invariant-loop-more : goal.invariant-loop-more
invariant-loop-more g l =
    record {
      replay : IsReplay l.settings (g.K.Keeper.tables l.initial.keeper) (g.M.Machine.kept l.machine);
      start : (g.M.Machine.kept l.machine).start ≡ (g.M.Machine.kept l.initial.machine).start;
      all : l.more ≡ false → AreAll (g.K.Keeper.tables l.initial.keeper) (g.M.Machine.kept l.machine).log;
      none : IsTrue g.K.Keeper.SURE → (g.M.Machine.kept l.machine).log ≡ [];
      stays : g.K.Keeper.tables l.keeper ≡ g.K.Keeper.tables l.initial.keeper;
      grows : g.K.Keeper.faults l.initial.keeper ≤ g.K.Keeper.faults l.keeper;
    }

abbrev pub decreases-loop-more : goal.decreases-loop-more
decreases-loop-more g l = ((g.M.Machine.kept l.machine).start.rows.settings.most_entries - length (g.M.Machine.kept l.machine).log) + cond l.more 1 0
