-- The rows are those of the first lines; each line tells one of the rows that there may be yet.
use Rattle.std.proofs.Common.{◌≡◌, ◌-◌, ◌+◌, ◌≤◌, IsTrue, IfSome, false, cond}
use Rattle.base_lines.specs.Reading.{nothing_read, lines_in, most_lines}
use Rattle.pool_loading.specs.Bases.{AreReadTo, AreOfAll}
use Rattle.pool_loading.proofs.base_reading.read_base.Given as goal

abbrev pub invariant-loop-more : goal.invariant-loop-more
invariant-loop-more g l =
    record {
      read : AreReadTo (g.K.Keeper.tables l.initial.keeper) l.rows;
      all : l.more ≡ false → IfSome (g.K.Keeper.tables l.initial.keeper) (AreOfAll l.rows);
      none : IsTrue g.K.Keeper.SURE → l.rows ≡ nothing_read;
      stays : g.K.Keeper.tables l.keeper ≡ g.K.Keeper.tables l.initial.keeper;
      grows : g.K.Keeper.faults l.initial.keeper ≤ g.K.Keeper.faults l.keeper;
    }

abbrev pub decreases-loop-more : goal.decreases-loop-more
decreases-loop-more g l = (most_lines - lines_in l.rows) + cond l.more 1 0
