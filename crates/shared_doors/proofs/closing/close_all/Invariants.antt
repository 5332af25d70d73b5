-- The last pools are closed.
use Rattle.std.proofs.Common.{◌≡◌, ◌≤◌, ◌+◌, ◌++◌, List, Option, length, map, reverse, vec_len, vec_capacity, IsTrue, is_some}
use Rattle.std.specs.List.{All}
use Rattle.shared_doors.specs.Types.{Entry, Pass, Turnstile}
use Rattle.shared_doors.specs.declared.kept.Kept.{Kept}
use Rattle.shared_doors.specs.declared.view.Lasting.{Lasting}
use Rattle.shared_doors.specs.Joined.{AreClosed}
use Rattle.shared_doors.specs.Machines.{lasting_in, log_in}
use Rattle.shared_doors.specs.Views.{views}
use Rattle.shared_doors.proofs.closing.close_all.Given as goal

abbrev pub invariant-loop-turnstile : goal.invariant-loop-turnstile
invariant-loop-turnstile g l = record {
  count : length l.passes.items ≡ length l.turnstiles.items;
  whole : All (λ o. IsTrue (is_some o)) l.passes.items;
  room : vec_len l.machines + length l.turnstiles.items ≤ vec_capacity l.machines;
  closed : (ts : List (Turnstile (Kept g.row.M.Denot g.row.K.Denot) Entry Lasting))
      × (ps : List (Option (Pass (Kept g.row.M.Denot g.row.K.Denot) Entry Lasting)))
      × (l.initial.turnstiles.items ≡ l.turnstiles.items ++ ts)
      × (l.initial.passes.items ≡ l.passes.items ++ ps)
      × AreClosed (lasting_in g.M.Machine.kept) (log_in g.M.Machine.kept) ts (views ps) (map g.M.Machine.kept (reverse l.machines.items));
}

abbrev pub decreases-loop-turnstile : goal.decreases-loop-turnstile
decreases-loop-turnstile g l = length l.turnstiles.items
