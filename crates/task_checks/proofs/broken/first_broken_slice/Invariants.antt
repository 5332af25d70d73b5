use Rattle.std.proofs.Common.{◌≡◌, drop}
use Rattle.task_checks.specs.Broken.{first_broken_slice}
use Rattle.task_checks.proofs.broken.first_broken_slice.Given as goal

abbrev pub invariant-loop-slice : goal.invariant-loop-slice
invariant-loop-slice l = (l.place ≡ l.slice-index) × (first_broken_slice 0 l.slices ≡ first_broken_slice l.slice-index (drop l.slice-index l.slices))
