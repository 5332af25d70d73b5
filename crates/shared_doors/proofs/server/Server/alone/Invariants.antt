-- At no place below another pass is out.
use Rattle.std.proofs.Common.{◌<◌, ℕ}
use Rattle.shared_doors.specs.Joined.{IsAloneView}
use Rattle.shared_doors.specs.Views.{view_at, views}
use Rattle.shared_doors.proofs.server.Server.alone.Given as goal

abbrev pub invariant-loop-place : goal.invariant-loop-place
invariant-loop-place g l = (p : ℕ) → p < l.place → IsAloneView (view_at (views l.passes.passes.items) p)
