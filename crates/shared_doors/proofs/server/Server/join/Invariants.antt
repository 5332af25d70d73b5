-- The passes at the places below are joined.
use Rattle.std.proofs.Common.{◌≡◌, ◌<◌, ◌≤◌, ℕ, length, get_or, None}
use Rattle.shared_doors.specs.Joined.{Joins}
use Rattle.shared_doors.specs.Machines.{lasting_in}
use Rattle.shared_doors.specs.Views.{AreOf, view_at, views}
use Rattle.shared_doors.proofs.server.Server.join.Given as goal

abbrev pub invariant-loop-place : goal.invariant-loop-place
invariant-loop-place g l = record {
  own : AreOf (lasting_in g.M.Machine.kept) l.self.turnstiles.items l.joined.passes.items;
  count : length l.others.items ≡ length l.initial.others.items;
  others : (p : ℕ) → l.place ≤ p → get_or l.others.items p None ≡ get_or l.initial.others.items p None;
  joined : (p : ℕ) → p < l.place → Joins (view_at (views l.initial.joined.passes.items) p) (view_at (views l.initial.others.items) p) (view_at (views l.joined.passes.items) p);
  rest : (p : ℕ) → l.place ≤ p → view_at (views l.joined.passes.items) p ≡ view_at (views l.initial.joined.passes.items) p;
}
