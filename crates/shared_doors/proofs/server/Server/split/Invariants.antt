-- The passes at the places below are split.
use Rattle.std.proofs.Common.{◌≡◌, ◌<◌, ◌≤◌, ℕ, length, IsTrue, is_some, vec_len, vec_capacity}
use Rattle.std.specs.List.{All}
use Rattle.shared_doors.specs.Joined.{Splits}
use Rattle.shared_doors.specs.Machines.{lasting_in}
use Rattle.shared_doors.specs.Views.{AreOf, EachBelow, view_at, views}
use Rattle.shared_doors.proofs.server.Server.split.Given as goal

abbrev pub invariant-loop-place : goal.invariant-loop-place
invariant-loop-place g l = record {
  own : AreOf (lasting_in g.M.Machine.kept) l.self.turnstiles.items l.kept.passes.items;
  count : vec_len l.given ≡ l.place;
  room : length l.self.turnstiles.items ≤ vec_capacity l.given;
  whole : All (λ o. IsTrue (is_some o)) l.given.items;
  each : EachBelow l.place (lasting_in g.M.Machine.kept) l.self.turnstiles.items l.given.items;
  split : (p : ℕ) → p < l.place → Splits (view_at (views l.initial.kept.passes.items) p) (view_at (views l.kept.passes.items) p) (view_at (views l.given.items) p);
  rest : (p : ℕ) → l.place ≤ p → view_at (views l.kept.passes.items) p ≡ view_at (views l.initial.kept.passes.items) p;
}
