-- At one place more no other pass is out.
use Rattle.std.proofs.Common.{rules, arith, sym, subst, IsTrue}
use mathlib.Core.Logic.{dite}
use native.Mathlib.Decide.{ℕ_discrete}
use Rattle.shared_doors.specs.Joined.{IsAloneView}
use Rattle.shared_doors.specs.Views.{view_at, views}
use Rattle.shared_doors.proofs.server.Server.alone.Goals as goal

pub loop-place-preserved : goal.loop-place-preserved
loop-place-preserved g c = λ p inside.
    let there : IsTrue c.alone_at.result = search rules in
    dite (ℕ_discrete p c.loop-place.place)
    (λ same. subst (λ n. IsAloneView (view_at (views c.args.passes.now.passes.items) n)) (sym same) (c.alone_at.ensures.0 there))
    (λ other. c.loop-place.invariant p (omega (arith, inside, other)))
