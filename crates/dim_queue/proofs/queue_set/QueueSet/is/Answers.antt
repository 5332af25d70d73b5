use Rattle.std.proofs.Common.{◌≡◌, ℕ, refl, sym, ap, ◌∙◌, Option, Some, None, true, nat_eq, eqb-true}
use Rattle.std.specs.Option.{option_eq}
use Rattle.dimensions.specs.declared.dim_set.DimSet.{DimSet}
use Rattle.dim_queue.specs.declared.queue_set.QueueSet.{QueueSet}
use Rattle.dim_queue.proofs.Sets.{one_set, other_sets}
use Rattle.dim_queue.proofs.queue_set.QueueSet.is.Goals as goal

-- bots that compare as equal are one
same_but : (a b : Option ℕ) → option_eq nat_eq a b ≡ true → a ≡ b
same_but None None e = refl
same_but None (Some b) e = absurd (cc (e))
same_but (Some a) None e = absurd (cc (e))
same_but (Some a) (Some b) e = ap (λ n. Some n) (eqb-true a b e)

pub returns-then-eq-clause-same : goal.returns-then-eq-clause-same
returns-then-eq-clause-same c h =
    let dims = one_set c.args.self.now.dims c.args.dims.now (sym c.if-eq.ensures) in
    let but = same_but c.args.self.now.but c.args.but (sym c.eq-then-eq.ensures ∙ h) in
    ap (λ (d : DimSet). let set : QueueSet = record { dims = d; but = c.args.self.now.but } in set) dims
    ∙ ap (λ (b : Option ℕ). let set : QueueSet = record { dims = c.args.dims.now; but = b } in set) but

pub returns-else-eq-clause-other : goal.returns-else-eq-clause-other
returns-else-eq-clause-other c h e = other_sets c.args.self.now.dims c.args.dims.now (sym c.if-eq.ensures) (ap (λ (set : QueueSet). set.dims) e)
