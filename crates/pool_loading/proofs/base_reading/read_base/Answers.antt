-- The first line that is none of its place is told on.
use Rattle.std.proofs.Common.{◌≡◌, ℕ, Option, subst}
use Rattle.swarm_keeper.specs.Tables.{Tables}
use Rattle.pool_loading.specs.declared.loading.LoadStop.{LoadStop}
use Rattle.pool_loading.specs.declared.loading.LoadStop.TheVariants as stop
use Rattle.pool_loading.specs.declared.store_part.StorePart.{StorePart}
use Rattle.pool_loading.specs.declared.store_part.StorePart.TheVariants as part
use Rattle.pool_loading.specs.Bases.{IsNoneOfItsPlace}
use Rattle.pool_loading.proofs.Stops.{passed}
use Rattle.pool_loading.proofs.base_reading.read_base.Goals as goal

pub returns-in_err-more-clause-refused : goal.returns-in_err-more-clause-refused
returns-in_err-more-clause-refused g c =
    passed (λ (why : LoadStop). (which : StorePart) (at : ℕ) → why ≡ stop.Refused which at → (which ≡ part.Base) × IsNoneOfItsPlace (g.K.Keeper.tables c.args.keeper.now) at) c.from_residual.result c.in_err-more.field-0.0
    c.from_residual.ensures.1
    (λ which at is.
    let told = c.in_err-more.ensures.refused which at is in
    (told.0, subst (λ (o : Option Tables). IsNoneOfItsPlace o at) c.loop-more.invariant.stays told.1))
