-- A line that is none of its place is refused, and so are rows that are no base.
use Rattle.std.proofs.Common.{◌≡◌, ℕ, Option, IfSome, subst}
use Rattle.swarm_keeper.specs.Tables.{Tables}
use Rattle.pool_loading.specs.declared.loading.LoadStop.{LoadStop}
use Rattle.pool_loading.specs.declared.loading.LoadStop.TheVariants as stop
use Rattle.pool_loading.specs.declared.store_part.StorePart.{StorePart}
use Rattle.pool_loading.specs.Lines.{IsRefusedOf}
use Rattle.pool_loading.proofs.Bases.{refused_line, refused_base}
use Rattle.pool_loading.proofs.Stops.{passed}
use Rattle.pool_loading.proofs.opening.open_machine.Goals as goal

pub returns-in_err-rows-clause-refused : goal.returns-in_err-rows-clause-refused
returns-in_err-rows-clause-refused g c =
    let tables = g.K.Keeper.tables c.args.keeper.now in
    passed (λ (why : LoadStop). (which : StorePart) (at : ℕ) → why ≡ stop.Refused which at → IsRefusedOf c.args.settings.now tables which at) c.from_residual.result c.in_err-rows.field-0.0 c.from_residual.ensures.1
    (λ which at is. refused_line c.args.settings.now tables which at (c.in_err-rows.ensures.refused which at is))

pub returns-in_err-base-clause-refused : goal.returns-in_err-base-clause-refused
returns-in_err-base-clause-refused g c =
    let tables = g.K.Keeper.tables c.args.keeper.now in
    passed (λ (why : LoadStop). (which : StorePart) (at : ℕ) → why ≡ stop.Refused which at → IsRefusedOf c.args.settings.now tables which at) c.from_residual-in_err-base.result c.in_err-base.field-0.0
    c.from_residual-in_err-base.ensures.1
    (λ which at is.
    refused_base c.args.settings.now tables c.in_ok-rows.rows c.in_ok-count.count c.in_ok-rows.ensures.all
    (subst (λ (o : Option Tables). IfSome o (λ t. c.in_ok-count.count ≡ t.count)) c.in_ok-rows.ensures.stays c.in_ok-count.ensures.count) which at (c.in_err-base.ensures.refused which at is))
