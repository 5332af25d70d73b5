-- The next line is that of a row that comes next, or none of its place.
use Rattle.std.proofs.Common.{◌≡◌, ℕ, List, Option, Some, IfSome, sym, subst}
use Rattle.std.specs.Prelude.{slice_get}
use Rattle.pool_loading.specs.declared.loading.LoadStop.{LoadStop}
use Rattle.pool_loading.specs.declared.loading.LoadStop.TheVariants as stop
use Rattle.pool_loading.specs.declared.store_part.StorePart.{StorePart}
use Rattle.pool_loading.specs.declared.store_part.StorePart.TheVariants as part
use Rattle.pool_loading.specs.Bases.{IsNoneOfItsPlace}
use Rattle.pool_loading.proofs.Bases.{read_more, read_refused}
use Rattle.pool_loading.proofs.Stops.{passed}
use Rattle.pool_loading.proofs.base_reading.read_next.Goals as goal

pub returns-in_err-add_row-in-Some-clause-refused : goal.returns-in_err-add_row-in-Some-clause-refused
returns-in_err-add_row-in-Some-clause-refused g c =
    let tables = g.K.Keeper.tables c.args.keeper.now in
    let place = c.line_count-at.result in
    passed (λ (why : LoadStop). (which : StorePart) (at : ℕ) → why ≡ stop.Refused which at → (which ≡ part.Base) × IsNoneOfItsPlace tables at) c.from_residual-in_err-add_row-in-Some.result
    c.in_err-add_row-in-Some.field-0.0 c.from_residual-in_err-add_row-in-Some.ensures.1
    (λ which at is. read_refused tables c.args.rows.now c.as_str.result.now which place at c.requires c.line_count-at.ensures
    (subst (λ (text : List ℕ). IfSome tables (λ t. Some text ≡ slice_get t.base place)) (sym c.as_str.ensures)
    (subst (λ (o : Option (List ℕ)). IfSome tables (λ t. o ≡ slice_get t.base place)) c.in-Some.is c.in_ok-base_line_at.ensures.line))
    (c.in_err-add_row-in-Some.ensures.refused which at is))

pub returns-in_ok-add_row-in-Some-clause-read : goal.returns-in_ok-add_row-in-Some-clause-read
returns-in_ok-add_row-in-Some-clause-read g c =
    let tables = g.K.Keeper.tables c.args.keeper.now in
    let place = c.line_count-at.result in
    read_more tables c.args.rows.now c.add_row.new.rows c.as_str.result.now place c.requires c.line_count-at.ensures
    (subst (λ (text : List ℕ). IfSome tables (λ t. Some text ≡ slice_get t.base place)) (sym c.as_str.ensures)
    (subst (λ (o : Option (List ℕ)). IfSome tables (λ t. o ≡ slice_get t.base place)) c.in-Some.is c.in_ok-base_line_at.ensures.line))
    c.in_ok-add_row-in-Some.ensures.adds c.in_ok-add_row-in-Some.ensures.counted c.in_ok-add_row-in-Some.ensures.read
