-- The next line is refused.
use Rattle.std.proofs.Common.{◌≡◌, ℕ, List, Option, Some, IfSome, sym, subst}
use Rattle.std.specs.Prelude.{slice_get}
use Rattle.pool_loading.specs.declared.loading.LoadStop.{LoadStop}
use Rattle.pool_loading.specs.declared.loading.LoadStop.TheVariants as stop
use Rattle.pool_loading.specs.declared.store_part.StorePart.{StorePart}
use Rattle.pool_loading.specs.Lines.{IsRefusedOf}
use Rattle.pool_loading.proofs.Replays.{replay_refused}
use Rattle.pool_loading.proofs.Stops.{passed}
use Rattle.pool_loading.proofs.replaying.load_next.Goals as goal

pub returns-in_err-add_at-in-Some-clause-refused : goal.returns-in_err-add_at-in-Some-clause-refused
returns-in_err-add_at-in-Some-clause-refused g c =
    let settings = c.args.settings.now in
    let tables = g.K.Keeper.tables c.args.keeper.now in
    let kept = g.M.Machine.kept c.args.machine.now in
    let place = c.line_count-at.result in
    passed (λ (why : LoadStop). (which : StorePart) (at : ℕ) → why ≡ stop.Refused which at → IsRefusedOf settings tables which at) c.from_residual-in_err-add_at-in-Some.result c.in_err-add_at-in-Some.field-0.0
    c.from_residual-in_err-add_at-in-Some.ensures.1
    (λ which at is. replay_refused settings tables kept c.as_str.result.now which place at c.requires c.line_count-at.ensures
    (subst (λ (text : List ℕ). IfSome tables (λ t. Some text ≡ slice_get t.lines place)) (sym c.as_str.ensures)
    (subst (λ (o : Option (List ℕ)). IfSome tables (λ t. o ≡ slice_get t.lines place)) c.in-Some.is c.in_ok-line_at.ensures.line))
    (c.in_err-add_at-in-Some.ensures.refused which at is))
