-- The extent of the slot is that which is given back.
use Rattle.std.proofs.Common.{ℕ, subst, sym}
use Rattle.std.specs.List.{Contains}
use Rattle.blob_rows.specs.Extents.{extent_at, without_extent}
use Rattle.region.specs.FreeUnits.{IsFreeBeside}
use Rattle.content_store.proofs.holding.give_back.Goals as goal

pub returns-clause-frees : goal.returns-clause-frees
returns-clause-frees c = λ extents has used.
    let at = c.args.slot.at in
    let there = subst (λ (n : ℕ). Contains extents (extent_at n at)) (sym c.units_of.ensures) has in
    subst (λ (n : ℕ). IsFreeBeside c.give_back.new.self (without_extent (extent_at n at) extents)) c.units_of.ensures (c.give_back.ensures.frees extents there used)
