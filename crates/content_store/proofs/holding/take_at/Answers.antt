-- The extent has the units that a content of the size takes.
use Rattle.std.proofs.Common.{ℕ, subst}
use Rattle.std.specs.List.{insert}
use Rattle.blob_rows.specs.Extents.{extent_at}
use Rattle.region.specs.FreeUnits.{IsFreeBeside}
use Rattle.content_store.proofs.holding.take_at.Goals as goal

pub returns-clause-adds : goal.returns-clause-adds
returns-clause-adds c = λ extents index held.
    subst (λ (n : ℕ). IsFreeBeside c.place_at.new.self (insert extents index (extent_at n c.args.at))) c.units_of.ensures (c.place_at.ensures.adds extents index held)
