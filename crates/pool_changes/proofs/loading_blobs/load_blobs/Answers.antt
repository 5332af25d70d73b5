-- All rows are loaded in the end, and the number of blobs that were placed is the base's.
use Rattle.std.proofs.Common.{◌≡◌, length, ap, ◌∙◌, arith}
use Rattle.content_store.specs.StoredRows.{BlobsState}
use Rattle.pool_changes.specs.Blobs.{held_in}
use Rattle.pool_changes.proofs.Loading.{none_loaded, all_loaded}
use Rattle.pool_changes.proofs.loading_blobs.load_blobs.Goals as goal

pub loop-place-init : goal.loop-place-init
loop-place-init c = none_loaded c.args.base.now c.in_ok-blobs.blobs c.requires.rows c.in_ok-blobs.ensures

pub raise_placed-requires : goal.raise_placed-requires
raise_placed-requires c = c.loop-place.invariant.placed

pub returns-clause-rows : goal.returns-clause-rows
returns-clause-rows c =
    let base = c.args.base.now in
    let all : c.loop-place.place ≡ length base.blobs = omega (arith, ap length c.as_slice-place-end.ensures) in
    ap (λ (b : BlobsState). b.rows) c.raise_placed.ensures ∙ all_loaded base c.loop-place.place c.loop-place.blobs c.loop-place.invariant all

pub returns-clause-placed : goal.returns-clause-placed
returns-clause-placed c = ap (λ (b : BlobsState). b.placed) c.raise_placed.ensures

pub returns-clause-of_pool : goal.returns-clause-of_pool
returns-clause-of_pool c =
    let pool = c.loop-place.invariant.of_pool in
    record {
      units = ap (λ (b : BlobsState). b.store.units) c.raise_placed.ensures ∙ pool.units;
      names = ap (λ (b : BlobsState). b.store.names) c.raise_placed.ensures ∙ pool.names;
    }

pub returns-clause-held : goal.returns-clause-held
returns-clause-held c = let raised = c.raise_placed.ensures in (λ i. held_in (raised i)) ∙ c.loop-place.invariant.held
