-- The new slot's units were free, and it stands where it belongs.
use Rattle.std.proofs.Common.{◌≡◌, ℕ, true, false, not, ◌∙◌, ap, sym, List, refl, subst, map, arith, inl, inr}
use Rattle.std.proofs.lemmas.Bool.{cases_Bool, both_ways}
use Rattle.blob_rows.specs.declared.extent.Extent.{Extent}
use Rattle.blob_rows.specs.Places.{is_free, overlaps}
use Rattle.blob_rows.specs.Extents.{extent_at}
use Rattle.blob_rows.specs.BlobRows.{units_of}
use Rattle.region.specs.FreeUnits.{is_within}
use Rattle.region.proofs.Runs.{unit_inside, run_blocked}
use Rattle.content_store.specs.Slots.{extent_of_slot, content_in, AreLaidOut, AreThere}
use Rattle.content_store.specs.declared.slot.Slot.{Slot}
use Rattle.content_store.proofs.Laying.{added-laid, added-holds, added-there}
use Rattle.content_store.proofs.holding.add_at.Goals as goal

-- units that are free as a run are in none of the extents
clear : (extents : List Extent) (u at n : ℕ) → is_free extents n at ≡ true → overlaps u 1 (extent_at n at) ≡ true → is_within extents u ≡ false
clear extents u at n free own =
    let inside = unit_inside (extent_at n at) u own in
    elim (cases_Bool (is_within extents u)) [
      | inl is ↦ absurd (both_ways (is_free extents n at) (run_blocked extents u at n is inside.0 inside.1) free)
      | inr none ↦ none
    ]

pub take_at-requires-clause-free : goal.take_at-requires-clause-free
take_at-requires-clause-free c = λ u own.
    let extents : List Extent = map extent_of_slot c.args.slots.now.items in
    let inside = unit_inside (extent_at (units_of c.args.size) c.args.at) u own in
    c.requires.laid_out.beside.free u (omega (arith, inside.1, c.requires.inside)) ∙ ap not (clear extents u c.args.at (units_of c.args.size) c.requires.free own)

pub returns-clause-holds : goal.returns-clause-holds
returns-clause-holds c = λ bytes.
    let slot : Slot = record { digest = c.args.digest.now; size = c.args.size; number = c.args.number; at = c.args.at; is_filled = false } in
    ap (λ (l : List Slot). map (content_in bytes) l) c.insert_reserved.ensures.items
    ∙ added-holds c.args.region.now c.args.slots.now.items c.args.index slot c.requires.laid_out c.requires.belongs (c.requires.inside, c.requires.free) refl bytes

pub returns-clause-laid_out : goal.returns-clause-laid_out
returns-clause-laid_out c =
    let slot : Slot = record { digest = c.args.digest.now; size = c.args.size; number = c.args.number; at = c.args.at; is_filled = false } in
    let extents : List Extent = map extent_of_slot c.args.slots.now.items in
    subst (λ (l : List Slot). AreLaidOut c.take_at.new.region l) (sym c.insert_reserved.ensures.items)
    (added-laid c.args.region.now c.args.slots.now.items c.args.index slot c.requires.laid_out c.requires.belongs (c.requires.inside, c.requires.free) c.take_at.new.region c.take_at.ensures.units
    (c.take_at.ensures.adds extents c.args.index c.requires.laid_out.beside))

pub returns-clause-there : goal.returns-clause-there
returns-clause-there c = λ bytes there.
    let slot : Slot = record { digest = c.args.digest.now; size = c.args.size; number = c.args.number; at = c.args.at; is_filled = false } in
    subst (λ (l : List Slot). AreThere bytes l) (sym c.insert_reserved.ensures.items)
    (added-there c.args.region.now c.args.slots.now.items c.args.index slot c.requires.laid_out c.requires.belongs (c.requires.inside, c.requires.free) refl bytes there)
