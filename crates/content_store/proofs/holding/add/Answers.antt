-- The new slot has the least place, and stands where it belongs.
use Rattle.std.proofs.Common.{◌∙◌, ap, sym, List, refl, subst, false, map}
use Rattle.std.specs.List.{insert}
use Rattle.blob_rows.specs.declared.extent.Extent.{Extent}
use Rattle.blob_rows.specs.BlobRows.{units_of}
use Rattle.region.specs.FreeUnits.{IsFreeBeside}
use Rattle.content_store.specs.Contents.{unfilled_content, with_content}
use Rattle.content_store.specs.Slots.{extent_of_slot, content_in, AreLaidOut, AreThere}
use Rattle.content_store.specs.declared.slot.Slot.{Slot}
use Rattle.content_store.proofs.Telling.{answered, told_room}
use Rattle.content_store.proofs.Laying.{kept-laid, added-laid, added-holds, added-there, found_room}
use Rattle.content_store.proofs.holding.add.Goals as goal

pub returns-in-None-clause-told : goal.returns-in-None-clause-told
returns-in-None-clause-told c = λ names bytes few.
    ap answered (c.in-None.ensures.least (map extent_of_slot c.args.slots.now.items) c.requires.laid_out.beside) ∙ told_room c.args.region.now names bytes c.args.slots.now.items c.args.digest.now c.args.size c.requires.laid_out c.args.index c.requires.belongs few

pub returns-in-None-clause-laid_out : goal.returns-in-None-clause-laid_out
returns-in-None-clause-laid_out c =
    let slots = c.args.slots.now.items in
    kept-laid c.args.region.now c.place_for.new.region slots c.requires.laid_out c.in-None.ensures.units
    (c.in-None.ensures.adds (map extent_of_slot slots) c.args.index c.requires.laid_out.beside)

pub returns-in-Some-clause-told : goal.returns-in-Some-clause-told
returns-in-Some-clause-told c = λ names bytes few.
    ap answered (c.in-Some.ensures.least (map extent_of_slot c.args.slots.now.items) c.requires.laid_out.beside) ∙ told_room c.args.region.now names bytes c.args.slots.now.items c.args.digest.now c.args.size c.requires.laid_out c.args.index c.requires.belongs few

pub returns-in-Some-clause-holds : goal.returns-in-Some-clause-holds
returns-in-Some-clause-holds c = λ bytes.
    let layout = c.args.region.now in
    let slot : Slot = record { digest = c.args.digest.now; size = c.args.size; number = c.args.number; at = c.in-Some.extent.at; is_filled = false } in
    let parts = found_room (map extent_of_slot c.args.slots.now.items) layout.units (units_of c.args.size) c.in-Some.extent (c.in-Some.ensures.least (map extent_of_slot c.args.slots.now.items) c.requires.laid_out.beside) in
    ap (λ (l : List Slot). map (content_in bytes) l) c.insert_reserved.ensures.items
    ∙ added-holds layout c.args.slots.now.items c.args.index slot c.requires.laid_out c.requires.belongs parts.0 refl bytes
    ∙ ap (λ (e : Extent). with_content (unfilled_content c.args.digest.now c.args.size c.args.number e) (map (content_in bytes) c.args.slots.now.items)) (sym parts.1)

pub returns-in-Some-clause-laid_out : goal.returns-in-Some-clause-laid_out
returns-in-Some-clause-laid_out c =
    let layout = c.args.region.now in
    let slot : Slot = record { digest = c.args.digest.now; size = c.args.size; number = c.args.number; at = c.in-Some.extent.at; is_filled = false } in
    let parts = found_room (map extent_of_slot c.args.slots.now.items) layout.units (units_of c.args.size) c.in-Some.extent (c.in-Some.ensures.least (map extent_of_slot c.args.slots.now.items) c.requires.laid_out.beside) in
    let extents : List Extent = map extent_of_slot c.args.slots.now.items in
    let beside : IsFreeBeside c.place_for.new.region (insert extents c.args.index (extent_of_slot slot)) =
    subst (λ (e : Extent). IsFreeBeside c.place_for.new.region (insert extents c.args.index e)) parts.1 (c.in-Some.ensures.adds extents c.args.index c.requires.laid_out.beside) in
    subst (λ (l : List Slot). AreLaidOut c.place_for.new.region l) (sym c.insert_reserved.ensures.items)
    (added-laid layout c.args.slots.now.items c.args.index slot c.requires.laid_out c.requires.belongs parts.0 c.place_for.new.region c.in-Some.ensures.units beside)

pub returns-in-Some-clause-there : goal.returns-in-Some-clause-there
returns-in-Some-clause-there c = λ bytes there.
    let layout = c.args.region.now in
    let slot : Slot = record { digest = c.args.digest.now; size = c.args.size; number = c.args.number; at = c.in-Some.extent.at; is_filled = false } in
    let parts = found_room (map extent_of_slot c.args.slots.now.items) layout.units (units_of c.args.size) c.in-Some.extent (c.in-Some.ensures.least (map extent_of_slot c.args.slots.now.items) c.requires.laid_out.beside) in
    subst (λ (l : List Slot). AreThere bytes l) (sym c.insert_reserved.ensures.items)
    (added-there layout c.args.slots.now.items c.args.index slot c.requires.laid_out c.requires.belongs parts.0 refl bytes there)
