-- The extents of the slots are those in use.
use Rattle.std.proofs.Common.{sym, subst, List, get_or, map}
use Rattle.std.specs.List.{Contains}
use Rattle.blob_rows.specs.Extents.{without_extent}
use Rattle.region.specs.FreeUnits.{IsFreeBeside}
use Rattle.content_store.specs.Slots.{extent_of_slot, AreLaidOut}
use Rattle.content_store.specs.declared.slot.Slot.{Slot}
use Rattle.content_store.proofs.Laying.{gone_there, slots_in_use, removed-laid}
use Rattle.content_store.proofs.holding.remove_at.Goals as goal

pub give_back-requires : goal.give_back-requires
give_back-requires c =
    let d = c.remove-slot.result in
    let slots = c.args.slots.now.items in (
      map extent_of_slot slots,
      subst (λ (s : Slot). Contains (map extent_of_slot slots) (extent_of_slot s)) (sym c.remove-slot.ensures.value) (gone_there c.args.region.now slots c.args.index d c.requires.laid_out c.requires.index),
      slots_in_use c.args.region.now slots c.args.index d c.requires.laid_out c.requires.index,
    )

pub returns-clause-laid_out : goal.returns-clause-laid_out
returns-clause-laid_out c =
    let d = c.remove-slot.result in
    let layout = c.args.region.now in
    let slots = c.args.slots.now.items in
    let next = c.give_back.new.region in
    let used = slots_in_use layout slots c.args.index d c.requires.laid_out c.requires.index in
    let there = subst (λ (s : Slot). Contains (map extent_of_slot slots) (extent_of_slot s)) (sym c.remove-slot.ensures.value) (gone_there layout slots c.args.index d c.requires.laid_out c.requires.index) in
    let beside : IsFreeBeside next (without_extent (extent_of_slot (get_or slots c.args.index d)) (map extent_of_slot slots)) =
    subst (λ (s : Slot). IsFreeBeside next (without_extent (extent_of_slot s) (map extent_of_slot slots))) c.remove-slot.ensures.value
    (c.give_back.ensures.frees (map extent_of_slot slots) there used) in
    subst (λ (l : List Slot). AreLaidOut next l) (sym c.remove-slot.ensures.items)
    (removed-laid layout slots c.args.index d c.requires.laid_out c.requires.index next c.give_back.ensures.units beside)
