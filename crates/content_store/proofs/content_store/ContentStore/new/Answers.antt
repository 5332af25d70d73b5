-- Nothing is held yet, and there is room for all that may come.
use Rattle.std.proofs.Common.{◌≡◌, ◌≤◌, ◌*◌, ap, subst, sym, arith, [], ℕ, vec_capacity}
use Rattle.placed_list.specs.Plain.{PlacedListState}
use Rattle.region.specs.Plain.{RegionState}
use Rattle.content_store.specs.declared.slot.Slot.{Slot}
use Rattle.content_store.proofs.Laying.{empty-laid, empty-there}
use Rattle.content_store.proofs.content_store.ContentStore.new.Goals as goal

pub invariant_of-result : goal.invariant_of-result
invariant_of-result c =
    let layout : RegionState = c.in_ok-new.field-0 in
    let units : layout.units ≡ c.args.units = c.in_ok-new.ensures.units in
    let slots : c.in_ok-with_capacity.field-0.items ≡ [] = ap (λ (l : PlacedListState Slot). l.items) c.in_ok-with_capacity.ensures in
    let room : c.in_ok-with_capacity.field-0.room ≡ c.args.names = ap (λ (l : PlacedListState Slot). l.room) c.in_ok-with_capacity.ensures in
    record {
      laid_out = empty-laid layout c.in_ok-with_capacity.field-0.items c.in_ok-new.ensures.free slots;
      there = empty-there c.in_ok-with_capacity-2.field-0.items c.in_ok-with_capacity.field-0.items slots;
      slots_room = omega (arith, room);
      bytes_room = subst (λ (n : ℕ). n * 64 ≤ vec_capacity c.in_ok-with_capacity-2.field-0) (sym units) c.in_ok-with_capacity-2.ensures.capacity;
    }
