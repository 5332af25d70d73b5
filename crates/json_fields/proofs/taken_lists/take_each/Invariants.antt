use Rattle.std.proofs.Common.{◌≡◌, map, length}
use Rattle.std.specs.Vec.Iter.{into_iter_items, into_iter_len}
use Rattle.serde_json.specs.View.{view}
use Rattle.json_fields.specs.Readings.{each_from}
use Rattle.json_fields.proofs.Steps.{then_more}
use Rattle.json_fields.proofs.taken_lists.take_each.Given as goal

abbrev pub invariant-loop-value : goal.invariant-loop-value
invariant-loop-value g l = record {
  read : each_from g.I.TakeItem.item 0 (map view l.fn.values.items)
      ≡ then_more l.items.items (each_from g.I.TakeItem.item (length l.items.items) (map view (into_iter_items l.value-iterator)));
  left : into_iter_len l.value-iterator ≡ length (into_iter_items l.value-iterator);
}
