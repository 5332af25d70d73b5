use Rattle.std.proofs.Common.{◌≡◌, map, drop}
use Rattle.serde_json.specs.View.{view}
use Rattle.line_parts.specs.Lists.{each}
use Rattle.line_parts.proofs.Steps.{then_more}
use Rattle.line_parts.proofs.lists.read_items.Given as goal

abbrev pub invariant-loop-item : goal.invariant-loop-item
invariant-loop-item g l =
    each g.T.LineField.value_in (map view l.items) ≡ then_more l.values.items (each g.T.LineField.value_in (map view (drop l.item-index l.items)))
