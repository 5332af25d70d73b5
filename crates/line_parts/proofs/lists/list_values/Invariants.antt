use Rattle.std.proofs.Common.{◌≡◌, map, take}
use Rattle.std.specs.List.{All}
use Rattle.serde_json.specs.View.{view}
use Rattle.line_parts.proofs.lists.list_values.Given as goal

abbrev pub invariant-loop-item : goal.invariant-loop-item
invariant-loop-item g l =
    (map view l.values.items ≡ map g.T.LineField.data_of (take l.item-index l.items)) × All g.T.LineField.Holds (take l.item-index l.items)
