use Rattle.std.proofs.Common.{◌≡◌, map, drop}
use Rattle.serde_json.specs.View.{view}
use Rattle.json_fields.specs.Readings.{each_from}
use Rattle.json_fields.proofs.Steps.{then_more}
use Rattle.json_fields.proofs.lists.read_each.Given as goal

abbrev pub invariant-loop-place : goal.invariant-loop-place
invariant-loop-place g l =
    each_from g.I.ReadItem.item 0 (map view l.values) ≡ then_more l.items.items (each_from g.I.ReadItem.item l.place (map view (drop l.place l.values)))
