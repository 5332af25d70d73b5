use Rattle.std.proofs.Common.{◌≡◌, true, drop, length}
use Rattle.std.specs.List.{list_all}
use Rattle.json_fields.specs.Readings.{each_from}
use Rattle.json_fields.specs.Checks.{checked_item}
use Rattle.json_fields.proofs.Steps.{then_more}
use Rattle.json_fields.proofs.checks.check_each.Given as goal

abbrev pub invariant-loop-place : goal.invariant-loop-place
invariant-loop-place g l =
    (each_from (checked_item g.C.CheckItem.checked) 0 l.raws ≡ then_more l.values.items (each_from (checked_item g.C.CheckItem.checked) l.place (drop l.place l.raws)))
    × (list_all g.C.CheckItem.fits l.values.items ≡ true)
    × (length l.values.items ≡ l.place)
