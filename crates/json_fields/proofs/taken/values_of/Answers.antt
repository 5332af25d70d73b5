use Rattle.std.proofs.Common.{map, ap}
use Rattle.std.specs.Prelude.{Ok}
use Rattle.serde_json.specs.View.{view}
use Rattle.serde_json.proofs.Views.{view-Array}
use Rattle.json_fields.proofs.Arrays.{list_of_items}
use Rattle.json_fields.proofs.taken.values_of.Goals as goal

pub returns-in-Array : goal.returns-in-Array
returns-in-Array c = rw (c.in-Array.is, view-Array) (ap Ok (list_of_items (map view c.in-Array.values.items)))
