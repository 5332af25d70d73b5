use Rattle.std.proofs.Common.{◌∙◌, sym, rules}
use Rattle.serde_json.specs.View.{view}
use Rattle.task_bodies.proofs.Keys.{properties_read}
use Rattle.task_bodies.proofs.slice_properties.take_properties.Goals as goal

pub returns-in-None : goal.returns-in-None
returns-in-None c =
    let left = c.in_ok-lists.ensures.left in
    properties_read (view c.args.properties.now) (view c.take_lists.new.properties) c.in_ok-lists.lists c.in_ok-times.times c.in_ok-idempotent.idempotent left c.in_ok-lists.ensures.read c.in_ok-times.ensures c.in_ok-idempotent.ensures (sym c.in-None.ensures)
    ∙ search rules
