use Rattle.std.proofs.Common.{option_map, ap, ◌∙◌}
use Rattle.serde_json.specs.View.{view, members_view}
use Rattle.serde_json.proofs.Views.{view-lookup}
use Rattle.json_fields.proofs.LeftFields.{members_view-remove_entry}
use Rattle.json_fields.proofs.taken.remove.Goals as goal

pub returns : goal.returns
returns c = record {
  value = ap (option_map view) c.remove.ensures.value ∙ view-lookup c.args.key.now c.args.members.now.entries;
  left = ap members_view c.remove.ensures.entries ∙ members_view-remove_entry c.args.key.now c.args.members.now.entries;
}
