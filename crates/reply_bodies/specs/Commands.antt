-- What a bot is told to do.
use Rattle.std.specs.Prelude.{ℕ, codes}
use Rattle.serde_json.specs.Data.{Data, string, Members, member, no_members}
use Rattle.json_values.specs.Values.{whole, list_data}
use Rattle.task_props.specs.declared.properties.Properties.{Properties}
use Rattle.task_props.specs.Shown.{properties_with}
use Rattle.json_fields.specs.Ids.{run_id}
use Rattle.reply_bodies.specs.Items.{pair_data, cache_data, file_data}

-- all fields of a slice's properties, by the names that a request gives them
abbrev pub run_properties : Properties → Data
run_properties p = properties_with (list_data cache_data p.caches) (list_data pair_data p.dimensions) (list_data pair_data p.env) (list_data file_data p.inputs) p

-- run a slice of a task of the pool at a place, and be heard at least every `tolerance` seconds
unfoldable pub run_members : ℕ → ℕ × ℕ → ℕ → ℕ → Properties → Members
run_members place run slice tolerance properties =
    member (codes "bot_ping_tolerance_secs") (whole tolerance)
    (member (codes "cmd") (string (codes "run"))
    (member (codes "properties") (run_properties properties)
    (member (codes "run_id") (string (run_id place run))
    (member (codes "slice") (whole slice) no_members))))
