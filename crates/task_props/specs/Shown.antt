-- The JSON value of properties: an object of the fields by their names, the keys in order of bytes.
-- How caches, pairs and files are written differs between the formats, so these lists are given.
use Rattle.std.specs.Prelude.{◌<◌, ◌^◌, codes}
use Rattle.serde_json.specs.Data.{Data, boolean, string, object, Members, member, no_members}
use Rattle.json_values.specs.Values.{whole, list_data}
use Rattle.task_props.specs.declared.properties.Properties.{Properties}

-- the members from `grace_period_secs` on
unfoldable pub later_members : Data → Properties → Members
later_members inputs p =
    member (codes "grace_period_secs") (whole p.grace_period_secs)
    (member (codes "idempotent") (boolean p.idempotent)
    (member (codes "inputs") inputs
    (member (codes "io_timeout_secs") (whole p.io_timeout_secs)
    (member (codes "outputs") (list_data string p.outputs) no_members))))

unfoldable pub properties_with : Data → Data → Data → Data → Properties → Data
properties_with caches dimensions env inputs p =
    object
    (member (codes "caches") caches
    (member (codes "command") (list_data string p.command)
    (member (codes "dimensions") dimensions
    (member (codes "env") env
    (member (codes "execution_timeout_secs") (whole p.execution_timeout_secs)
    (later_members inputs p))))))

-- the numbers of seconds fit their 32 bits
abbrev pub HasWordTimes : Properties → Type 0
HasWordTimes p = (p.execution_timeout_secs < 2 ^ 32) × (p.io_timeout_secs < 2 ^ 32) × (p.grace_period_secs < 2 ^ 32)
