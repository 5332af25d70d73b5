-- What a bot says of itself.
use Rattle.std.specs.Prelude.{ℕ, ◌==◌, Bool, true, false, not, List, length, nat_le, decimal, Option, Some, None, if◌then◌else◌, Result, Ok, Err, codes}
use Rattle.serde_json.specs.Data.{Data}
use Rattle.dimensions.specs.declared.dim_fault.DimRule.{DimRule}
use Rattle.dimensions.specs.declared.dim_fault.DimRule.TheVariants as dim_rule
use Rattle.dimensions.specs.BotRules.{first_bot_broken}
use Rattle.dimensions.specs.Choosing.{when, ◌or_else◌}
use Rattle.dimensions.specs.Order.{sorted_bot}
use Rattle.dimensions.specs.Alike.{same}
use Rattle.task_props.specs.declared.prop_rule.PropRule.{PropRule}
use Rattle.task_props.specs.declared.prop_rule.PropRule.TheVariants.{Count, Grammar}
use Rattle.task_props.specs.declared.prop_fault.PropFault.{PropFault}
use Rattle.task_props.specs.declared.prop_fault.PropFault.TheVariants.{Broken}
use Rattle.task_props.specs.FieldRules.{rule_of}
use Rattle.swarm_model.specs.declared.entry.EventKind.{EventKind}
use Rattle.swarm_model.specs.declared.entry.EventKind.TheVariants.{Ping, Quarantine, Unquarantine}
use Rattle.swarm_model.specs.Fits.{fits_message}
use Rattle.bot_bodies.specs.declared.bot_fields.RawBotInfo.{RawBotInfo}
use Rattle.bot_bodies.specs.declared.bot_fields.BotInfo.{BotInfo}
use Rattle.json_fields.specs.Readings.{at, below, ◌>>=◌}
use Rattle.json_fields.specs.Fields.{text_at, object_item, text_item, each_at, items_at}

-- ---- dimensions

-- a key with its values; an absent list is empty
unfoldable pub bot_pair_in : Data → Result (List ℕ × List (List ℕ)) PropFault
bot_pair_in d = do
  key ← text_at (codes "key") d
  values ← items_at text_item (codes "value") d
  Ok (key, values)

-- of a pair, or else of the list as a whole; too many pairs are told by the place 64, which no pair has
abbrev pub is_of_pair : DimRule → ℕ → Bool
is_of_pair dim_rule.TooMany place = not (place == 64)
is_of_pair dim_rule.BadKey place = true
is_of_pair dim_rule.BadValue place = true
is_of_pair dim_rule.EmptyAlternative place = true
is_of_pair dim_rule.Repeated place = true
is_of_pair dim_rule.Pool place = false
is_of_pair dim_rule.Id place = false

abbrev pub dims_fault : DimRule → ℕ → PropFault
dims_fault broken place =
    if is_of_pair broken place then below (codes "dimensions") (Broken (decimal place) (rule_of broken))
    else Broken (codes "dimensions") (rule_of broken)

abbrev pub unless_dims_broken : List (List ℕ × List (List ℕ)) → Option (DimRule × ℕ) → Result (List (List ℕ × List (List ℕ))) PropFault
unless_dims_broken dims None = Ok dims
unless_dims_broken dims (Some broken) = Err (dims_fault broken.0 broken.1)

-- the dimensions of a bot of this name
unfoldable pub dims_of : List ℕ → List (List ℕ × List (List ℕ)) → Result (List (List ℕ × List (List ℕ))) PropFault
dims_of name pairs = unless_dims_broken (sorted_bot pairs) (first_bot_broken name pairs)

-- ---- messages

-- why a bot takes no work, where it takes none: at most 256 bytes
abbrev pub quarantine_of : List ℕ → Result (List ℕ) PropRule
quarantine_of text = if nat_le (length text) 256 then Ok text else Err Count

-- what a body says of a bot
unfoldable pub bot_info_in : Data → Result RawBotInfo PropFault
bot_info_in d = do
  pairs ← each_at (object_item bot_pair_in) (codes "dimensions") d
  message ← text_at (codes "quarantined") d
  Ok (record { pairs = pairs; quarantined = message })

-- the same of a bot of this name, where no rule is broken
unfoldable pub bot_info_by : List ℕ → RawBotInfo → Result BotInfo PropFault
bot_info_by name raw = do
  dims ← dims_of name raw.pairs
  message ← at (codes "quarantined") (quarantine_of raw.quarantined)
  Ok (record { dims = dims; quarantined = message })

-- the message of an event
abbrev pub message_of : EventKind → List ℕ → Result (List ℕ) PropRule
message_of kind text = if fits_message kind text then Ok text else Err Count

-- the event of a name
unfoldable pub event_named : List ℕ → Option EventKind
event_named name =
    when (same name (codes "ping")) Ping
    or_else (when (same name (codes "quarantine")) Quarantine
    or_else when (same name (codes "unquarantine")) Unquarantine)

abbrev pub or_no_event : Option EventKind → Result EventKind PropRule
or_no_event None = Err Grammar
or_no_event (Some kind) = Ok kind

abbrev pub event_of : List ℕ → Result EventKind PropRule
event_of name = or_no_event (event_named name)
