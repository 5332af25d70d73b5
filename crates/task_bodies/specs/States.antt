-- The state that a body asks for.
use Rattle.std.specs.Prelude.{ℕ, List, Option, Some, None, if◌then◌else◌, Result, Ok, Err, codes}
use Rattle.serde_json.specs.Data.{Data}
use Rattle.dimensions.specs.Alike.{same}
use Rattle.task_props.specs.declared.prop_rule.PropRule.{PropRule}
use Rattle.task_props.specs.declared.prop_rule.PropRule.TheVariants.{Grammar}
use Rattle.task_props.specs.declared.prop_fault.PropFault.{PropFault}
use Rattle.swarm_model.specs.declared.task_state.TaskState.{TaskState}
use Rattle.json_fields.specs.Readings.{at}
use Rattle.json_fields.specs.Fields.{text_of, or_absent, present}
use Rattle.swarm_model.specs.States.{state_named}

-- an absent state is any
unfoldable pub state_text_in : Data → Result (List ℕ) PropRule
state_text_in d = or_absent text_of (Ok (codes "ALL")) (present (codes "state") d)

abbrev pub state_text_at : Data → Result (List ℕ) PropFault
state_text_at d = at (codes "state") (state_text_in d)

abbrev pub or_unnamed : Option TaskState → Result (Option TaskState) PropRule
or_unnamed None = Err Grammar
or_unnamed (Some state) = Ok (Some state)

-- the state of a name, or none for any
unfoldable pub state_of : List ℕ → Result (Option TaskState) PropRule
state_of name = if same name (codes "ALL") then Ok None else or_unnamed (state_named name)

abbrev pub state_at : List ℕ → Result (Option TaskState) PropFault
state_at name = at (codes "state") (state_of name)
