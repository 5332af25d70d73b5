-- The task of a line, under a uuid.
use Rattle.std.specs.Prelude.{◌≡◌, ℕ, List, Some, None, Result, Ok, Err}
use Rattle.serde_json.specs.Data.{Data}
use Rattle.task_props.specs.declared.new_task.NewTask.{NewTask}
use Rattle.task_props.specs.declared.prop_fault.PropFault.{PropFault}
use Rattle.task_props.specs.FieldRules.{uuid_rule}
use Rattle.json_fields.specs.Fields.{present}
use Rattle.task_bodies.specs.Tasks.{task_in}
use Rattle.swarm_batch.specs.Named.{uuid_key, named}

abbrev pub under : List ℕ → Result NewTask PropFault → Result NewTask PropFault
under uuid (Ok task) = Ok (record task { request_uuid = uuid })
under uuid (Err broken) = Err broken

-- what a line without a uuid means under a uuid that is in order is the line's task, with that uuid
abbrev pub NamingKeepsTheTask : Type 0
NamingKeepsTheTask =
    (uuid : List ℕ) (d e : Data) → uuid_rule uuid ≡ None → present uuid_key d ≡ None → named uuid d ≡ Some e → task_in e ≡ under uuid (task_in d)

-- the task has that uuid
abbrev pub NamedTaskHasUuid : Type 0
NamedTaskHasUuid = (uuid : List ℕ) (d e : Data) (task : NewTask) → named uuid d ≡ Some e → task_in e ≡ Ok task → task.request_uuid ≡ uuid
