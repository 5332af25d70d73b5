-- The members of a reply, by their keys.
use Rattle.std.specs.Prelude.{ℕ, ℤ, Bool, List, [], Option, Some, None, Result, Ok, Err, codes}
use Rattle.serde_json.specs.Data.{Data}
use Rattle.task_props.specs.declared.file.File.{File}
use Rattle.server_calls.specs.Types.{PropRule, Missing, Grammar, PropFault, Broken, TaskState}
use Rattle.swarm_model.specs.States.{state_named}
use Rattle.json_fields.specs.Readings.{at, ◌>>=◌}
use Rattle.json_fields.specs.Fields.{some_of as field_some, present, or_absent, object_of, text_of, flag_of, required_text_at, optional_number_at, unknown_key, unless_unknown}
use Rattle.json_fields.specs.Digests.{digest_at}
use Rattle.json_fields.specs.Ranges.{whole_at}

-- an object that has no members but those of these keys
unfoldable pub with_keys : List (List ℕ) → Data → Result Data PropFault
with_keys keys d = do
  o ← at [] (object_of d)
  unless_unknown o (unknown_key keys o)

abbrev pub or_rule : {A : Type 0} → List ℕ → PropRule → Option A → Result A PropFault
or_rule key rule None = Err (Broken key rule)
or_rule key rule (Some x) = Ok x

abbrev pub some_of : {A : Type 0} → Result A PropFault → Result (Option A) PropFault
some_of (Ok x) = Ok (Some x)
some_of (Err e) = Err e

-- ---- members that must be there

unfoldable pub flag_in : List ℕ → Data → Result Bool PropFault
flag_in key d = at key (or_absent flag_of (Err Missing) (present key d))

-- a whole number up to the highest
unfoldable pub whole_in : List ℕ → ℕ → Data → Result ℕ PropFault
whole_in key highest d = do
  some ← optional_number_at key d
  number ← or_rule key Missing some
  whole_at key 0 highest number

-- the state of a name
unfoldable pub state_in : Data → Result TaskState PropFault
state_in d = do
  name ← required_text_at (codes "state") d
  or_rule (codes "state") Grammar (state_named name)

unfoldable pub digest_in : List ℕ → Data → Result (List ℕ) PropFault
digest_in key d = do
  text ← required_text_at key d
  digest_at key text

-- ---- members that may be null

abbrev pub some_whole : List ℕ → ℕ → ℕ → Option ℤ → Result (Option ℕ) PropFault
some_whole key lowest highest None = Ok None
some_whole key lowest highest (Some number) = some_of (whole_at key lowest highest number)

-- a whole number from the lowest to the highest, where there is one
unfoldable pub whole_or_none : List ℕ → ℕ → ℕ → Data → Result (Option ℕ) PropFault
whole_or_none key lowest highest d = do
  some ← optional_number_at key d
  some_whole key lowest highest some

abbrev pub some_text : Data → Result (Option (List ℕ)) PropRule
some_text d = field_some (text_of d)

-- a text, where there is one
unfoldable pub text_or_none : List ℕ → Data → Result (Option (List ℕ)) PropFault
text_or_none key d = at key (or_absent some_text (Ok None) (present key d))

-- ---- files

-- a file, by its path, its digest and its size
unfoldable pub file_in : Data → Result File PropFault
file_in d = do
  path ← required_text_at (codes "path") d
  digest ← digest_in (codes "digest") d
  size ← whole_in (codes "size") 16777216 d
  Ok (record { path = path; digest = digest; size = size })
