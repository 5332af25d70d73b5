-- What a bot is told to do.
use Rattle.std.specs.Prelude.{ℕ, pos, true, List, [], ◌∷◌, Option, Some, None, if◌then◌else◌, Result, Ok, Err, codes}
use Rattle.serde_json.specs.Data.{Data}
use Rattle.dimensions.specs.Alike.{same}
use Rattle.task_props.specs.declared.properties.Properties.{Properties}
use Rattle.server_calls.specs.Types.{PropRule, Grammar, PropFault, Broken}
use Rattle.task_checks.specs.declared.raw_task.RawTask.{RawTask}
use Rattle.task_checks.specs.declared.raw_task.RawProperties.{RawProperties}
use Rattle.task_checks.specs.Broken.{first_broken_task}
use Rattle.task_checks.specs.Reading.{properties_of}
use Rattle.task_bodies.specs.SliceProperties.{properties_at}
use Rattle.swarm_model.specs.declared.reply.Reply.TheVariants as reply
use Rattle.json_fields.specs.Readings.{◌>>=◌}
use Rattle.json_fields.specs.Fields.{required_text_at}
use Rattle.server_calls.specs.declared.told.Told.{Told}
use Rattle.server_calls.specs.declared.ids.RunId.{RunId}
use Rattle.server_calls.specs.Members.{with_keys, whole_in}
use Rattle.server_calls.specs.Places.{run_id_in, one_place}
use Rattle.server_calls.specs.Tasks.{good}

-- ---- Poll

unfoldable pub sleep_in : Data → Result Told PropFault
sleep_in d = do
  o ← with_keys (codes "cmd" ∷ codes "duration" ∷ []) d
  secs ← whole_in (codes "duration") 18446744073709551615 d
  Ok (good 0 (reply.Sleep secs))

abbrev pub claim_hint : Data → Result Told PropFault
claim_hint d = with_keys (codes "cmd" ∷ []) d >>= (λ o. Ok (good 0 reply.ClaimHint))

abbrev pub terminate : Data → Result Told PropFault
terminate d = with_keys (codes "cmd" ∷ []) d >>= (λ o. Ok (good 0 reply.Terminate))

abbrev pub poll_by : List ℕ → Data → Result Told PropFault
poll_by cmd d =
    if same cmd (codes "sleep") then sleep_in d
    else (if same cmd (codes "claim") then claim_hint d
    else (if same cmd (codes "terminate") then terminate d
    else Err (Broken (codes "cmd") Grammar)))

unfoldable pub polled_in : Data → Result Told PropFault
polled_in d = do
  cmd ← required_text_at (codes "cmd") d
  poll_by cmd d

-- ---- Claim

-- the task of one slice that has these properties
abbrev pub task_with : RawProperties → RawTask
task_with properties = record {
  name = [];
  priority = pos 0;
  bot_ping_tolerance_secs = pos 0;
  request_uuid = [];
  task_slices = record { expiration_secs = pos 1; wait_for_capacity = true; properties = properties } ∷ [];
}

abbrev pub unless_broken : {A : Type 0} → A → Option (List ℕ × PropRule) → Result A PropFault
unless_broken x None = Ok x
unless_broken x (Some broken) = Err (Broken broken.0 broken.1)

-- properties that a task may have: a task of them breaks no rule
unfoldable pub checked_properties : RawProperties → Result Properties PropFault
checked_properties raw = unless_broken (properties_of raw) (first_broken_task (task_with raw))

unfoldable pub properties_in : Data → Result Properties PropFault
properties_in d = do
  raw ← properties_at (codes "properties") d
  checked_properties raw

abbrev pub run_keys : List (List ℕ)
run_keys = codes "bot_ping_tolerance_secs" ∷ codes "cmd" ∷ codes "properties" ∷ codes "run_id" ∷ codes "slice" ∷ []

unfoldable pub checked_run : Data → Result Data PropFault
checked_run d = with_keys run_keys d

unfoldable pub named_run_in : Data → Result RunId PropFault
named_run_in d = run_id_in (codes "run_id") d

unfoldable pub slice_in : Data → Result ℕ PropFault
slice_in d = whole_in (codes "slice") 4294967295 d

unfoldable pub tolerance_in : Data → Result ℕ PropFault
tolerance_in d = whole_in (codes "bot_ping_tolerance_secs") 4294967295 d

unfoldable pub run_in : Data → Result Told PropFault
run_in d = do
  o ← checked_run d
  id ← named_run_in d
  place ← one_place (Some id.place ∷ [])
  slice ← slice_in d
  tolerance ← tolerance_in d
  properties ← properties_in d
  Ok (good place (reply.Run id.run.0 id.run.1 slice tolerance properties))

abbrev pub skip : Data → Result Told PropFault
skip d = with_keys (codes "cmd" ∷ []) d >>= (λ o. Ok (good 0 reply.Skip))

abbrev pub claim_by : List ℕ → Data → Result Told PropFault
claim_by cmd d =
    if same cmd (codes "run") then run_in d
    else (if same cmd (codes "skip") then skip d
    else Err (Broken (codes "cmd") Grammar))

unfoldable pub claimed_in : Data → Result Told PropFault
claimed_in d = do
  cmd ← required_text_at (codes "cmd") d
  claim_by cmd d
