-- The properties of the tasks of a sound pool break no rule.
use Rattle.std.proofs.Common.{◌≡◌, true, is_none, IsTrue, pos}
use Rattle.std.specs.List.{All, list_all}
use Rattle.std.proofs.lemmas.Bool.{and_parts}
use Rattle.std.proofs.lemmas.List.Sums.{AllPass-from_list_all}
use Rattle.task_props.specs.Checked.{is_checked, is_sound_slice, are_sound}
use Rattle.task_props.specs.FieldRules.{expiration_rule}
use Rattle.task_props.specs.Slices.{slices_rule}
use Rattle.log_laws.specs.Types.{Slice, NewTask, TaskRow}
use Rattle.swarm_model.specs.History.{replay}
use Rattle.pool_laws.proofs.Lists.{each, all}
use Rattle.pool_laws.proofs.Rows.{task_is}
use Rattle.pool_laws.proofs.Sound.{sound_replay}
use Rattle.log_laws.specs.Checked.{PropertiesAreChecked}

abbrev HasSoundSlices : NewTask → Type 0
HasSoundSlices task = All (λ (slice : Slice). IsTrue (are_sound slice.properties)) task.task_slices

slices_sound : (task : NewTask) → is_checked task ≡ true → HasSoundSlices task
slices_sound task h =
    let fields = (and_parts _ (is_none (slices_rule task.task_slices)) h).0 in
    let passes = AllPass-from_list_all is_sound_slice task.task_slices (and_parts _ (list_all is_sound_slice task.task_slices) fields).1 in
    all (λ (slice : Slice). IsTrue (are_sound slice.properties)) task.task_slices
    (λ slice a. (and_parts (is_none (expiration_rule (pos slice.expiration_secs))) (are_sound slice.properties) (each (λ (x : Slice). is_sound_slice x ≡ true) task.task_slices passes slice a)).1)

pub properties_checked : PropertiesAreChecked
properties_checked base log o c =
    let sound = sound_replay base log o c in
    all (λ (task : TaskRow). HasSoundSlices task.request) (replay base log).tasks (λ task a. slices_sound task.request (task_is (replay base log) sound task a).checked)
