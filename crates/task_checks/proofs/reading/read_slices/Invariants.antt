use Rattle.std.proofs.Common.{◌≡◌, map, true}
use Rattle.std.specs.List.{list_all}
use Rattle.task_props.specs.Checked.{is_sound_slice}
use Rattle.task_checks.specs.Reading.{slice_of}
use Rattle.task_checks.proofs.reading.read_slices.Given as goal

abbrev pub invariant-loop-slice : goal.invariant-loop-slice
invariant-loop-slice l = record {
  read : l.slices.items ≡ map slice_of l.yielded;
  sound : list_all is_sound_slice l.slices.items ≡ true;
}
