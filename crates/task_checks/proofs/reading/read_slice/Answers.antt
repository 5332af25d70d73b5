use Rattle.std.proofs.Common.{◌≡◌, ◌∙◌, ap, sym, true, rules}
use Rattle.dimensions.specs.Order.{sorted_pairs}
use Rattle.dimensions.specs.Rules.{are_checked}
use Rattle.task_props.specs.declared.properties.Properties.{Properties}
use Rattle.task_props.specs.declared.slice.Slice.{Slice}
use Rattle.task_props.specs.Checked.{is_sound_slice}
use Rattle.task_checks.specs.Reading.{slice_of}
use Rattle.task_checks.proofs.SliceParts.{slice_parts, slice_unbroken}
use Rattle.task_checks.proofs.reading.read_slice.Goals as goal

pub read_properties-requires-clause-inputs : goal.read_properties-requires-clause-inputs
read_properties-requires-clause-inputs c = (slice_parts c.args.raw c.requires).inputs

pub read_properties-requires-clause-execution : goal.read_properties-requires-clause-execution
read_properties-requires-clause-execution c = (slice_parts c.args.raw c.requires).execution

pub read_properties-requires-clause-io : goal.read_properties-requires-clause-io
read_properties-requires-clause-io c = (slice_parts c.args.raw c.requires).io

pub read_properties-requires-clause-grace : goal.read_properties-requires-clause-grace
read_properties-requires-clause-grace c = (slice_parts c.args.raw c.requires).grace

pub returns-clause-sound : goal.returns-clause-sound
returns-clause-sound c =
    let read = c.in_ok-read_properties.ensures in
    let checked : are_checked (sorted_pairs c.args.raw.properties.dimensions) ≡ true = ap (λ (p : Properties). are_checked p.dimensions) (sym read.value) ∙ read.checked in
    let slice : Slice = record {
      expiration_secs = c.natural.result;
      wait_for_capacity = c.args.raw.wait_for_capacity;
      properties = c.in_ok-read_properties.field-0;
    } in
    let is : slice ≡ slice_of c.args.raw = search rules in
    ap is_sound_slice is ∙ slice_unbroken c.args.raw c.requires checked
