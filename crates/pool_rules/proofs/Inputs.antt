-- What is missing of the inputs of the slices from a place on.
use Rattle.std.proofs.Common.{◌≡◌, ℕ, ◌+◌, ◌<◌, List, length, drop, get_or, ap, ◌∙◌}
use Rattle.std.specs.Option.{option_or}
use Rattle.std.proofs.lemmas.List.{drop_more}
use Rattle.std.proofs.lemmas.List.Concat.{flat_map-cons}
use Rattle.std.proofs.lemmas.List.Folds.{find-append}
use Rattle.task_props.specs.declared.slice.Slice.{Slice}
use Rattle.swarm_model.specs.declared.pool_state.PoolState.{PoolState}
use Rattle.swarm_model.specs.Blobs.{lacks, missing_file, inputs_of}

pub missing_input_from : (s : PoolState) (slices : List Slice) (place : ℕ) (d : Slice) → place < length slices →
    missing_file s (inputs_of (drop place slices)) ≡ option_or (missing_file s (get_or slices place d).properties.inputs) (missing_file s (inputs_of (drop (place + 1) slices)))
missing_input_from s slices place d low =
    let slice = get_or slices place d in
    ap (λ (rest : List Slice). missing_file s (inputs_of rest)) (drop_more slices place d low)
    ∙ ap (missing_file s) (flat_map-cons (λ (one : Slice). one.properties.inputs) slice (drop (place + 1) slices))
    ∙ find-append (lacks s) slice.properties.inputs (inputs_of (drop (place + 1) slices))
