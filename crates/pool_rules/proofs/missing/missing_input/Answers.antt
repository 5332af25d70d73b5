-- The inputs of the slice at hand come before those of the later slices.
use Rattle.std.proofs.Common.{◌+◌, Option, sym, ap, ◌∙◌, drop, arith}
use Rattle.std.specs.Option.{option_or, option_copied}
use Rattle.task_props.specs.declared.file.File.{File}
use Rattle.swarm_model.specs.Blobs.{missing_file, inputs_of}
use Rattle.pool_rules.proofs.Inputs.{missing_input_from}
use Rattle.pool_rules.proofs.missing.missing_input.Goals as goal

pub returns-in-Some : goal.returns-in-Some
returns-in-Some g c =
    let s = g.P.ReadQueries.state c.args.pool.now in
    let slices = c.args.slices.now in
    let place = c.loop-place.place in
    let here = ap (missing_file s) (sym c.as_slice-inputs.ensures) ∙ sym c.missing_file.ensures ∙ ap option_copied c.in-Some.is in
    sym (ap (λ (found : Option File). option_or found (missing_file s (inputs_of (drop (place + 1) slices)))) here)
    ∙ sym (missing_input_from s slices place c.index-slices-place.result (omega arith))
    ∙ c.loop-place.invariant

pub loop-place-preserved : goal.loop-place-preserved
loop-place-preserved g c =
    let s = g.P.ReadQueries.state c.args.pool.now in
    let slices = c.args.slices.now in
    let place = c.loop-place.place in
    let none = ap (missing_file s) (sym c.as_slice-inputs.ensures) ∙ sym c.missing_file.ensures ∙ ap option_copied c.in_default.is in
    sym (ap (λ (found : Option File). option_or found (missing_file s (inputs_of (drop (place + 1) slices)))) none)
    ∙ sym (missing_input_from s slices place c.index-slices-place.result (omega arith))
    ∙ c.loop-place.invariant
