-- Where a slice breaks no rule, each of its fields keeps its own.
use Rattle.std.proofs.Common.{◌≡◌, ℕ, ℤ, pos, negsuc, true, None, refl}
use Rattle.std.specs.Option.{option_map}
use Rattle.dimensions.specs.Order.{sorted_pairs}
use Rattle.dimensions.specs.Rules.{are_checked}
use Rattle.dimensions.proofs.Choosing.{none-first, none-other, option_map-none}
use Rattle.task_checks.specs.declared.raw_task.RawSlice.{RawSlice}
use Rattle.task_props.specs.declared.task_field.SliceField.TheVariants as slice_field
use Rattle.task_checks.specs.Broken.{broken_slice}
use Rattle.task_props.specs.Checked.{is_sound_slice}
use Rattle.task_props.specs.FieldRules.{range_rule, expiration_rule, timeout_rule, grace_rule, broken_at, broken_command, broken_dimensions}
use Rattle.task_props.specs.ItemRules.{broken_env, broken_caches, broken_outputs}
use Rattle.task_checks.specs.Inputs.{broken_inputs}
use Rattle.task_checks.specs.Reading.{natural, slice_of}
use Rattle.task_checks.proofs.InputFiles.{are_inputs-sorted}
use Rattle.task_checks.proofs.Lists.{is_env-sorted, are_caches-sorted, are_outputs-sorted}

pub record SliceParts (raw : RawSlice) : Type 0 where
  pub expiration : expiration_rule raw.expiration_secs ≡ None
  pub command : broken_command raw.properties.command ≡ None
  pub env : broken_env raw.properties.env ≡ None
  pub dimensions : broken_dimensions raw.properties.dimensions ≡ None
  pub caches : broken_caches raw.properties.caches ≡ None
  pub inputs : broken_inputs raw.properties.inputs ≡ None
  pub outputs : broken_outputs raw.properties.outputs ≡ None
  pub execution : timeout_rule raw.properties.execution_timeout_secs ≡ None
  pub io : timeout_rule raw.properties.io_timeout_secs ≡ None
  pub grace : grace_rule raw.properties.grace_period_secs ≡ None

pub slice_parts : (raw : RawSlice) → broken_slice raw ≡ None → SliceParts raw
slice_parts raw none =
    let p = raw.properties in
    let expiration = option_map (broken_at slice_field.ExpirationSecs) (expiration_rule raw.expiration_secs) in
    let execution = option_map (broken_at slice_field.ExecutionTimeoutSecs) (timeout_rule p.execution_timeout_secs) in
    let io = option_map (broken_at slice_field.IoTimeoutSecs) (timeout_rule p.io_timeout_secs) in
    let at_command = none-other expiration _ none in
    let at_env = none-other (broken_command p.command) _ at_command in
    let at_dimensions = none-other (broken_env p.env) _ at_env in
    let at_caches = none-other (broken_dimensions p.dimensions) _ at_dimensions in
    let at_inputs = none-other (broken_caches p.caches) _ at_caches in
    let at_outputs = none-other (broken_inputs p.inputs) _ at_inputs in
    let at_execution = none-other (broken_outputs p.outputs) _ at_outputs in
    let at_io = none-other execution _ at_execution in
    let at_grace = none-other io _ at_io in
    record {
      expiration = option_map-none (broken_at slice_field.ExpirationSecs) _ (none-first expiration _ none);
      command = none-first (broken_command p.command) _ at_command;
      env = none-first (broken_env p.env) _ at_env;
      dimensions = none-first (broken_dimensions p.dimensions) _ at_dimensions;
      caches = none-first (broken_caches p.caches) _ at_caches;
      inputs = none-first (broken_inputs p.inputs) _ at_inputs;
      outputs = none-first (broken_outputs p.outputs) _ at_outputs;
      execution = option_map-none (broken_at slice_field.ExecutionTimeoutSecs) _ (none-first execution _ at_execution);
      io = option_map-none (broken_at slice_field.IoTimeoutSecs) _ (none-first io _ at_io);
      grace = option_map-none (broken_at slice_field.GracePeriodSecs) _ at_grace;
    }

pub natural_in_range : (low high : ℕ) (number : ℤ) → range_rule low high number ≡ None → range_rule low high (pos (natural number)) ≡ None
natural_in_range low high (pos n) none = none
natural_in_range low high (negsuc n) none = cc

-- the slice that it means is sound
pub slice_unbroken : (raw : RawSlice) → broken_slice raw ≡ None → are_checked (sorted_pairs raw.properties.dimensions) ≡ true → is_sound_slice (slice_of raw) ≡ true
slice_unbroken raw none checked =
    let p = slice_parts raw none in
    let expiration = natural_in_range 1 604800 raw.expiration_secs p.expiration in
    let execution = natural_in_range 0 604800 raw.properties.execution_timeout_secs p.execution in
    let io = natural_in_range 0 604800 raw.properties.io_timeout_secs p.io in
    let grace = natural_in_range 0 3600 raw.properties.grace_period_secs p.grace in
    let env = is_env-sorted raw.properties.env p.env in
    let caches = are_caches-sorted raw.properties.caches p.caches in
    let inputs = are_inputs-sorted raw.properties.inputs p.inputs in
    let outputs = are_outputs-sorted raw.properties.outputs p.outputs in
    rw (expiration, p.command, checked, env, caches, inputs, outputs, execution, io, grace) refl
