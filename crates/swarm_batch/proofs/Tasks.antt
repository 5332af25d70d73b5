-- The task of a line under a uuid is the line's task.
use Rattle.std.proofs.Common.{◌≡◌, ℕ, false, List, [], Option, Some, None, Result, Ok, Err, bytes_eq, refl, sym, ap, ◌∙◌, true≢false, length}
use Rattle.std.specs.Prelude.{ℤ, codes}
use Rattle.std.specs.Option.{option_map}
use Rattle.std.proofs.lemmas.Slice.Eq.{bytes_eq-Decides}
use Rattle.serde_json.specs.Data.{Data}
use Rattle.dimensions.specs.Choosing.{◌or_else◌}
use Rattle.task_props.specs.declared.prop_rule.PropRule.{PropRule}
use Rattle.task_props.specs.declared.prop_fault.PropFault.{PropFault}
use Rattle.task_props.specs.declared.task_field.TaskField.TheVariants as task_field
use Rattle.task_props.specs.FieldRules.{name_rule, priority_rule, meant_tolerance, tolerance_rule, uuid_rule, count_rule, broken_at}
use Rattle.task_props.specs.declared.new_task.NewTask.{NewTask}
use Rattle.task_checks.specs.declared.raw_task.RawTask.{RawTask}
use Rattle.task_checks.specs.declared.raw_task.RawSlice.{RawSlice}
use Rattle.task_checks.specs.Broken.{first_broken_slice, broken_slices, with_path, first_broken_task}
use Rattle.task_checks.specs.Reading.{task_of}
use Rattle.json_fields.specs.Readings.{at, ◌>>=◌}
use Rattle.json_fields.specs.Fields.{present, or_absent, text_of, text_in, number_in, list_in, text_at, number_at, each_at, object_item}
use Rattle.task_bodies.specs.Tasks.{slice_in, fields_of, unless_task_broken, checked, task_in}
use Rattle.swarm_batch.specs.Named.{uuid_key, IsNamed}
use Rattle.swarm_batch.specs.Tasks.{under, NamingKeepsTheTask, NamedTaskHasUuid}
use Rattle.swarm_batch.proofs.Naming.{naming_law}

-- ---- rules

with_uuid_rule : RawTask → Option PropRule → Option (List ℕ × PropRule)
with_uuid_rule raw o =
    option_map with_path (
    (option_map (broken_at task_field.Name) (name_rule raw.name)
    or_else option_map (broken_at task_field.Priority) (priority_rule raw.priority)
    or_else option_map (broken_at task_field.BotPingToleranceSecs) (tolerance_rule (meant_tolerance raw.bot_ping_tolerance_secs))
    or_else option_map (broken_at task_field.RequestUuid) o
    or_else option_map (broken_at task_field.TaskSlices) (count_rule 8 (length raw.task_slices))
    or_else first_broken_slice 0 raw.task_slices)
    or_else broken_slices raw)

unless_broken : (uuid : List ℕ) (task : NewTask) (o : Option (List ℕ × PropRule)) → unless_task_broken (record task { request_uuid = uuid }) o ≡ under uuid (unless_task_broken task o)
unless_broken uuid task None = refl
unless_broken uuid task (Some broken) = refl

checked_under : (uuid : List ℕ) (raw : RawTask) → uuid_rule uuid ≡ None → raw.request_uuid ≡ [] → checked (record raw { request_uuid = uuid }) ≡ under uuid (checked raw)
unfolding checked with_uuid_rule
checked_under uuid raw fine none =
    let other : first_broken_task (record raw { request_uuid = uuid }) ≡ first_broken_task raw =
    ap (with_uuid_rule raw) fine ∙ sym (ap (λ (u : List ℕ). with_uuid_rule raw (uuid_rule u)) none) in
    ap (unless_task_broken (task_of (record raw { request_uuid = uuid }))) other ∙ unless_broken uuid (task_of raw) (first_broken_task raw)

-- ---- fields

joined : Result (List ℕ) PropFault → Result ℤ PropFault → Result ℤ PropFault → Result (List ℕ) PropFault → Result (List RawSlice) PropFault → Result RawTask PropFault
joined name priority tolerance uuid slices = do
  n ← name
  p ← priority
  t ← tolerance
  u ← uuid
  s ← slices
  Ok (record { name = n; priority = p; bot_ping_tolerance_secs = t; request_uuid = u; task_slices = s })

joined_under : (uuid : List ℕ) (a : Result (List ℕ) PropFault) (b c : Result ℤ PropFault) (s : Result (List RawSlice) PropFault) → uuid_rule uuid ≡ None
    → (joined a b c (Ok uuid) s >>= checked) ≡ under uuid (joined a b c (Ok []) s >>= checked)
unfolding joined checked
joined_under uuid (Err e) b c s fine = refl
joined_under uuid (Ok n) (Err e) c s fine = refl
joined_under uuid (Ok n) (Ok p) (Err e) s fine = refl
joined_under uuid (Ok n) (Ok p) (Ok t) (Err e) fine = refl
joined_under uuid (Ok n) (Ok p) (Ok t) (Ok slices) fine =
    checked_under uuid (record { name = n; priority = p; bot_ping_tolerance_secs = t; request_uuid = []; task_slices = slices }) fine refl

fields_are : (d : Data) → fields_of d
    ≡ joined (text_at (codes "name") d) (number_at (codes "priority") d) (number_at (codes "bot_ping_tolerance_secs") d) (text_at uuid_key d) (each_at (object_item slice_in) (codes "task_slices") d)
unfolding fields_of joined text_in
fields_are d = refl

apart : (k : List ℕ) → bytes_eq k uuid_key ≡ false → k ≡ uuid_key → ⊥
apart k e h = true≢false (sym ((bytes_eq-Decides k uuid_key).1 h) ∙ e)

module _ (uuid : List ℕ) (d e : Data) (n : IsNamed uuid d e) where
  same_text : (k : List ℕ) → bytes_eq k uuid_key ≡ false → text_at k e ≡ text_at k d
  unfolding text_in
  same_text k h = ap (λ (o : Option Data). at k (or_absent text_of (Ok []) o)) (n.others k (apart k h))

  same_number : (k : List ℕ) → bytes_eq k uuid_key ≡ false → number_at k e ≡ number_at k d
  unfolding number_in
  same_number k h = rw (n.others k (apart k h)) refl

  same_slices : (k : List ℕ) → bytes_eq k uuid_key ≡ false → each_at (object_item slice_in) k e ≡ each_at (object_item slice_in) k d
  unfolding list_in
  same_slices k h = rw (n.others k (apart k h)) refl

  its_uuid : text_at uuid_key e ≡ Ok uuid
  unfolding text_in
  its_uuid = ap (λ (o : Option Data). at uuid_key (or_absent text_of (Ok []) o)) n.uuid_is

  no_uuid : present uuid_key d ≡ None → text_at uuid_key d ≡ Ok []
  unfolding text_in
  no_uuid none = ap (λ (o : Option Data). at uuid_key (or_absent text_of (Ok []) o)) none

  fields_under : fields_of e
      ≡ joined (text_at (codes "name") d) (number_at (codes "priority") d) (number_at (codes "bot_ping_tolerance_secs") d) (Ok uuid) (each_at (object_item slice_in) (codes "task_slices") d)
  fields_under =
      fields_are e
      ∙ rw (same_text (codes "name") refl, same_number (codes "priority") refl, same_number (codes "bot_ping_tolerance_secs") refl, its_uuid, same_slices (codes "task_slices") refl) refl

  task_under : present uuid_key d ≡ None → uuid_rule uuid ≡ None → task_in e ≡ under uuid (task_in d)
  unfolding task_in
  task_under none fine =
      ap (λ (r : Result RawTask PropFault). r >>= checked) fields_under
      ∙ joined_under uuid (text_at (codes "name") d) (number_at (codes "priority") d) (number_at (codes "bot_ping_tolerance_secs") d) (each_at (object_item slice_in) (codes "task_slices") d) fine
      ∙ ap (λ (r : Result RawTask PropFault). under uuid (r >>= checked))
      (sym (fields_are d ∙ ap (λ (u : Result (List ℕ) PropFault). joined (text_at (codes "name") d) (number_at (codes "priority") d) (number_at (codes "bot_ping_tolerance_secs") d) u (each_at (object_item slice_in) (codes "task_slices") d)) (no_uuid none)))

pub naming_keeps_the_task : NamingKeepsTheTask
naming_keeps_the_task uuid d e fine none is = task_under uuid d e (naming_law uuid d e is) none fine

-- ---- the uuid

checked_uuid : (raw : RawTask) (task : NewTask) → checked raw ≡ Ok task → task.request_uuid ≡ raw.request_uuid
unfolding checked
checked_uuid raw task e = by_rule (first_broken_task raw) e
  where
    by_rule : (o : Option (List ℕ × PropRule)) → unless_task_broken (task_of raw) o ≡ Ok task → task.request_uuid ≡ raw.request_uuid
    by_rule None h = let is : task_of raw ≡ task = cc in ap (λ (t : NewTask). t.request_uuid) (sym is)
    by_rule (Some broken) h = absurd (cc)

joined_uuid : (uuid : List ℕ) (a : Result (List ℕ) PropFault) (b c : Result ℤ PropFault) (s : Result (List RawSlice) PropFault) (task : NewTask)
    → (joined a b c (Ok uuid) s >>= checked) ≡ Ok task → task.request_uuid ≡ uuid
unfolding joined checked
joined_uuid uuid (Err e) b c s task h = absurd (cc)
joined_uuid uuid (Ok n) (Err e) c s task h = absurd (cc)
joined_uuid uuid (Ok n) (Ok p) (Err e) s task h = absurd (cc)
joined_uuid uuid (Ok n) (Ok p) (Ok t) (Err e) task h = absurd (cc)
joined_uuid uuid (Ok n) (Ok p) (Ok t) (Ok slices) task h =
    checked_uuid (record { name = n; priority = p; bot_ping_tolerance_secs = t; request_uuid = uuid; task_slices = slices }) task h

pub named_task_has_uuid : NamedTaskHasUuid
unfolding task_in
named_task_has_uuid uuid d e task is t =
    joined_uuid uuid (text_at (codes "name") d) (number_at (codes "priority") d) (number_at (codes "bot_ping_tolerance_secs") d) (each_at (object_item slice_in) (codes "task_slices") d) task
    (ap (λ (r : Result RawTask PropFault). r >>= checked) (sym (fields_under uuid d e (naming_law uuid d e is))) ∙ t)
