use Rattle.std.proofs.Common.{◌≡◌, ◌≢◌, Err, ap, ◌∙◌, arith, rules}
use Rattle.std.specs.Prelude.{codes}
use Rattle.std.proofs.lemmas.Grind.{common_steps}
use Rattle.serde_json.specs.View.{view}
use Rattle.task_props.specs.declared.prop_fault.PropFault.TheVariants.{Memory}
use Rattle.json_fields.specs.Fields.{number_in}
use Rattle.task_bodies.specs.Tasks.{fields_of}
use Rattle.task_bodies.proofs.Keys.{IsReadTo, priority, tolerance, uuid_broken, slices_broken, task_read}
use Rattle.task_bodies.proofs.tasks.take_task_fields.Goals as goal

pub returns-in_err-bot_ping_tolerance_secs : goal.returns-in_err-bot_ping_tolerance_secs
unfolding fields_of
returns-in_err-bot_ping_tolerance_secs c =
    let d = view c.args.body.now in
    let high : number_in (codes "priority") (view c.take_text.new.body) ≡ number_in (codes "priority") d = ap (number_in (codes "priority")) c.in_ok-name.ensures.left ∙ priority d in
    let long : number_in (codes "bot_ping_tolerance_secs") (view c.take_text.new.body) ≡ number_in (codes "bot_ping_tolerance_secs") d = ap (number_in (codes "bot_ping_tolerance_secs")) c.in_ok-name.ensures.left ∙ tolerance d in
    grind (arith, common_steps)

pub returns-in_err-request_uuid : goal.returns-in_err-request_uuid
returns-in_err-request_uuid c =
    let d = view c.args.body.now in
    let b = view c.take_text.new.body in
    let read : IsReadTo d b c.in_ok-name.name c.in_ok-priority.priority c.in_ok-bot_ping_tolerance_secs.bot_ping_tolerance_secs = record {
      left = c.in_ok-name.ensures.left;
      named = c.in_ok-name.ensures.read;
      at_high = c.in_ok-priority.ensures;
      at_long = c.in_ok-bot_ping_tolerance_secs.ensures;
    } in
    let broken : (c.in_err-request_uuid.field-0.0 ≢ Memory → fields_of d ≡ Err c.in_err-request_uuid.field-0.0) =
    λ m. uuid_broken d b c.in_ok-name.name c.in_ok-priority.priority c.in_ok-bot_ping_tolerance_secs.bot_ping_tolerance_secs c.in_err-request_uuid.field-0.0 read (c.in_err-request_uuid.ensures.read m) in
    search rules

pub returns-in_err-task_slices : goal.returns-in_err-task_slices
returns-in_err-task_slices c =
    let d = view c.args.body.now in
    let b = view c.take_text.new.body in
    let e = view c.take_text-2.new.body in
    let read : IsReadTo d b c.in_ok-name.name c.in_ok-priority.priority c.in_ok-bot_ping_tolerance_secs.bot_ping_tolerance_secs = record {
      left = c.in_ok-name.ensures.left;
      named = c.in_ok-name.ensures.read;
      at_high = c.in_ok-priority.ensures;
      at_long = c.in_ok-bot_ping_tolerance_secs.ensures;
    } in
    let broken : (c.in_err-task_slices.field-0.0 ≢ Memory → fields_of d ≡ Err c.in_err-task_slices.field-0.0) =
    λ m. slices_broken d b e c.in_ok-name.name c.in_ok-request_uuid.request_uuid c.in_ok-priority.priority c.in_ok-bot_ping_tolerance_secs.bot_ping_tolerance_secs c.in_err-task_slices.field-0.0 read c.in_ok-request_uuid.ensures.read c.in_ok-request_uuid.ensures.left (c.in_err-task_slices.ensures m) in
    search rules

pub returns : goal.returns
returns c =
    let d = view c.args.body.now in
    let b = view c.take_text.new.body in
    let e = view c.take_text-2.new.body in
    let read : IsReadTo d b c.in_ok-name.name c.in_ok-priority.priority c.in_ok-bot_ping_tolerance_secs.bot_ping_tolerance_secs = record {
      left = c.in_ok-name.ensures.left;
      named = c.in_ok-name.ensures.read;
      at_high = c.in_ok-priority.ensures;
      at_long = c.in_ok-bot_ping_tolerance_secs.ensures;
    } in
    task_read d b e c.in_ok-name.name c.in_ok-request_uuid.request_uuid c.in_ok-priority.priority c.in_ok-bot_ping_tolerance_secs.bot_ping_tolerance_secs c.in_ok-task_slices.task_slices read c.in_ok-request_uuid.ensures.read c.in_ok-request_uuid.ensures.left c.in_ok-task_slices.ensures
    ∙ search rules
