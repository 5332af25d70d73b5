-- The task enters the queue that was made ready for it.
use Rattle.std.proofs.Common.{ℕ, Option, sym, subst, ap, ◌∙◌}
use Rattle.std.specs.Option.{option_copied}
use Rattle.task_props.specs.declared.new_task.NewTask.{NewTask}
use Rattle.dim_queue.specs.Plain.{Enters}
use Rattle.dim_queue.specs.Taking.{set_with}
use Rattle.swarm_machine.proofs.Loading.{entered}
use Rattle.swarm_machine.proofs.loading_indexes.load_queue.Goals as goal

pub enter-requires-clause-absent : goal.enter-requires-clause-absent
enter-requires-clause-absent c w set waits = c.requires w set ((c.reserve.ensures.same w set).0 waits)

pub returns-in_ok-reserve : goal.returns-in_ok-reserve
returns-in_ok-reserve c =
    let task = c.args.task.now in
    let slice = c.in-Some.slice.now in
    let mid = c.reserve.new.self.queues in
    let new = c.enter.new.self.queues in
    entered task slice c.args.queues.now.queues mid new (sym c.has_state.ensures ∙ c.if-has_state.true) (sym c.current_slice.ensures ∙ ap option_copied c.in-Some.is) c.reserve.ensures.same
    (subst (λ (but : Option ℕ). Enters (record { priority = task.request.priority; number = task.no }) (set_with slice.properties.dimensions but) mid new) c.kept_from-but.ensures
    (subst (λ (request : NewTask). Enters (record { priority = request.priority; number = task.no }) (set_with slice.properties.dimensions c.kept_from-but.result) mid new) c.deref.ensures c.enter.ensures.enters))
