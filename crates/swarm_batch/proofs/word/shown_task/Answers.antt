use Rattle.std.proofs.Common.{◌≡◌, sym, ◌∙◌, true, true≢false}
use Rattle.swarm_batch.specs.Marks.{is_task}
use Rattle.swarm_batch.proofs.Words.{id_is_utf8, id_is_no_error, id_parts_read}
use Rattle.swarm_batch.proofs.word.shown_task.Goals as goal

pub returns-in_default-clause-found : goal.returns-in_default-clause-found
returns-in_default-clause-found c = λ place task h e. absurd (c.in_default.ensures.cases.0 (id_is_utf8 place task c.args.word.now h e))

pub returns-in_default-from_str_radix-clause-found : goal.returns-in_default-from_str_radix-clause-found
returns-in_default-from_str_radix-clause-found c = λ place task h e.
    id_is_no_error place task c.in-Ok.word.now c.in_default-from_str_radix.field-0 h (e ∙ sym c.in-Ok.ensures.cases.0) c.in_default-from_str_radix.ensures.value

pub returns-then-is_task-clause-found : goal.returns-then-is_task-clause-found
returns-then-is_task-clause-found c = λ place task h e.
    let parts = id_parts_read place task c.in-Ok-from_str_radix.id c.in-Ok.word.now c.from_str_radix.result h (e ∙ sym c.in-Ok.ensures.cases.0) c.in-Ok-from_str_radix.is c.from_str_radix.ensures.value in
    let its_place = c.place_of_id-place.ensures ∙ parts.0 in
    let its_task = c.task_of_id-task.ensures.is ∙ parts.1 in
    cc

pub returns-else-is_task-clause-found : goal.returns-else-is_task-clause-found
returns-else-is_task-clause-found c = λ place task h e.
    let parts = id_parts_read place task c.in-Ok-from_str_radix.id c.in-Ok.word.now c.from_str_radix.result h (e ∙ sym c.in-Ok.ensures.cases.0) c.in-Ok-from_str_radix.is c.from_str_radix.ensures.value in
    let its_place = c.place_of_id-place.ensures ∙ parts.0 in
    let its_task = c.task_of_id-task.ensures.is ∙ parts.1 in
    let fits : is_task c.place_of_id-place.result c.task_of_id-task.result ≡ true = rw (its_place, its_task) h in
    absurd (true≢false (sym fits ∙ sym c.is_task.ensures ∙ c.if-is_task.false))
