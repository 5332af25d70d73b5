-- Each row is copied, and has the number behind those before it.
use Rattle.std.proofs.Common.{◌≡◌, List, [], ◌∷◌, ◌++◌, length, take, sym, ap, ◌∙◌, arith}
use Rattle.swarm_model.specs.declared.task_row.TaskRow.{TaskRow}
use Rattle.swarm_model.specs.Effects.{no_of_task}
use Rattle.task_rows.specs.Plain.{TaskRowsState}
use Rattle.common_rows.proofs.LoadedRows.{next_number, more_rows}
use Rattle.common_rows.proofs.loading.load_tasks.Goals as goal

pub load-requires : goal.load-requires
load-requires c =
    let tasks = c.args.tasks.now in
    let place = c.loop-task.task-index in
    let next = next_number no_of_task place tasks c.task-item.result c.requires c.loop-task-test.true c.task-item.is in
    let copied : c.in_ok-try_copy.field-0.no ≡ c.task-item.result.no = ap no_of_task c.in_ok-try_copy.ensures in
    let so_far : length c.loop-task.loaded.rows ≡ length (take place tasks) = ap (λ (rows : List TaskRow). length rows) c.loop-task.invariant.rows in
    omega (arith, next, copied, so_far)

pub loop-task-preserved : goal.loop-task-preserved
loop-task-preserved c =
    let i = c.loop-task.invariant in
    let loaded = c.in_ok-load.ensures.ok in
    let copied = c.in_ok-try_copy.ensures in
    record {
      rows = ap (λ (x : TaskRowsState). x.rows) loaded
          ∙ (λ j. i.rows j ++ copied j ∷ [])
          ∙ sym (more_rows c.args.tasks.now c.loop-task.task-index c.task-item.result c.loop-task-test.true c.task-item.is);
      retries = ap (λ (x : TaskRowsState). x.retries) loaded ∙ i.retries;
    }
