-- The settings that the base has are the pool's.
use Rattle.std.proofs.Common.{◌≤◌, length, sym, subst}
use Rattle.swarm_model.specs.declared.pool_state.PoolState.{PoolState}
use Rattle.base_lines.proofs.MachineRows.{few_tasks}
use Rattle.base_lines.proofs.machine_row.TaskRowMachineRow.most.Goals as goal

pub returns : goal.returns
returns g c =
    let kept = g.M.Machine.kept c.args.machine.now in
    subst (λ (base : PoolState). length kept.pool.tasks ≤ base.settings.most_tasks) (sym c.base.ensures) (few_tasks kept c.length-length.ensures.history)
