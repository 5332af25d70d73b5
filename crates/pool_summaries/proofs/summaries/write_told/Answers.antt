use Rattle.std.proofs.Common.{ap, arith}
use Rattle.std.proofs.lemmas.List.Sums.{count_by-le-length}
use Rattle.swarm_model.specs.declared.pool_settings.PoolSettings.{PoolSettings}
use Rattle.swarm_model.specs.Verdicts.{is_new}
use Rattle.pool_summaries.proofs.summaries.write_told.Goals as goal

-- the tasks of the base and those since are few
pub total-tasks-requires : goal.total-tasks-requires
total-tasks-requires g c =
    let kept = g.M.Machine.kept c.args.machine.now in
    let base = c.length-entries.ensures.history.base in
    omega (
      arith,
      c.tally-counts.ensures.total,
      base.sound.few_tasks,
      c.length-entries.ensures.history.legal.few,
      count_by-le-length is_new kept.log,
      ap (λ (s : PoolSettings). s.most_tasks) base.own,
      ap (λ (s : PoolSettings). s.most_entries) base.own,
      ap (λ (s : PoolSettings). s.most_tasks) c.requires.settings,
      ap (λ (s : PoolSettings). s.most_entries) c.requires.settings,
    )
