-- The tasks and the bots are those after the entry.
use Rattle.std.proofs.Common.{List, sym, ap, ◌∙◌}
use Rattle.swarm_model.specs.declared.bot_row.BotRow.{BotRow}
use Rattle.bot_registry.specs.Plain.{RegistryState}
use Rattle.common_rows.specs.Changing.{run_to_end}
use Rattle.common_rows.proofs.changing.change_rows.Goals as goal

pub returns-clause-rows : goal.returns-clause-rows
returns-clause-rows c =
    record {
      of_tasks = λ s tasks bots tries. c.change_tasks.ensures.rows s tasks tries (c.run_to_end-run.ensures ∙ ap (λ (rows : List BotRow). run_to_end rows c.args.entry.now.kind) (sym bots));
      of_bots = c.apply.ensures.rows;
    }

pub returns-clause-most : goal.returns-clause-most
returns-clause-most c = ap (λ (r : RegistryState). r.most) c.apply.ensures.rest
