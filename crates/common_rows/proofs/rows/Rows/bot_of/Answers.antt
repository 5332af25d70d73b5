-- The bot that is found is one of them.
use Rattle.dimensions.proofs.Found.{IfSome-find}
use Rattle.swarm_model.specs.Finding.{is_bot}
use Rattle.row_changes.specs.Rows.{IsHeard}
use Rattle.common_rows.specs.Rows.{state_of}
use Rattle.pool_log.proofs.RowFacts.{all_heard}
use Rattle.common_rows.proofs.rows.Rows.bot_of.Goals as goal

pub returns-clause-heard : goal.returns-clause-heard
returns-clause-heard c = rw c.bot.ensures (IfSome-find IsHeard (is_bot c.args.number) c.args.self.now.bots.rows (all_heard (state_of c.args.self.now) c.requires))
