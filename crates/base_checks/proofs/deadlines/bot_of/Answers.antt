-- The bot that is found is one of them.
use Rattle.swarm_model.specs.Finding.{is_bot}
use Rattle.row_changes.specs.Rows.{IsHeard}
use Rattle.dimensions.proofs.Found.{IfSome-find}
use Rattle.base_checks.proofs.deadlines.bot_of.Goals as goal

pub returns-clause-heard : goal.returns-clause-heard
returns-clause-heard c = rw c.row_of.ensures (IfSome-find IsHeard (is_bot c.args.number) c.args.bots.now c.requires.heard)
