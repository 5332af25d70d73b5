use Rattle.bot_turns.proofs.PrepareLemmas.{prepare_comes}
use Rattle.bot_turns.proofs.turns.bot_turn.Goals as goal

pub returns-in-Prepare-clause-event : goal.returns-in-Prepare-clause-event
returns-in-Prepare-clause-event g c = rw c.in-Prepare.is (prepare_comes c.prepare_run.result _ _ _ _ _ _ c.prepare_run.ensures.turn)
