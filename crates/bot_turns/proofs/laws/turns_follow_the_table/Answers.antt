use Rattle.bot_turns.proofs.RunLemmas.{turns_follow}
use Rattle.bot_turns.proofs.laws.turns_follow_the_table.Goals as goal

pub returns : goal.returns
returns c = turns_follow
