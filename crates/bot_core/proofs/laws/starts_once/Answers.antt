use Rattle.bot_core.proofs.StartLemmas as starting
use Rattle.bot_core.proofs.laws.starts_once.Goals as goal

pub returns : goal.returns
returns c = starting.starts_once
