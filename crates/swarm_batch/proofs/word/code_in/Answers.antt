use Rattle.std.proofs.Common.{sym}
use Rattle.swarm_batch.proofs.Words.{no_final}
use Rattle.swarm_batch.proofs.word.code_in.Goals as goal

pub returns-in_default : goal.returns-in_default
returns-in_default c = sym (no_final c.args.name.now c.in_default.ensures.cases.0)
