-- Both verdicts are the state of the row in the end.
use Rattle.pool_laws.proofs.BaseVerdicts.{rest_tells}
use Rattle.pool_laws.proofs.Rests.{rest_legal}
use Rattle.pool_laws.proofs.from_bases.bases_tell_the_same.Goals as goal

pub returns : goal.returns
returns c = record { legal = rest_legal; verdict = rest_tells }
