-- A row of the base stands for the phase that it is in.
use Rattle.pool_laws.proofs.BaseVerdicts.{states_from}
use Rattle.pool_laws.proofs.from_bases.states_from_a_base.Goals as goal

pub returns : goal.returns
returns c = states_from
