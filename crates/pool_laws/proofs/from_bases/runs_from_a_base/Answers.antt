-- The bots of the row in the base come first, and those that claimed since behind them.
use Rattle.pool_laws.proofs.BaseClaims.{runs_from}
use Rattle.pool_laws.proofs.from_bases.runs_from_a_base.Goals as goal

pub returns : goal.returns
returns c = runs_from
