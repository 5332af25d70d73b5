use Rattle.index_laws.proofs.UsesAreFew.{uses_weigh, uses_of_rows_weigh, uses_are_few}
use Rattle.index_laws.proofs.uses.uses_are_few.Goals as goal

pub returns : goal.returns
returns c = record { brought = uses_weigh; rows = uses_of_rows_weigh; all = uses_are_few }
