use Rattle.std.proofs.Common.{arith}
use Rattle.std.proofs.lemmas.Grind.{common_steps}
use Rattle.pool_rules.proofs.claiming.claim_row.Goals as goal

pub returns-in-Some-clause-value : goal.returns-in-Some-clause-value
returns-in-Some-clause-value g c = grind (arith, common_steps)

pub returns-in-Some-clause-cost : goal.returns-in-Some-clause-cost
returns-in-Some-clause-cost g c = grind (arith, common_steps)

pub returns-in-Some-first_for-clause-cost : goal.returns-in-Some-first_for-clause-cost
returns-in-Some-first_for-clause-cost g c = grind (arith, common_steps)
