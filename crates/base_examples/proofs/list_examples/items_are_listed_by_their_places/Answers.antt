use Rattle.std.proofs.Common.{◌≤◌, arith}
use Rattle.base_examples.proofs.list_examples.items_are_listed_by_their_places.Goals as goal

-- the place 0 counts twice
pub returns-clause-free : goal.returns-clause-free
returns-clause-free c = λ places. let twice : 2 ≤ 1 = places.once 0 in omega arith
