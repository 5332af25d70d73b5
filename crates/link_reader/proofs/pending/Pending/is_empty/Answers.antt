use Rattle.std.proofs.Common.{arith}
use Rattle.std.proofs.lemmas.Grind.{common_steps}
use Rattle.std.proofs.lemmas.List.{nil_from_length}
use Rattle.link_reader.proofs.pending.Pending.is_empty.Goals as goal

pub returns : goal.returns
returns c = grind (arith, common_steps, nil_from_length)
