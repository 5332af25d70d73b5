-- Each entry is looked up, and then the laws say the rest.
use Rattle.std.proofs.Common.{refl}
use Rattle.pool_laws.proofs.WorkedRules.{base_is_reached, rows_are, rows_are_base, needs_output, too_heavy}
use Rattle.pool_laws.proofs.bases.a_base_is_reached.Goals as goal

pub returns : goal.returns
returns c = record { happens = base_is_reached; rows = rows_are; weight = refl; base = rows_are_base; needs_output = needs_output; too_heavy = too_heavy }
