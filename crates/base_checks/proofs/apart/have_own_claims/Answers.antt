-- What is told of the keys is told of the rows.
use Rattle.std.proofs.Common.{flat_map}
use Rattle.base_checks.specs.Keys.{claim_in}
use Rattle.base_checks.specs.Rows.{claims_of, claim_cmp, HaveOwnClaims}
use Rattle.base_checks.proofs.OneRow.{claims_stand_once}
use Rattle.base_checks.proofs.Behind.{told_of_rows}
use Rattle.base_checks.proofs.apart.have_own_claims.Goals as goal

pub returns : goal.returns
returns c =
    told_of_rows claim_cmp claim_in (HaveOwnClaims c.args.tasks.now) c.in_ok-keys.keys.items (flat_map claims_of c.args.tasks.now) c.in_ok-keys.ensures (claims_stand_once c.args.tasks.now c.requires.numbered c.requires.tries) c.stands_twice.result
    (rw c.deref_mut.ensures.value at c.stands_twice.ensures)
