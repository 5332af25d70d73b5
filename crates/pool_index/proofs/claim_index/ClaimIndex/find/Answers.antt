use Rattle.std.proofs.Common.{subst}
use Rattle.pool_index.specs.Claims.{ClaimIndexState, HasNone}
use Rattle.pool_index.proofs.ClaimKeys.{none_found}
use Rattle.pool_index.proofs.claim_index.ClaimIndex.find.Goals as goal

pub returns-in-None : goal.returns-in-None
returns-in-None c =
    subst (λ (s : ClaimIndexState). HasNone s.links (c.args.bot, c.args.claim.now)) c.self.view_is
    (none_found c.self.inside.inner.links (c.args.bot, c.args.claim.now) c.in-None.ensures.found)
