use Rattle.std.proofs.Common.{subst, sym}
use Rattle.std.specs.Prelude.{IfSome}
use Rattle.pool_index.specs.Claims.{ClaimIndexState, key_of, HasNone}
use Rattle.pool_index.proofs.ClaimKeys.{is_fresh}
use Rattle.pool_index.proofs.claim_index.ClaimIndex.add.Goals as goal

pub add-requires : goal.add-requires
add-requires c =
    is_fresh c.self.inside.inner.ready c.self.inside.inner.links
    (subst (λ (s : ClaimIndexState). IfSome s.ready (λ link. HasNone s.links (key_of link))) (sym c.self.view_is) c.requires)
