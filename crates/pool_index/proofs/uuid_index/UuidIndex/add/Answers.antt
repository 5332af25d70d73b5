use Rattle.std.proofs.Common.{subst, sym}
use Rattle.std.specs.Prelude.{IfSome}
use Rattle.pool_index.specs.Uuids.{UuidIndexState, key_of, HasNone}
use Rattle.pool_index.proofs.UuidKeys.{is_fresh}
use Rattle.pool_index.proofs.uuid_index.UuidIndex.add.Goals as goal

pub add-requires : goal.add-requires
add-requires c =
    is_fresh c.self.inside.inner.ready c.self.inside.inner.links
    (subst (λ (s : UuidIndexState). IfSome s.ready (λ link. HasNone s.links (key_of link))) (sym c.self.view_is) c.requires)
