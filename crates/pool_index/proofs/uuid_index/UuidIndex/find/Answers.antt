use Rattle.std.proofs.Common.{subst}
use Rattle.pool_index.specs.Uuids.{UuidIndexState, HasNone}
use Rattle.pool_index.proofs.UuidKeys.{none_found}
use Rattle.pool_index.proofs.uuid_index.UuidIndex.find.Goals as goal

pub returns-in-None : goal.returns-in-None
returns-in-None c =
    subst (λ (s : UuidIndexState). HasNone s.links (c.args.creator.now, c.args.uuid.now)) c.self.view_is
    (none_found c.self.inside.inner.links (c.args.creator.now, c.args.uuid.now) c.in-None.ensures.found)
