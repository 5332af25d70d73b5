use Rattle.std.proofs.Common.{subst}
use Rattle.pool_index.specs.Sources.{SourceIndexState, AreWith}
use Rattle.pool_index.proofs.SourceKeys.{are_with}
use Rattle.pool_index.proofs.source_index.SourceIndex.add.Goals as goal

pub returns-clause-links : goal.returns-clause-links
returns-clause-links c =
    subst (λ (s : SourceIndexState). AreWith s.ready s.links c.merge.new.self.links) c.self.view_is
    (are_with c.self.inside.inner.ready c.self.inside.inner.links c.merge.new.self.links c.merge.ensures.links)
