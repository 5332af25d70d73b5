use Rattle.std.proofs.Common.{subst}
use Rattle.swarm_keeper.specs.Places.{IsFirst}
use Rattle.swarm_keeper.proofs.Places.{put_kept}
use Rattle.swarm_keeper.proofs.memory_store.keep_tables.Goals as goal

pub returns-in-Some-clause-ok : goal.returns-in-Some-clause-ok
returns-in-Some-clause-ok c =
    let first : IsFirst c.args.places.now.items c.args.folder.now c.args.pool.now c.in-Some.at = subst (λ ys. IsFirst ys c.args.folder.now c.args.pool.now c.in-Some.at) c.deref.ensures.value c.in-Some.ensures in
    put_kept c.args.folder.now c.args.pool.now c.args.tables c.args.places.now.items c.in-Some.at c.index_mut.result.now first c.index_mut.ensures.value
