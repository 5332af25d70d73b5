use Rattle.std.proofs.Common.{subst}
use Rattle.swarm_keeper.specs.Places.{IsFirst}
use Rattle.swarm_keeper.proofs.Places.{put_first_as}
use Rattle.swarm_keeper.proofs.memory_store.replace_tables.Goals as goal

pub returns-in-Some : goal.returns-in-Some
returns-in-Some c =
    let first : IsFirst c.args.places.now.items c.args.folder.now c.args.pool.now c.in-Some.at = subst (λ ys. IsFirst ys c.args.folder.now c.args.pool.now c.in-Some.at) c.deref.ensures.value c.in-Some.ensures in
    put_first_as c.args.folder.now c.args.pool.now c.args.tables c.args.places.now.items c.in-Some.at c.index_mut.result.now c.replace.new.dest c.replace.result first c.index_mut.ensures.value c.replace.ensures.after c.replace.ensures.value
