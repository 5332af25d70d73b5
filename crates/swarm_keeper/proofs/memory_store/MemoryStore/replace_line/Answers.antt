use Rattle.std.proofs.Common.{◌≡◌, subst, ap, Some, false}
use Rattle.swarm_keeper.specs.Places.{IsFirst, has_place}
use Rattle.swarm_keeper.proofs.Places.{put_first, put_line, no_line}
use Rattle.swarm_keeper.proofs.memory_store.MemoryStore.replace_line.Goals as goal

pub returns-in-Some-clause-places : goal.returns-in-Some-clause-places
returns-in-Some-clause-places c =
    let first : IsFirst c.args.self.now.places.items c.args.folder.now c.args.pool.now c.in-Some.place = subst (λ ys. IsFirst ys c.args.folder.now c.args.pool.now c.in-Some.place) c.deref.ensures.value c.in-Some.ensures in
    ap (λ places. Some places) (put_first c.args.folder.now c.args.pool.now c.replace_line.new.self c.args.self.now.places.items c.in-Some.place c.index_mut.result.now first c.index_mut.ensures.value).places

pub returns-in-Some-clause-kept : goal.returns-in-Some-clause-kept
returns-in-Some-clause-kept c =
    let first : IsFirst c.args.self.now.places.items c.args.folder.now c.args.pool.now c.in-Some.place = subst (λ ys. IsFirst ys c.args.folder.now c.args.pool.now c.in-Some.place) c.deref.ensures.value c.in-Some.ensures in
    ap (λ kept. Some kept) (put_line c.args.folder.now c.args.pool.now c.args.at c.args.line c.replace_line.new.self c.args.self.now.places.items c.in-Some.place c.index_mut.result.now first c.index_mut.ensures.value c.replace_line.ensures)

pub returns-in-None-clause-kept : goal.returns-in-None-clause-kept
returns-in-None-clause-kept c =
    let none : has_place c.args.self.now.places.items c.args.folder.now c.args.pool.now ≡ false = subst (λ ys. has_place ys c.args.folder.now c.args.pool.now ≡ false) c.deref.ensures.value c.in-None.ensures in
    ap (λ kept. Some kept) (no_line c.args.folder.now c.args.pool.now c.args.at c.args.line c.args.self.now.places.items none)
