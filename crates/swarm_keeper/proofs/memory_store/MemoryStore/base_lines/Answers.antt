use Rattle.std.proofs.Common.{◌≡◌, ◌∙◌, subst, sym, ap, false}
use Rattle.swarm_keeper.specs.Tables.{Tables}
use Rattle.swarm_keeper.specs.Places.{IsFirst, has_place}
use Rattle.swarm_keeper.proofs.Places.{first_tables, absent}
use Rattle.swarm_keeper.proofs.memory_store.MemoryStore.base_lines.Goals as goal

pub returns-in-Some : goal.returns-in-Some
returns-in-Some c =
    let first : IsFirst c.args.self.now.places.items c.args.folder.now c.args.pool.now c.in-Some.at = subst (λ ys. IsFirst ys c.args.folder.now c.args.pool.now c.in-Some.at) c.deref.ensures.value c.in-Some.ensures in
    c.base.ensures ∙ ap (λ (t : Tables). t.base) (first_tables c.args.folder.now c.args.pool.now c.args.self.now.places.items c.in-Some.at c.index.result.now first c.index.ensures)

pub returns-in-None : goal.returns-in-None
returns-in-None c =
    let none : has_place c.args.self.now.places.items c.args.folder.now c.args.pool.now ≡ false = subst (λ ys. has_place ys c.args.folder.now c.args.pool.now ≡ false) c.deref.ensures.value c.in-None.ensures in
    ap (λ (t : Tables). t.base) (sym (absent c.args.folder.now c.args.pool.now c.args.self.now.places.items none))
