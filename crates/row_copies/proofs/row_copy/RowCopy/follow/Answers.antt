-- The tasks and bots are those after the entry, which comes behind those that were followed.
use Rattle.std.proofs.Common.{◌≡◌, List, [], ◌∷◌, ◌++◌, map, refl, sym, ap, ◌∙◌}
use Rattle.std.proofs.lemmas.List.{map-append}
use Rattle.std.specs.declared.snapshot.Snapshot.{Snapshot}
use Rattle.swarm_model.specs.declared.pool_state.PoolState.{PoolState}
use Rattle.swarm_model.specs.declared.entry.Entry.{Entry}
use Rattle.pool_laws.proofs.Bots.{settings_same}
use Rattle.row_copies.specs.declared.kept.Kept.{Kept}
use Rattle.row_copies.specs.Kept.{now_of}
use Rattle.row_copies.proofs.row_copy.RowCopy.follow.Goals as goal

-- what was seen of one value more
one_more : (old new : List (Snapshot Entry)) (x : Snapshot Entry) (e : Entry) → new ≡ old ++ x ∷ [] → x.value ≡ e → map (λ (y : Snapshot Entry). y.value) new ≡ map (λ (y : Snapshot Entry). y.value) old ++ e ∷ []
one_more old new x e items is =
    ap (λ (l : List (Snapshot Entry)). map (λ (y : Snapshot Entry). y.value) l) items
    ∙ map-append (λ (y : Snapshot Entry). y.value) old (x ∷ [])
    ∙ ap (λ (z : Entry). map (λ (y : Snapshot Entry). y.value) old ++ z ∷ []) is

pub returns : goal.returns
returns c =
    let copy = c.args.self.now in
    let s = now_of copy in
    let e = c.args.entry.now in
    let settings = settings_same s e.moment e.kind in
    let tasks = c.change_rows.ensures.rows.of_tasks s refl refl (sym copy.retries) in
    let bots = c.change_rows.ensures.rows.of_bots s refl in
    let log = one_more copy.log.items c.push_reserved.new.self.items c.of.result e c.push_reserved.ensures.items c.of.ensures in
    λ i. let now : PoolState = record { settings = sym settings i; last = e.moment; tasks = tasks i; bots = bots i; blobs = []; placed = 0 } in
    let kept : Kept = record { base = copy.base.value; now = now; log = log i } in
    kept
