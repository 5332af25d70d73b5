-- Each step keeps the rule.
use Rattle.std.proofs.Common.{◌≡◌, ℕ, ◌≢◌, List, [], ◌∷◌, ◌++◌, fold, Some, refl, sym, ap, subst, ◌∙◌, ⊎_elim}
use Rattle.std.proofs.lemmas.List.Elements.{All-nil, All-cons}
use Rattle.std.proofs.lemmas.List.{append-nil, append_assoc}
use Rattle.std.proofs.lemmas.List.Sums.{fold-append}
use mathlib.Core.List.{IsPrefix}
use mathlib.Core.Option.{some}
use lib.ListN.{get_elem?, set}
use Rattle.left_right.specs.Register.{Admits, TurnsAt, Turns, Forks, Merges}
use Rattle.atomic_table.proofs.Lists.{at_set, at_snoc}
use Rattle.swarm_model.specs.declared.pool_state.PoolState.{PoolState}
use Rattle.swarm_model.specs.declared.entry.Entry.{Entry}
use Rattle.swarm_model.specs.Effects.{after}
use Rattle.swarm_model.specs.History.{replay, IsLegal}
use Rattle.row_copies.specs.declared.kept.Kept.{Kept}
use Rattle.row_copies.specs.declared.row_copy.RowCopy.{RowCopy}
use Rattle.row_copies.specs.Kept.{kept_of, rows_alone, followed}
use Rattle.row_copies.proofs.RowsAlone.{rows_alone_after}
use Rattle.swarm_boards.specs.declared.rule.Seen.{Seen}
use Rattle.swarm_boards.specs.Published.{Keeps, KeepsList, Knows, Shown, Sights, Shows, Publishes, newcomer, informed}
use Rattle.swarm_boards.proofs.Fronts.{begins_itself, begins_longer, all_begin_longer}

nothing_told : (base : PoolState) (list : List Entry) → Knows base list newcomer
nothing_told base list = record { base_is = tt; seen = (list, refl); told = All-nil (λ front. IsPrefix front list) }

KnownBy : Kept → List Entry → List Seen → Type 0
KnownBy kept list views = (seat : ℕ) (v : Seen) → get_elem? views seat ≡ some v → Knows kept.base list v

-- a view more
known-snoc : (kept : Kept) (list : List Entry) (views : List Seen) (v : Seen) → KnownBy kept list views → Knows kept.base list v → KnownBy kept list (views ++ v ∷ [])
unfolding KnownBy
known-snoc kept list views v h k seat u at = ⊎_elim (h seat u) (λ (e : v ≡ u). subst (Knows kept.base list) e k) (at_snoc views v u seat at)

-- another view at a seat
known-set : (kept : Kept) (list : List Entry) (views : List Seen) (seat : ℕ) (v : Seen) → KnownBy kept list views → Knows kept.base list v → KnownBy kept list (set views seat v)
unfolding KnownBy
known-set kept list views seat v h k j u at =
    ⊎_elim (λ (t : (j ≡ seat) × (v ≡ u)). subst (Knows kept.base list) t.1 k) (λ (t : (j ≢ seat) × (get_elem? views j ≡ some u)). h j u t.1) (at_set views seat j v u at)

-- a reader more
pub admits : Admits Keeps newcomer
unfolding KnownBy
admits x views h =
    let kept = kept_of x in
    record { shown = h.shown; known = known-snoc kept kept.log views newcomer h.known (nothing_told kept.base kept.log) }

still_known : (base : PoolState) (list more : List Entry) (v : Seen) → Knows base list v → Knows base (list ++ more) v
still_known base list more v k =
    record { base_is = k.base_is; seen = begins_longer v.seen list more k.seen; told = all_begin_longer list more v.told k.told }

abbrev seen_now : Kept → Seen → Seen
seen_now kept v = record { base = Some kept.base; seen = kept.log; told = v.told }

knows_now : (kept : Kept) (v : Seen) → Knows kept.base kept.log v → Knows kept.base kept.log (seen_now kept v)
knows_now kept v k = record { base_is = refl; seen = begins_itself kept.log; told = k.told }

-- a reader sees what is shown
pub looks : (seat : ℕ) (v : Seen) → Turns Keeps seat v (λ x. x) Shows
unfolding KnownBy
looks seat v x views h at =
    let kept = kept_of x in
    let k = h.known seat v at in (
      seen_now kept v,
      record { shown = h.shown; known = known-set kept kept.log views seat (seen_now kept v) h.known (knows_now kept v k) },
      (refl, record { shown = h.shown; seen = refl; base = refl; told_is = refl; before = k }),
    )

-- a copy that follows entries has them behind those that it had
pub followed-fold : (kept : Kept) (s : PoolState) (es : List Entry) → kept.now ≡ rows_alone s
    → fold followed kept es ≡ record { base = kept.base; now = rows_alone (replay s es); log = kept.log ++ es }
followed-fold kept s [] is =
    let same = sym (append-nil kept.log) in
    λ i. let k : Kept = record { base = kept.base; now = is i; log = same i } in k
followed-fold kept s (e ∷ es) is =
    followed-fold (followed kept e) (after s e) es (ap (λ (p : PoolState). rows_alone (after p e)) is ∙ sym (rows_alone_after s e))
    ∙ ap (λ (l : List Entry). record { base = kept.base; now = rows_alone (replay s (e ∷ es)); log = l }) (append_assoc kept.log (e ∷ []) es)

-- the copy that is shown next, once it has followed these entries
abbrev next_of : Kept → List Entry → Kept
next_of kept es = record { base = kept.base; now = rows_alone (replay kept.base (kept.log ++ es)); log = kept.log ++ es }

shown_next : (kept : Kept) (es : List Entry) → Shown kept → IsLegal kept.base (kept.log ++ es) → Shown (next_of kept es)
shown_next kept es s legal = record { sound = s.sound; legal = legal; replayed = refl }

next_is : (kept : Kept) (es : List Entry) → Shown kept → fold followed kept es ≡ next_of kept es
next_is kept es s =
    followed-fold kept (replay kept.base kept.log) es s.replayed
    ∙ ap (λ (p : PoolState). record { base = kept.base; now = rows_alone p; log = kept.log ++ es }) (sym (fold-append after kept.base kept.log es))

publishes_kept : (seat : ℕ) (v : Seen) (kept : Kept) (es : List Entry) (views : List Seen) → IsLegal kept.base (kept.log ++ es) → KeepsList kept views → get_elem? views seat ≡ some v
    → (next : Kept) → next ≡ next_of kept es → (w : Seen) × KeepsList next (set views seat w) × Sights next v w
unfolding KnownBy
publishes_kept seat v kept es views legal h at next e =
    let then : Kept = next_of kept es in
    let shown : Shown then = shown_next kept es h.shown legal in
    let known : KnownBy then then.log views = λ j u there. still_known kept.base kept.log es u (h.known j u there) in
    let mine = known seat v at in
    subst (λ (k : Kept). (w : Seen) × KeepsList k (set views seat w) × Sights k v w) (sym e) (
      seen_now then v,
      record { shown = shown; known = known-set then then.log views seat (seen_now then v) known (knows_now then v mine) },
      record { shown = shown; seen = refl; base = refl; told_is = refl; before = mine },
    )

-- what is pending is published where it may follow what is shown
pub publishes : (seat : ℕ) (v : Seen) (x next : RowCopy) (es : List Entry) → IsLegal (kept_of x).base ((kept_of x).log ++ es)
    → kept_of next ≡ fold followed (kept_of x) es → TurnsAt Keeps seat v x next Publishes
publishes seat v x next es legal e views h at = publishes_kept seat v (kept_of x) es views legal h at (kept_of next) (e ∙ next_is (kept_of x) es h.shown)

-- the writer's view is cut off, and stays
pub forks : (seat : ℕ) (v : Seen) → Forks Keeps seat v v v
unfolding KnownBy
forks seat v x views h at =
    let kept = kept_of x in
    let k = h.known seat v at in
    record { shown = h.shown; known = known-snoc kept kept.log (set views seat v) v (known-set kept kept.log views seat v h.known k) k }

-- what is taken in of another's view is true, too
takes_in : (base : PoolState) (list : List Entry) (v w : Seen) → Knows base list v → Knows base list w → Knows base list (informed v w)
takes_in base list v w k l = record { base_is = l.base_is; seen = k.seen; told = All-cons (λ front. IsPrefix front list) w.seen v.told l.seen k.told }

-- a reader takes in what the writer knows
pub merges : (seat : ℕ) (v : Seen) (other : ℕ) (w : Seen) → Merges Keeps seat v other w (informed v w) newcomer
unfolding KnownBy
merges seat v other w x views h at apart there =
    let kept = kept_of x in
    let both = informed v w in
    let k = h.known seat v at in
    let l : Knows kept.base kept.log w =
    ⊎_elim (λ (t : (other ≡ seat) × (both ≡ w)). absurd (apart t.0)) (λ (t : (other ≢ seat) × (get_elem? views other ≡ some w)). h.known other w t.1) (at_set views seat other both w there) in
    record {
      shown = h.shown;
      known = known-set kept kept.log (set views seat both) other newcomer (known-set kept kept.log views seat both h.known (takes_in kept.base kept.log v w k l)) (nothing_told kept.base kept.log);
    }
