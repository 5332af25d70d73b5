-- What the poster knows after each call.
use Rattle.std.proofs.Common.{◌≡◌, List, [], ◌∷◌, ◌++◌, length, fold, Option, Some, Result, Ok, Err, IsSomeAnd, MatchResult, refl, sym, ap, subst, ◌∙◌}
use Rattle.std.specs.Option.{option_map_or}
use Rattle.std.specs.declared.alloc.AllocError.{AllocError}
use Rattle.std.proofs.lemmas.List.{append-nil, append_assoc}
use Rattle.swarm_model.specs.declared.pool_state.PoolState.{PoolState}
use Rattle.swarm_model.specs.declared.entry.Entry.{Entry}
use Rattle.swarm_model.specs.Bases.{Base}
use Rattle.swarm_model.specs.History.{IsLegal}
use Rattle.row_copies.specs.declared.kept.Kept.{Kept}
use Rattle.row_copies.specs.declared.row_copy.RowCopy.{RowCopy}
use Rattle.row_copies.specs.Kept.{kept_of, followed}
use Rattle.swarm_boards.specs.declared.rule.Seen.{Seen}
use Rattle.swarm_boards.specs.Published.{Sights, Publishes}
use Rattle.swarm_boards.specs.Posted.{Posted, IsPosted, IsShown, IsPublished}

abbrev pub the_posted : Base → List Entry → List Entry → Posted
the_posted start published pending = record { start = start; published = published; pending = pending }

-- ---- publishing

base-fold : (kept : Kept) (es : List Entry) → (fold followed kept es).base ≡ kept.base
base-fold kept [] = refl
base-fold kept (e ∷ es) = base-fold (followed kept e) es

log-fold : (kept : Kept) (es : List Entry) → (fold followed kept es).log ≡ kept.log ++ es
log-fold kept [] = sym (append-nil kept.log)
log-fold kept (e ∷ es) = log-fold (followed kept e) es ∙ append_assoc kept.log (e ∷ []) es

is_shown : (kept : Kept) (pending : List Entry) (kept' : Kept) (v w : Seen) (pending' : List Entry) → kept' ≡ fold followed kept pending → pending' ≡ [] → Sights kept' v w
    → IsShown kept pending kept' w pending'
is_shown kept pending kept' v w pending' is none s =
    let base : kept'.base ≡ kept.base = ap (λ (k : Kept). k.base) is ∙ base-fold kept pending in
    let legal : IsLegal kept'.base (kept'.log ++ []) = subst (IsLegal kept'.base) (sym (append-nil kept'.log)) s.shown.legal in
    record {
      posted = record {
        base = base;
        known = s.base ∙ ap (λ (b : PoolState). Some b) base;
        seen = s.seen;
        legal = subst (λ (b : PoolState). IsLegal b (kept'.log ++ pending')) base (subst (λ (l : List Entry). IsLegal kept'.base (kept'.log ++ l)) (sym none) legal);
      };
      published = ap (λ (k : Kept). k.log) is ∙ log-fold kept pending;
      none_left = none;
    }

-- what the kit says of the copies, and what the rule says of what is known
pub is_published : (result : Result (Unit {0}) AllocError) (x y : RowCopy) (v w : Seen) (pending pending' : List Entry)
    → MatchResult result (λ _. (kept_of y ≡ fold followed (kept_of x) pending) × (pending' ≡ [])) (λ _. (y ≡ x) × (pending' ≡ pending))
    → MatchResult result (λ _. Publishes v x y w) (λ _. w ≡ v)
    → IsPublished (kept_of x) v pending (kept_of y) w pending' result
is_published (Ok a) x y v w pending pending' values rule = is_shown (kept_of x) pending (kept_of y) v w pending' values.0 values.1 rule
is_published (Err e) x y v w pending pending' values rule = record { copy = ap kept_of values.0; known = rule; pending = values.1 }

-- ---- the writer of a poster

-- what is pending may follow what the copy shows
pub legal_pending : (base : PoolState) (kept : Kept) (v : Seen) (pending : List Entry) → IsPosted base kept v pending → IsLegal kept.base (kept.log ++ pending)
legal_pending base kept v pending p = subst (λ (b : PoolState). IsLegal b (kept.log ++ pending)) (sym p.base) p.legal

-- a poster keeps its writer
pub posted_still : (base : PoolState) (kept kept' : Kept) (v w : Seen) (pending pending' : List Entry) → IsPosted base kept v pending → kept' ≡ kept → w ≡ v → pending' ≡ pending
    → IsPosted base kept' w pending'
posted_still base kept kept' v w pending pending' p copy known same =
    subst (λ (l : List Entry). IsPosted base kept' w l) (sym same) (subst (λ (k : Kept). IsPosted base k w pending) (sym copy) (subst (λ (s : Seen). IsPosted base kept s pending) (sym known) p))

pub posted_next : (result : Result (Unit {0}) AllocError) (base : PoolState) (kept kept' : Kept) (v w : Seen) (pending pending' : List Entry) → IsPosted base kept v pending
    → IsPublished kept v pending kept' w pending' result → IsPosted base kept' w pending'
posted_next (Ok a) base kept kept' v w pending pending' p is = subst (λ (b : PoolState). IsPosted b kept' w pending') p.base is.posted
posted_next (Err e) base kept kept' v w pending pending' p is = posted_still base kept kept' v w pending pending' p is.copy is.known is.pending

-- ---- what a poster stands for

-- what is published, and what is pending, once the writer has published or all stays
pub entries_next : (result : Result (Unit {0}) AllocError) (base : PoolState) (kept kept' : Kept) (v w : Seen) (pending pending' : List Entry) → IsPosted base kept v pending
    → IsPublished kept v pending kept' w pending' result
    → MatchResult result (λ _. (w.seen ≡ v.seen ++ pending) × (pending' ≡ [])) (λ _. (w.seen ≡ v.seen) × (pending' ≡ pending))
entries_next (Ok a) base kept kept' v w pending pending' p is =
    (is.posted.seen ∙ is.published ∙ ap (λ (l : List Entry). l ++ pending) (sym p.seen), is.none_left)
entries_next (Err e) base kept kept' v w pending pending' p is = (ap (λ (s : Seen). s.seen) is.known, is.pending)

-- no entry is lost
pub count_next : (result : Result (Unit {0}) AllocError) (seen seen' pending pending' : List Entry)
    → MatchResult result (λ _. (seen' ≡ seen ++ pending) × (pending' ≡ [])) (λ _. (seen' ≡ seen) × (pending' ≡ pending))
    → length (seen' ++ pending') ≡ length (seen ++ pending)
count_next (Ok a) seen seen' pending pending' is = ap (λ (l : List Entry). length (l ++ pending')) is.0 ∙ ap (λ (l : List Entry). length ((seen ++ pending) ++ l)) is.1 ∙ ap length (append-nil (seen ++ pending))
count_next (Err e) seen seen' pending pending' is = ap (λ (l : List Entry). length (l ++ pending')) is.0 ∙ ap (λ (l : List Entry). length (seen ++ l)) is.1

pub posts_next : (result : Result (Unit {0}) AllocError) (start : Base) (seen seen' pending pending' : List Entry)
    → MatchResult result (λ _. (seen' ≡ seen ++ pending) × (pending' ≡ [])) (λ _. (seen' ≡ seen) × (pending' ≡ pending))
    → MatchResult result
    (λ _. the_posted start seen' pending' ≡ the_posted start (seen ++ pending) [])
    (λ _. the_posted start seen' pending' ≡ the_posted start seen pending)
posts_next (Ok a) start seen seen' pending pending' is = λ i. the_posted start (is.0 i) (is.1 i)
posts_next (Err e) start seen seen' pending pending' is = λ i. the_posted start (is.0 i) (is.1 i)

-- ---- the place of the writer

pub opened : {A : Type 0} (P : A → Type 0) (place : Option A) (writer : A) → place ≡ Some writer → IsSomeAnd place P → P writer
opened P place writer e h = subst (λ t. IsSomeAnd t P) e h

module _ {W : Type 0} (known : W → Seen) (pending : W → List Entry) where
  abbrev pub published_in : Option W → List Entry
  published_in place = option_map_or (λ w. (known w).seen) place []

  abbrev pub pending_in : Option W → List Entry
  pending_in place = option_map_or pending place []

  pub posted_in : (start : Base) (place : Option W) (writer : W) → place ≡ Some writer → the_posted start (published_in place) (pending_in place) ≡ the_posted start (known writer).seen (pending writer)
  posted_in start place writer e = ap (λ (o : Option W). the_posted start (published_in o) (pending_in o)) e

  pub length_in : (place : Option W) (writer : W) → place ≡ Some writer → length (published_in place ++ pending_in place) ≡ length ((known writer).seen ++ pending writer)
  length_in place writer e = ap (λ (o : Option W). length (published_in o ++ pending_in o)) e
