-- What a poster takes in of a log.
use Rattle.std.proofs.Common.{◌≡◌, ℕ, ◌+◌, List, [], ◌∷◌, ◌++◌, length, take, drop, Result, Ok, Err, IfOk, OnOk, OnErr, MatchResult, arith, ap, sym, subst, ◌∙◌, append-nil, length-append}
use Rattle.std.proofs.Math.Seq.{drop-append_seam, take-append-add}
use Rattle.std.proofs.lemmas.List.{append_assoc, take-append-drop}
use Rattle.std.proofs.lemmas.List.Sums.{sum_by-append}
use mathlib.Core.List.{IsPrefix}
use Rattle.swarm_model.specs.declared.entry.Entry.{Entry}
use Rattle.swarm_model.specs.declared.pool_state.PoolState.{PoolState}
use Rattle.swarm_model.specs.Entries.{weight}
use Rattle.swarm_model.specs.History.{IsLegal}
use Rattle.pool_laws.proofs.Finals.{caused_first}
use Rattle.swarm_boards.specs.Posted.{Posted}
use Rattle.pool_posts.specs.Takes.{TakesIn}

module _ {A : Type 0} where
  pub begins_trans : (a b c : List A) → IsPrefix a b → IsPrefix b c → IsPrefix a c
  begins_trans a b c x y = (x.0 ++ y.0, sym (append_assoc a x.0 y.0) ∙ (ap (λ l. l ++ y.0) x.1 ∙ y.1))

  -- a beginning of a list, and the next entries of it
  pub goes_on : (xs all : List A) (n : ℕ) → IsPrefix xs all → xs ++ take n (drop (length xs) all) ≡ take (length xs + n) all
  goes_on xs all n begins =
      subst (λ (l : List A). xs ++ take n (drop (length xs) l) ≡ take (length xs + n) l) begins.1
      (ap (λ (l : List A). xs ++ take n l) (drop-append_seam xs begins.0) ∙ sym (take-append-add xs begins.0 n))

-- the beginning of a legal log is legal
pub legal_before : (s : PoolState) (log rest : List Entry) → IsLegal s (log ++ rest) → IsLegal s log
legal_before s log rest legal =
    let few = legal.few in
    let light = legal.light in
    let counted = length-append log rest in
    let heavy = sum_by-append weight log rest in
    record { caused = caused_first s log rest legal.caused; few = omega (arith, few, counted); light = omega (arith, light, heavy) }

-- ---- entries that are taken in one by one

abbrev with_pending : Posted → List Entry → Posted
with_pending p pending = record p { pending = pending }

abbrev with_entry : Entry → Posted → Posted
with_entry entry p = record p { pending = p.pending ++ entry ∷ [] }

pub takes_none : (old : Posted) (entries rest : List Entry) → rest ≡ entries → TakesIn old old entries rest
takes_none old entries rest is = record {
  first = [];
  parts = sym is;
  takes = ap (with_pending old) (sym (append-nil old.pending));
}

module _ (old mid : Posted) (entries left rest : List Entry) (entry : Entry) (t : TakesIn old mid entries left) (is : left ≡ entry ∷ rest) where
  parts : entries ≡ t.first ++ entry ∷ rest
  parts = t.parts ∙ ap (λ l. t.first ++ l) is

  pub takes_more : (new : Posted) → new ≡ record mid { pending = mid.pending ++ entry ∷ [] } → TakesIn old new entries rest
  takes_more new adds = record {
    first = t.first ++ entry ∷ [];
    parts = parts ∙ sym (append_assoc t.first (entry ∷ []) rest);
    takes = adds ∙ (ap (with_entry entry) t.takes ∙ ap (with_pending old) (append_assoc old.pending t.first (entry ∷ [])));
  }

  -- the next one may be added
  pub legal_next : IsLegal old.start.rows (old.published ++ old.pending ++ entries) → IsLegal mid.start.rows (mid.published ++ mid.pending ++ entry ∷ [])
  legal_next legal =
      let p = old.published in
      let q = old.pending in
      let f = t.first in
      let whole : (p ++ q) ++ entries ≡ ((p ++ (q ++ f)) ++ entry ∷ []) ++ rest =
      ap (λ (l : List Entry). (p ++ q) ++ l) parts
      ∙ sym (append_assoc (p ++ (q ++ f)) (entry ∷ []) rest ∙ (ap (λ (l : List Entry). l ++ entry ∷ rest) (sym (append_assoc p q f)) ∙ append_assoc (p ++ q) f (entry ∷ rest))) in
      subst (λ (m : Posted). IsLegal m.start.rows (m.published ++ m.pending ++ entry ∷ [])) (sym t.takes)
      (legal_before old.start.rows ((p ++ (q ++ f)) ++ entry ∷ []) rest (subst (IsLegal old.start.rows) whole legal))

abbrev with_all : Posted → List Entry → Posted
with_all p published = record p { published = published; pending = [] }

abbrev all_published : Posted → Posted
all_published p = record p { published = p.published ++ p.pending; pending = [] }

-- all were taken in, and are published or not
module _ (old mid new : Posted) (entries : List Entry) (t : TakesIn old mid entries []) where
  all_in : mid ≡ record old { pending = old.pending ++ entries }
  all_in = t.takes ∙ ap (λ (l : List Entry). with_pending old (old.pending ++ l)) (sym (t.parts ∙ append-nil t.first))

  pub published_all : {E : Type 0} (result : Result (Unit {0}) E) → MatchResult result (λ _. new ≡ record mid { published = mid.published ++ mid.pending; pending = [] }) (λ _. new ≡ mid)
      → OnOk result (new ≡ record old { published = old.published ++ old.pending ++ entries; pending = [] })
  published_all (Ok done) is = is ∙ (ap all_published all_in ∙ ap (with_all old) (sym (append_assoc old.published old.pending entries)))
  published_all (Err error) is = tt

  pub all_pending : {E : Type 0} (result : Result (Unit {0}) E) → MatchResult result (λ _. new ≡ record mid { published = mid.published ++ mid.pending; pending = [] }) (λ _. new ≡ mid)
      → OnErr result ((rest : List Entry) × TakesIn old new entries rest)
  all_pending (Ok done) is = tt
  all_pending (Err error) is = ([], subst (λ (m : Posted). TakesIn old m entries []) (sym is) t)

-- ---- entries of a log that the pass has seen

-- those that were copied
pub copied_of : {T E : Type 0} (items : T → List Entry) (result : Result T E) (value : T) (from from' : ℕ) (seen : List Entry) → result ≡ Ok value → from ≡ from'
    → IfOk result (λ v. items v ≡ take 4096 (drop from seen)) → items value ≡ take 4096 (drop from' seen)
copied_of {T = T} {E = E} items result value from from' seen is same copied =
    subst (λ (n : ℕ). items value ≡ take 4096 (drop n seen)) same
    (subst (λ (r : Result T E). IfOk r (λ v. items v ≡ take 4096 (drop from seen))) is copied)

module _ (old : Posted) (seen entries : List Entry) (begins : IsPrefix (old.published ++ old.pending) seen)
    (copied : entries ≡ take 4096 (drop (length (old.published ++ old.pending)) seen)) where
  all_taken : old.published ++ old.pending ++ entries ≡ take (length (old.published ++ old.pending) + 4096) seen
  all_taken = ap (λ (l : List Entry). (old.published ++ old.pending) ++ l) copied ∙ goes_on (old.published ++ old.pending) seen 4096 begins

  all_begins : IsPrefix (old.published ++ old.pending ++ entries) seen
  all_begins =
      let n = length (old.published ++ old.pending) + 4096 in
      (drop n seen, ap (λ (l : List Entry). l ++ drop n seen) all_taken ∙ take-append-drop n seen)

  pub legal_entries : (rows : PoolState) → IsLegal rows seen → IsLegal rows (old.published ++ old.pending ++ entries)
  legal_entries rows legal = legal_before rows (old.published ++ old.pending ++ entries) all_begins.0 (subst (IsLegal rows) (sym all_begins.1) legal)

  -- some are pending
  pending_begin : (new : Posted) (rest : List Entry) → TakesIn old new entries rest → IsPrefix (new.published ++ new.pending) seen
  pending_begin new rest t =
      let p = old.published in
      let q = old.pending in
      let f = t.first in
      let whole : (p ++ (q ++ f)) ++ rest ≡ (p ++ q) ++ entries =
      ap (λ (l : List Entry). l ++ rest) (sym (append_assoc p q f)) ∙ (append_assoc (p ++ q) f rest ∙ ap (λ (l : List Entry). (p ++ q) ++ l) (sym t.parts)) in
      subst (λ (m : Posted). IsPrefix (m.published ++ m.pending) seen) (sym t.takes)
      (begins_trans (p ++ (q ++ f)) ((p ++ q) ++ entries) seen (rest, whole) all_begins)

  module _ {E : Type 0} (new : Posted) where
    pub begins_still : (result : Result (Unit {0}) E) → OnOk result (new ≡ record old { published = old.published ++ old.pending ++ entries; pending = [] })
        → OnErr result ((rest : List Entry) × TakesIn old new entries rest) → IsPrefix (new.published ++ new.pending) seen
    begins_still (Ok done) all some =
        subst (λ (m : Posted). IsPrefix (m.published ++ m.pending) seen) (sym all)
        (subst (λ (l : List Entry). IsPrefix l seen) (sym (append-nil (old.published ++ old.pending ++ entries))) all_begins)
    begins_still (Err error) all some = pending_begin new some.0 some.1

    pub published_of : (result : Result (Unit {0}) E) → OnOk result (new ≡ record old { published = old.published ++ old.pending ++ entries; pending = [] })
        → OnOk result (new.published ≡ take (length (old.published ++ old.pending) + 4096) seen)
    published_of (Ok done) all = ap (λ (m : Posted). m.published) all ∙ all_taken
    published_of (Err error) all = tt
