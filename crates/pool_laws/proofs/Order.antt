-- The task that a bot gets comes first.
use Rattle.std.proofs.Common.{◌≡◌, ℕ, ◌<◌, ◌≤◌, ◌==◌, ◌&&◌, ◌||◌, List, [], ◌∷◌, refl, ap, sym, ◌∙◌, subst, true, false, Bool, Option, Some, None, IfSome, inl, inr, ◌⊎◌, eqb-true, ltb-true, ltb-false, arith}
use Rattle.std.specs.Prelude.{nat_lt}
use Rattle.std.specs.List.{fold}
use Rattle.std.proofs.lemmas.Bool.{cond_both, and_parts, and_cases, or_parts, or_from, and_left, and_right, eqb-false, lt-ltb, le-ltb, ne_eqb, cases_order}
use Rattle.std.proofs.lemmas.Option.{same_Some}
use Rattle.swarm_model.specs.declared.task_row.TaskRow.{TaskRow}
use Rattle.swarm_model.specs.Slices.{foremost, goes_before}
use Rattle.swarm_model.specs.Claims.{ComesFirst}
use Rattle.pool_laws.proofs.Lists.{Among, here, later}

-- the order of tasks, on plain numbers

abbrev before : ℕ → ℕ → ℕ → ℕ → Bool
before p i q j = nat_lt p q || (p == q && nat_lt i j)

abbrev NotBefore : ℕ → ℕ → ℕ → ℕ → Type 0
NotBefore p i q j = (q < p) ⊎ ((p ≡ q) × (j ≤ i))

-- where the test fails
not_before : (p i q j : ℕ) → before p i q j ≡ false → NotBefore p i q j
not_before p i q j e = by_order (cases_order p q)
  where
    parts : (nat_lt p q ≡ false) × ((p == q && nat_lt i j) ≡ false)
    parts = or_parts (nat_lt p q) (p == q && nat_lt i j) e

    by_order : (p ≡ q) ⊎ ((p < q) ⊎ (q < p)) → NotBefore p i q j
    by_order (inl same) = elim (and_cases (p == q) (nat_lt i j) parts.1) [ inl f ↦ absurd (eqb-false p q f same) | inr f ↦ inr (same, ltb-false i j f) ]
    by_order (inr (inl less)) = absurd (cc (lt-ltb p q less, parts.0))
    by_order (inr (inr more)) = inl more

-- and back
is_not_before : (p i q j : ℕ) → NotBefore p i q j → before p i q j ≡ false
is_not_before p i q j (inl more) = or_from _ _ (le-ltb p q (omega (arith, more))) (and_left (p == q) (nat_lt i j) (ne_eqb p q (λ e. omega (arith, more, e))))
is_not_before p i q j (inr f) = or_from _ _ (le-ltb p q (let e = f.0 in omega (arith, e))) (and_right (p == q) (nat_lt i j) (le-ltb i j f.1))

-- where it holds, the other way round does not
is_before : (p i q j : ℕ) → before p i q j ≡ true → NotBefore q j p i
is_before p i q j e = elim (nat_lt p q) as (λ b. nat_lt p q ≡ b → NotBefore q j p i) [
  | true ↦ (λ h. inl (ltb-true p q h))
  | false ↦ (λ h. (let g : (p == q && nat_lt i j) ≡ true = sym (ap (λ b. b || (p == q && nat_lt i j)) h) ∙ e in
      let r = and_parts (p == q) (nat_lt i j) g in let l : i < j = ltb-true i j r.1 in inr (sym (eqb-true p q r.0), omega (arith, l))))
] refl

-- what is not before in two steps is not before
chain_numbers : (p i q j r k : ℕ) → NotBefore p i q j → NotBefore q j r k → NotBefore p i r k
chain_numbers p i q j r k (inl a) (inl b) = inl (omega (arith, a, b))
chain_numbers p i q j r k (inl a) (inr b) = let e = b.0 in inl (omega (arith, a, e))
chain_numbers p i q j r k (inr a) (inl b) = let e = a.0 in inl (omega (arith, b, e))
chain_numbers p i q j r k (inr a) (inr b) = let e = a.1 in let f = b.1 in inr (a.0 ∙ b.0, omega (arith, e, f))

-- the same on rows

-- the numbers of two rows
from_rows : (a b : TaskRow) → goes_before a b ≡ false → NotBefore a.request.priority a.no b.request.priority b.no
from_rows a b e = not_before a.request.priority a.no b.request.priority b.no e

-- in two steps
chain : (a b c : TaskRow) → goes_before a b ≡ false → goes_before b c ≡ false → goes_before a c ≡ false
chain a b c e f =
    is_not_before a.request.priority a.no c.request.priority c.no
    (chain_numbers a.request.priority a.no b.request.priority b.no c.request.priority c.no (from_rows a b e) (from_rows b c f))

-- the other way round
flip : (a b : TaskRow) → goes_before a b ≡ true → goes_before b a ≡ false
flip a b e = is_not_before b.request.priority b.no a.request.priority a.no (is_before a.request.priority a.no b.request.priority b.no e)

-- none goes before itself
own : (a : TaskRow) → goes_before a a ≡ false
own a = is_not_before a.request.priority a.no a.request.priority a.no (inr (refl, omega arith))

-- a task before which another does not go comes first
pub comes_first : (a b : TaskRow) → goes_before b a ≡ false → ComesFirst a b
comes_first a b e = elim (from_rows b a e) [ inl l ↦ inl l | inr f ↦ inr (sym f.0, f.1) ]

-- neither the best so far nor any other goes before the foremost
record IsFirst (best : Option TaskRow) (xs : List TaskRow) (r : TaskRow) : Type 0 where
  best_so_far : IfSome best (λ b. goes_before b r ≡ false)
  others : (y : TaskRow) → Among y xs → goes_before y r ≡ false

-- what a search finds is the first
first_of : (best : Option TaskRow) (xs : List TaskRow) (r : TaskRow) → fold foremost best xs ≡ Some r → IsFirst best xs r
first_of None [] r e = absurd (cc (e))
first_of (Some b) [] r e = record { best_so_far = subst (λ (z : TaskRow). goes_before b z ≡ false) (same_Some _ _ e) (own b); others = λ y a. elim a [ ] }
first_of best (x ∷ xs) r e = by_best best (first_of (foremost best x) xs r e)
  where
    both : (goes_before x r ≡ false) → ((y : TaskRow) → Among y xs → goes_before y r ≡ false) → (y : TaskRow) → Among y (x ∷ xs) → goes_before y r ≡ false
    both p q y here = p
    both p q y (later a) = q y a

    by_best : (b : Option TaskRow) → IsFirst (foremost b x) xs r → IsFirst b (x ∷ xs) r
    by_best None f = record { best_so_far = tt; others = both f.best_so_far f.others }
    by_best (Some b) f =
        cond_both (goes_before x b) (Some x) (Some b) (λ (z : Option TaskRow). IsFirst z xs r → IsFirst (Some b) (x ∷ xs) r)
        (λ t g. record { best_so_far = chain b x r (flip x b t) g.best_so_far; others = both g.best_so_far g.others })
        (λ t g. record { best_so_far = g.best_so_far; others = both (chain x b r t g.best_so_far) g.others }) f

-- none goes before the foremost
pub foremost_first : (xs : List TaskRow) (r : TaskRow) → fold foremost None xs ≡ Some r → (y : TaskRow) → Among y xs → goes_before y r ≡ false
foremost_first xs r e = (first_of None xs r e).others
