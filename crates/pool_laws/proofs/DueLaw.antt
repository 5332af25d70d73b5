-- The deadline that is due is the earliest of those of the pool.
use Rattle.std.proofs.Common.{◌≡◌, ℕ, ◌<◌, ◌≤◌, ◌==◌, ◌&&◌, ◌||◌, ◌⊎◌, inl, inr, List, [], ◌∷◌, refl, sym, ap, ◌∙◌, subst, cond, true, false, Bool, Option, Some, None, IfSome, arith, eqb-true, ltb-true, ltb-false, leb-true, leb-false}
use Rattle.std.specs.Prelude.{nat_le, nat_lt, MatchOption}
use Rattle.std.specs.List.{All, Contains, fold}
use Rattle.std.specs.Option.{option_and_then}
use Rattle.std.proofs.lemmas.Bool.{cond_both, and_parts, and_cases, or_parts, or_from, and_left, and_right, eqb-false, lt-ltb, le-ltb, ne_eqb, cases_order}
use Rattle.std.proofs.lemmas.Option.{same_Some}
use Rattle.std.proofs.lemmas.List.Elements.{All-contains_itself}
use Rattle.pool_laws.specs.Types.{PoolState, Deadline}
use Rattle.swarm_model.specs.Deadlines.{rank, deadlines, is_earlier, earlier, sooner, next_deadline, if_come}
use Rattle.swarm_model.specs.DueLaw.{IsEarliestDue, DueIsEarliest}
use Rattle.pool_laws.proofs.Lists.{Among, here, later, all}
use Rattle.pool_laws.proofs.Earliest.{none_of, fold_has}

-- the order of pairs, of which the second ones are compared already

abbrev before : ℕ → ℕ → Bool → Bool
before p q b = nat_lt p q || (p == q && b)

-- where the test fails
not_before : (p q : ℕ) (b : Bool) → before p q b ≡ false → (q < p) ⊎ ((p ≡ q) × (b ≡ false))
not_before p q b e = by_order (cases_order p q)
  where
    parts : (nat_lt p q ≡ false) × ((p == q && b) ≡ false)
    parts = or_parts (nat_lt p q) (p == q && b) e

    by_order : (p ≡ q) ⊎ ((p < q) ⊎ (q < p)) → (q < p) ⊎ ((p ≡ q) × (b ≡ false))
    by_order (inl same) = elim (and_cases (p == q) b parts.1) [ inl f ↦ absurd (eqb-false p q f same) | inr f ↦ inr (same, f) ]
    by_order (inr (inl less)) = absurd (cc (lt-ltb p q less, parts.0))
    by_order (inr (inr more)) = inl more

-- and back
is_not_before : (p q : ℕ) (b : Bool) → (q < p) ⊎ ((p ≡ q) × (b ≡ false)) → before p q b ≡ false
is_not_before p q b (inl more) = or_from _ _ (le-ltb p q (omega (arith, more))) (and_left (p == q) b (ne_eqb p q (λ e. omega (arith, more, e))))
is_not_before p q b (inr f) = or_from _ _ (le-ltb p q (let e = f.0 in omega (arith, e))) (and_right (p == q) b f.1)

-- where it holds
is_before : (p q : ℕ) (b : Bool) → before p q b ≡ true → (p < q) ⊎ ((p ≡ q) × (b ≡ true))
is_before p q b e = elim (nat_lt p q) as (λ c. nat_lt p q ≡ c → (p < q) ⊎ ((p ≡ q) × (b ≡ true))) [
  | true ↦ (λ h. inl (ltb-true p q h))
  | false ↦ (λ h. (let g : (p == q && b) ≡ true = sym (ap (λ c. c || (p == q && b)) h) ∙ e in
      let r = and_parts (p == q) b g in inr (eqb-true p q r.0, r.1)))
] refl

-- what is not before in two steps is not before
chain_before : (p q r : ℕ) (b c d : Bool) → (b ≡ false → c ≡ false → d ≡ false) → before p q b ≡ false → before q r c ≡ false → before p r d ≡ false
chain_before p q r b c d more e f = is_not_before p r d (by_both (not_before p q b e) (not_before q r c f))
  where
    by_both : (q < p) ⊎ ((p ≡ q) × (b ≡ false)) → (r < q) ⊎ ((q ≡ r) × (c ≡ false)) → (r < p) ⊎ ((p ≡ r) × (d ≡ false))
    by_both (inl x) (inl y) = inl (omega (arith, x, y))
    by_both (inl x) (inr y) = let g = y.0 in inl (omega (arith, x, g))
    by_both (inr x) (inl y) = let g = x.0 in inl (omega (arith, y, g))
    by_both (inr x) (inr y) = inr (x.0 ∙ y.0, more x.1 y.1)

-- where it holds, the other way round does not
flip_before : (p q : ℕ) (b c : Bool) → (b ≡ true → c ≡ false) → before p q b ≡ true → before q p c ≡ false
flip_before p q b c other e = is_not_before q p c (by_cases (is_before p q b e))
  where
    by_cases : (p < q) ⊎ ((p ≡ q) × (b ≡ true)) → (p < q) ⊎ ((q ≡ p) × (c ≡ false))
    by_cases (inl x) = inl x
    by_cases (inr x) = inr (sym x.0, other x.1)

-- the order of deadlines

abbrev numbers : Deadline → Deadline → Bool
numbers a b = nat_lt a.number b.number

abbrev ranks : Deadline → Deadline → Bool
ranks a b = before (rank a.cause) (rank b.cause) (numbers a b)

-- none goes before itself
own : (a : Deadline) → is_earlier a a ≡ false
own a =
    is_not_before a.moment a.moment (ranks a a) (inr (refl, is_not_before (rank a.cause) (rank a.cause) (numbers a a) (inr (refl, le-ltb a.number a.number (omega arith)))))

-- in two steps
chain : (a b c : Deadline) → is_earlier a b ≡ false → is_earlier b c ≡ false → is_earlier a c ≡ false
chain a b c =
    chain_before a.moment b.moment c.moment (ranks a b) (ranks b c) (ranks a c)
    (chain_before (rank a.cause) (rank b.cause) (rank c.cause) (numbers a b) (numbers b c) (numbers a c)
    (λ e f. let x = ltb-false a.number b.number e in let y = ltb-false b.number c.number f in le-ltb a.number c.number (omega (arith, x, y))))

-- the other way round
flip : (a b : Deadline) → is_earlier a b ≡ true → is_earlier b a ≡ false
flip a b =
    flip_before a.moment b.moment (ranks a b) (ranks b a)
    (flip_before (rank a.cause) (rank b.cause) (numbers a b) (numbers b a)
    (λ e. let x = ltb-true a.number b.number e in le-ltb b.number a.number (omega (arith, x))))

-- neither the best so far nor any other goes before the earliest
record IsEarliest (best : Option Deadline) (ds : List Deadline) (r : Deadline) : Type 0 where
  best_so_far : IfSome best (λ b. is_earlier b r ≡ false)
  others : (d : Deadline) → Among d ds → is_earlier d r ≡ false

-- what a search finds is the earliest
earliest_of : (best : Option Deadline) (ds : List Deadline) (r : Deadline) → fold sooner best ds ≡ Some r → IsEarliest best ds r
earliest_of None [] r e = absurd (cc (e))
earliest_of (Some b) [] r e = record { best_so_far = subst (λ (z : Deadline). is_earlier b z ≡ false) (same_Some _ _ e) (own b); others = λ d a. elim a [ ] }
earliest_of best (x ∷ xs) r e = by_best best (earliest_of (Some (earlier best x)) xs r e)
  where
    both : is_earlier x r ≡ false → ((d : Deadline) → Among d xs → is_earlier d r ≡ false) → (d : Deadline) → Among d (x ∷ xs) → is_earlier d r ≡ false
    both p q d here = p
    both p q d (later a) = q d a

    by_best : (b : Option Deadline) → IsEarliest (Some (earlier b x)) xs r → IsEarliest b (x ∷ xs) r
    by_best None f = record { best_so_far = tt; others = both f.best_so_far f.others }
    by_best (Some b) f =
        cond_both (is_earlier x b) x b (λ (z : Deadline). IsEarliest (Some z) xs r → IsEarliest (Some b) (x ∷ xs) r)
        (λ t g. record { best_so_far = chain b x r (flip x b t) g.best_so_far; others = both g.best_so_far g.others })
        (λ t g. record { best_so_far = g.best_so_far; others = both (chain x b r t g.best_so_far) g.others }) f

module _ (s : PoolState) (moment : ℕ) where
  -- what is found is a deadline of the pool
  found_there : (d : Deadline) → next_deadline s ≡ Some d → Contains (deadlines s) d
  found_there d n = subst (λ (o : Option Deadline). IfSome o (Contains (deadlines s))) n (fold_has (Contains (deadlines s)) None (deadlines s) tt (All-contains_itself (deadlines s)))

  -- no other goes before it
  found_first : (d : Deadline) → next_deadline s ≡ Some d → (x : Deadline) → Among x (deadlines s) → is_earlier x d ≡ false
  found_first d n = (earliest_of None (deadlines s) d n).others

  -- so none lies before its moment
  none_sooner : (x d : Deadline) → is_earlier x d ≡ false → d.moment ≤ x.moment
  none_sooner x d e = by_parts (not_before x.moment d.moment (ranks x d) e)
    where
      by_parts : (d.moment < x.moment) ⊎ ((x.moment ≡ d.moment) × (ranks x d ≡ false)) → d.moment ≤ x.moment
      by_parts (inl l) = omega (arith, l)
      by_parts (inr f) = let g = f.0 in omega (arith, g)

  by_come : (d : Deadline) (b : Bool) → next_deadline s ≡ Some d → nat_le d.moment moment ≡ b → MatchOption (cond b (Some d) None) (All (λ x. moment < x.moment) (deadlines s)) (IsEarliestDue s moment)
  by_come d true n c =
      record { of_pool = found_there d n; come = leb-true d.moment moment c; earliest = all (λ (x : Deadline). is_earlier x d ≡ false) (deadlines s) (found_first d n) }
  by_come d false n c =
      all (λ (x : Deadline). moment < x.moment) (deadlines s) (λ x a. let l = leb-false d.moment moment c in let after = none_sooner x d (found_first d n x a) in omega (arith, l, after))

  by_next : (o : Option Deadline) → next_deadline s ≡ o → MatchOption (option_and_then (if_come moment) o) (All (λ x. moment < x.moment) (deadlines s)) (IsEarliestDue s moment)
  by_next None n = subst (All (λ (x : Deadline). moment < x.moment)) (sym (none_of None (deadlines s) n)) (all (λ (x : Deadline). moment < x.moment) [] (λ x a. elim a [ ]))
  by_next (Some d) n = by_come d (nat_le d.moment moment) n refl

pub due_is_earliest : DueIsEarliest
due_is_earliest s moment = by_next s moment (next_deadline s) refl
