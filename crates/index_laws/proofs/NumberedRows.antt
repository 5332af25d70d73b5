-- The row of a number after an entry.
use Rattle.std.proofs.Common.{◌≡◌, ℕ, ◌<◌, ◌≤◌, List, ◌++◌, map, find, length, set, refl, sym, ap, ◌∙◌, subst, ◌⊎◌, inl, inr, Option, Some, None, eqb-true, arith}
use Rattle.std.specs.Option.{option_and_then}
use Rattle.std.proofs.lemmas.Bool.{cases_eq, cases_lt}
use Rattle.std.proofs.lemmas.List.{get_or-set_same, get_or-set_other, get_or_past, length-set}
use Rattle.swarm_model.specs.Numbers.{AreNumbered}
use Rattle.swarm_model.specs.declared.deadline.Deadline.{Deadline}
use Rattle.pool_laws.proofs.Lists.{Among, Found, find_is, number_finds, number_within, among_left, among_map, each_append, each_map, has_number}
use Rattle.pool_index.specs.Deadlines.{deadline_at}
use Rattle.index_laws.specs.RowDeadlines.{put_deadline}

module _ {R : Type 0} (no : R → ℕ) (f : R → R) (rows added : List R) (old : AreNumbered no 1 rows) (new : AreNumbered no 1 (map f rows ++ added))
    (keeps : (x : R) → Among x rows → no (f x) ≡ no x) where
  -- a row that is there is found as it is changed
  pub changed_found : (x : R) → Among x rows → find (has_number no (no x)) (map f rows ++ added) ≡ Some (f x)
  changed_found x a =
      subst (λ (n : ℕ). find (has_number no n) (map f rows ++ added) ≡ Some (f x)) (keeps x a)
      (number_finds no 1 (map f rows ++ added) new (f x) (among_left (f x) (map f rows) added (among_map f rows x a)))

  -- what is read of the row of a number stays, where it stays for each row that has the number, and none is added
  pub read_same : {D : Type 0} (h g : R → Option D) (n : ℕ) → ((x : R) → Among x rows → no x ≡ n → g (f x) ≡ h x) → ((y : R) → Among y added → no y ≡ n → ⊥) →
      option_and_then g (find (has_number no n) (map f rows ++ added)) ≡ option_and_then h (find (has_number no n) rows)
  read_same {D} h g n same none = by_new (find (has_number no n) (map f rows ++ added)) refl
    where
      of_row : (y : R) → Among y (map f rows ++ added) → no y ≡ n → g y ≡ option_and_then h (find (has_number no n) rows)
      of_row =
          each_append (λ (y : R). no y ≡ n → g y ≡ option_and_then h (find (has_number no n) rows)) (map f rows) added
          (each_map (λ (y : R). no y ≡ n → g y ≡ option_and_then h (find (has_number no n) rows)) f rows (λ x a e.
          let is : no x ≡ n = sym (keeps x a) ∙ e in
          same x a is ∙ sym (ap (option_and_then h) (subst (λ (k : ℕ). find (has_number no k) rows ≡ Some x) is (number_finds no 1 rows old x a)))))
          (λ y a e. absurd (none y a e))

      by_old : (r : Option R) → find (has_number no n) rows ≡ r → find (has_number no n) (map f rows ++ added) ≡ None → None ≡ option_and_then h r
      by_old None q p = refl
      by_old (Some x) q p =
          (let found : Found (has_number no n) rows x = find_is (has_number no n) rows x q in
          absurd (let there = subst (λ (k : ℕ). find (has_number no k) (map f rows ++ added) ≡ Some (f x)) (eqb-true (no x) n found.passes) (changed_found x found.among) in cc (there, p)))

      by_new : (r : Option R) → find (has_number no n) (map f rows ++ added) ≡ r → option_and_then g r ≡ option_and_then h (find (has_number no n) rows)
      by_new None p = by_old (find (has_number no n) rows) refl p
      by_new (Some y) p = (let found : Found (has_number no n) (map f rows ++ added) y = find_is (has_number no n) (map f rows ++ added) y p in of_row y found.among (eqb-true (no y) n found.passes))

-- whether a number is the touched one
pub is_touched : (t : Option ℕ) (n : ℕ) → (t ≡ Some n) ⊎ (t ≡ Some n → ⊥)
is_touched None n = inr (λ e. cc (e))
is_touched (Some t) n = elim (cases_eq t n) [ inl e ↦ inl (ap (λ (k : ℕ). Some k) e) | inr ne ↦ inr (λ e. ne (ap (λ (o : Option ℕ). option_value o t) e)) ]
  where
    option_value : Option ℕ → ℕ → ℕ
    option_value None d = d
    option_value (Some k) d = k

-- no row has a number past the last
pub none_past : {R D : Type 0} (number : R → ℕ) (h : R → Option D) (rows : List R) → AreNumbered number 1 rows → (n : ℕ) → length rows < n → option_and_then h (find (has_number number n) rows) ≡ None
none_past {R = R} {D = D} number h rows are n far = by_row (find (has_number number n) rows) refl
  where
    by_row : (r : Option R) → find (has_number number n) rows ≡ r → option_and_then h r ≡ None
    by_row None p = refl
    by_row (Some y) p =
        (let found : Found (has_number number n) rows y = find_is (has_number number n) rows y p in
        let low = (number_within number 1 rows are y found.among).1 in
        let is : number y ≡ n = eqb-true (number y) n found.passes in absurd (omega (arith, low, is, far)))

-- deadlines at the places of numbers stay right, where only the touched one changes and is set anew
pub deadlines_follow : (E new : ℕ → Option Deadline) (touched : Option ℕ) (ends : List (Option Deadline)) → ((n : ℕ) → deadline_at ends n ≡ E n) → ((n : ℕ) → (touched ≡ Some n → ⊥) → new n ≡ E n) →
    ((n : ℕ) → length ends ≤ n → new n ≡ None) → (n : ℕ) → deadline_at (put_deadline new touched ends) n ≡ new n
deadlines_follow E new None ends are stays past n = are n ∙ sym (stays n (λ e. cc (e)))
deadlines_follow E new (Some t) ends are stays past n = elim (cases_eq n t) [
  | inl e ↦ ap (deadline_at (set ends t (new t))) e ∙ own ∙ ap new (sym e)
  | inr ne ↦ get_or-set_other ends t n (new t) None ne ∙ are n ∙ sym (stays n (λ e. ne (sym (unwrap e))))
]
  where
    unwrap : Some t ≡ Some n → t ≡ n
    unwrap e = cc (e)

    own : deadline_at (set ends t (new t)) t ≡ new t
    own = elim (cases_lt t (length ends)) [
      | inl low ↦ get_or-set_same ends t (new t) None low
      | inr far ↦ get_or_past (set ends t (new t)) t None (omega (arith, length-set ends t (new t), far)) ∙ sym (past t (omega (arith, far)))
    ]
