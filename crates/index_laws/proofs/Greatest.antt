-- The greatest of the numbers of which something holds, and the last of numbered rows that pass a test.
use Rattle.std.proofs.Common.{◌≡◌, ◌↔◌, ℕ, ◌+◌, ◌<◌, ◌≤◌, Bool, true, false, cond, List, [], ◌∷◌, ◌⊎◌, inl, inr, refl, ap, Option, Some, None, IfSome, MatchOption, arith}
use Rattle.std.specs.List.{fold}
use Rattle.std.specs.Option.{option_map}
use Rattle.std.proofs.lemmas.Option.{same_Some}
use Rattle.swarm_model.specs.declared.task_row.TaskRow.{TaskRow}
use Rattle.swarm_model.specs.Numbers.{AreNumbered}
use Rattle.swarm_model.specs.Reuse.{newer}
use Rattle.swarm_model.specs.Effects.{no_of_task}
use Rattle.pool_laws.proofs.Lists.{Among, here, later}

-- it holds of the number, and of no greater one
pub record IsGreatest (P : ℕ → Type 0) (n : ℕ) : Type 0 where
  pub has : P n
  pub most : (m : ℕ) → P m → m ≤ n

-- the same, or it holds of none
abbrev pub IsGreatestOf : (ℕ → Type 0) → Option ℕ → Type 0
IsGreatestOf P r = MatchOption r ((n : ℕ) → P n → ⊥) (IsGreatest P)

-- there is one such number
pub one_greatest : (P : ℕ → Type 0) (r q : Option ℕ) → IsGreatestOf P r → IsGreatestOf P q → r ≡ q
one_greatest P None None g h = refl
one_greatest P None (Some m) g h = absurd (g m h.has)
one_greatest P (Some n) None g h = absurd (h n g.has)
one_greatest P (Some n) (Some m) g h = let low = h.most n g.has in let high = g.most m h.has in let is : n ≡ m = omega (arith, low, high) in ap (λ (k : ℕ). Some k) is

-- the number stays the greatest where more numbers come, each below an old one
pub still_greatest : (P Q : ℕ → Type 0) → ((n : ℕ) → P n → Q n) → ((n : ℕ) → Q n → (m : ℕ) × (P m × (n ≤ m))) → (r : Option ℕ) → IsGreatestOf P r → IsGreatestOf Q r
still_greatest P Q more below None g = λ n q. g (below n q).0 (below n q).1.0
still_greatest P Q more below (Some n) g =
    record {
      has = more n g.has;
      most = λ m q. let high = g.most (below m q).0 (below m q).1.0 in let low = (below m q).1.1 in omega (arith, high, low);
    }

-- and where the numbers are the same
pub same_greatest : (P Q : ℕ → Type 0) → ((n : ℕ) → P n ↔ Q n) → (r : Option ℕ) → IsGreatestOf P r → IsGreatestOf Q r
same_greatest P Q same r g = still_greatest P Q (λ n p. (same n).0 p) (λ n q. (n, ((same n).1 q, omega arith))) r g

module _ (test : TaskRow → Bool) where
  -- a row of the number passes
  pub record Passes (rows : List TaskRow) (n : ℕ) : Type 0 where
    pub row : TaskRow
    pub among : Among row rows
    pub passes : test row ≡ true
    pub named : row.no ≡ n

  -- the same, or the best row so far has the number
  abbrev BestOrPasses : Option TaskRow → List TaskRow → ℕ → Type 0
  BestOrPasses best rows n = (option_map no_of_task best ≡ Some n) ⊎ Passes rows n

  passes_later : (x : TaskRow) (xs : List TaskRow) (n : ℕ) → Passes xs n → Passes (x ∷ xs) n
  passes_later x xs n p = record { row = p.row; among = later p.among; passes = p.passes; named = p.named }

  -- a row that passes is the first one or one of the rest
  first_or_rest : (x : TaskRow) (xs : List TaskRow) (n : ℕ) → Passes (x ∷ xs) n → ((test x ≡ true) × (x.no ≡ n)) ⊎ Passes xs n
  first_or_rest x xs n p = by_place p.row p.among p.passes p.named
    where
      by_place : (y : TaskRow) → Among y (x ∷ xs) → test y ≡ true → y.no ≡ n → ((test x ≡ true) × (x.no ≡ n)) ⊎ Passes xs n
      by_place y here t e = inl (t, e)
      by_place y (later a) t e = inr (record { row = y; among = a; passes = t; named = e })

  best_below : (best : Option TaskRow) (k n : ℕ) → IfSome best (λ b. b.no < k) → option_map no_of_task best ≡ Some n → n < k
  best_below None k n low e = absurd (cc (e))
  best_below (Some b) k n low e = let is : b.no ≡ n = same_Some _ _ e in omega (arith, low, is)

  below_next : (best : Option TaskRow) (k : ℕ) → IfSome best (λ b. b.no < k) → IfSome best (λ b. b.no < k + 1)
  below_next None k low = tt
  below_next (Some b) k low = omega (arith, low)

  last_from : (best : Option TaskRow) (k : ℕ) (xs : List TaskRow) → AreNumbered no_of_task k xs → IfSome best (λ b. b.no < k) → IsGreatestOf (BestOrPasses best xs) (option_map no_of_task (fold (newer test) best xs))
  last_from None k [] are low = λ n h. elim h [ inl e ↦ absurd (cc (e)) | inr p ↦ elim p.among [ ] ]
  last_from (Some b) k [] are low = record { has = inl refl; most = λ m h. elim h [ inl e ↦ (let is : b.no ≡ m = same_Some _ _ e in omega (arith, is)) | inr p ↦ elim p.among [ ] ] }
  last_from best k (x ∷ xs) are low = by_test (test x) refl (λ o. last_from o (k + 1) xs are.1)
    where
      by_test : (c : Bool) → test x ≡ c → ((o : Option TaskRow) → IfSome o (λ b. b.no < k + 1) → IsGreatestOf (BestOrPasses o xs) (option_map no_of_task (fold (newer test) o xs))) →
          IsGreatestOf (BestOrPasses best (x ∷ xs)) (option_map no_of_task (fold (newer test) (cond c (Some x) best) xs))
      by_test true t rest =
          (let at : x.no ≡ k = are.0 in
          still_greatest (BestOrPasses (Some x) xs) (BestOrPasses best (x ∷ xs))
          (λ n h. elim h [ inl e ↦ inr (record { row = x; among = here; passes = t; named = same_Some _ _ e }) | inr p ↦ inr (passes_later x xs n p) ])
          (λ n h. elim h [
            | inl e ↦ (x.no, (inl refl, let below = best_below best k n low e in omega (arith, below, at)))
            | inr p ↦ elim (first_or_rest x xs n p) [ inl f ↦ (n, (inl (ap (λ (j : ℕ). Some j) f.1), omega arith)) | inr q ↦ (n, (inr q, omega arith)) ]
          ])
          (option_map no_of_task (fold (newer test) (Some x) xs)) (rest (Some x) (omega (arith, at))))
      by_test false t rest =
          same_greatest (BestOrPasses best xs) (BestOrPasses best (x ∷ xs))
          (λ n. (
            λ h. elim h [ inl e ↦ inl e | inr p ↦ inr (passes_later x xs n p) ],
            λ h. elim h [
              | inl e ↦ inl e
              | inr p ↦ elim (first_or_rest x xs n p) [ inl f ↦ absurd (let g = f.0 in cc (g, t)) | inr q ↦ inr q ]
            ],
          ))
          (option_map no_of_task (fold (newer test) best xs)) (rest best (below_next best k low))

  -- the last row that passes has the greatest number of those that do
  pub last_is_greatest : (rows : List TaskRow) → AreNumbered no_of_task 1 rows → IsGreatestOf (Passes rows) (option_map no_of_task (fold (newer test) None rows))
  last_is_greatest rows are =
      same_greatest (BestOrPasses None rows) (Passes rows) (λ n. (λ h. elim h [ inl e ↦ absurd (cc (e)) | inr p ↦ p ], λ p. inr p))
      (option_map no_of_task (fold (newer test) None rows)) (last_from None 1 rows are tt)
