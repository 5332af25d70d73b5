-- Keys of numbered rows that stand once, and rows of one key that are one.
use Rattle.std.proofs.Common.{◌≡◌, ℕ, suc, ◌+◌, Bool, true, false, List, [], ◌∷◌, ◌++◌, All, AllPairs, flat_map, refl, sym, ap, subst, arith}
use Rattle.std.specs.Cmp.{IsTotalOrder}
use Rattle.std.specs.Ordering.{is_eq}
use Rattle.std.specs.declared.cmp.Ordering.{Ordering}
use Rattle.std.specs.declared.cmp.Ordering.TheVariants.{Less, Equal, Greater}
use Rattle.std.proofs.lemmas.Cmp.{tied_itself}
use Rattle.std.proofs.lemmas.List.Kept.{AllPairs-cons}
use Rattle.std.proofs.lemmas.List.Elements.{All-from_get_or}
use Rattle.swarm_model.specs.Numbers.{AreNumbered}
use Rattle.pool_laws.proofs.Lists.{Among, here, later, each, all, each_append, among_left, among_right, number_within}
use Rattle.base_checks.specs.Keys.{Differ, AreDistinct}

-- ---- pairs of two lists in a row

module _ {X : Type 0} (R : X → X → Type 0) where
  pub pairs_head : (x : X) (xs : List X) → AllPairs R (x ∷ xs) → All (R x) xs
  pairs_head x xs pairs = All-from_get_or (R x) xs x (λ i low. pairs 0 (suc i) x (omega arith) (omega (arith, low)))

  pub pairs_tail : (x : X) (xs : List X) → AllPairs R (x ∷ xs) → AllPairs R xs
  pairs_tail x xs pairs i j d less low = pairs (suc i) (suc j) d (omega (arith, less)) (omega (arith, low))

  -- one of the first and one of the second
  pairs_cross : (xs ys : List X) → AllPairs R (xs ++ ys) → (a : X) → Among a xs → (b : X) → Among b ys → R a b
  pairs_cross [] ys pairs a p b q = elim p [ ]
  pairs_cross (x ∷ xs) ys pairs a here b q = each (R a) (xs ++ ys) (pairs_head a (xs ++ ys) pairs) b (among_right b xs ys q)
  pairs_cross (x ∷ xs) ys pairs a (later p) b q = pairs_cross xs ys (pairs_tail x (xs ++ ys) pairs) a p b q

  -- two of the second
  pairs_right : (xs ys : List X) → AllPairs R (xs ++ ys) → AllPairs R ys
  pairs_right [] ys pairs = pairs
  pairs_right (x ∷ xs) ys pairs = pairs_right xs ys (pairs_tail x (xs ++ ys) pairs)

  -- and back
  pub pairs_join : (xs ys : List X) → AllPairs R xs → AllPairs R ys → ((a : X) → Among a xs → (b : X) → Among b ys → R a b) → AllPairs R (xs ++ ys)
  pairs_join [] ys own rest cross = rest
  pairs_join (x ∷ xs) ys own rest cross =
      AllPairs-cons R x (xs ++ ys)
      (all (R x) (xs ++ ys) (each_append (R x) xs ys (each (R x) xs (pairs_head x xs own)) (λ b q. cross x here b q)))
      (pairs_join xs ys (pairs_tail x xs own) rest (λ a p b q. cross a (later p) b q))

-- ---- keys

equal_of : (r : Ordering) → is_eq r ≡ true → r ≡ Equal
equal_of Less e = absurd (cc (e))
equal_of Equal e = refl
equal_of Greater e = absurd (cc (e))

module _ {R K : Type 0} (keys : R → List K) (number_of : R → ℕ) where
  -- rows of one key are one
  abbrev pub AreOne : List R → Type 0
  AreOne rows = (a b : R) → Among a rows → Among b rows → (k : K) → Among k (keys a) → Among k (keys b) → number_of a ≡ number_of b

  -- a row has the key
  record Having (k : K) (rows : List R) : Type 0 where
    row : R
    among : Among row rows
    has : Among k (keys row)

  among_keys : (rows : List R) (x : R) (k : K) → Among x rows → Among k (keys x) → Among k (flat_map keys rows)
  among_keys [] x k a h = elim a [ ]
  among_keys (y ∷ rows) x k here h = among_left k (keys x) (flat_map keys rows) h
  among_keys (y ∷ rows) x k (later a) h = among_right k (keys y) (flat_map keys rows) (among_keys rows x k a h)

  having : (rows : List R) (k : K) → Among k (flat_map keys rows) → Having k rows
  having [] k a = elim a [ ]
  having (x ∷ rows) k a =
      let rest = having rows in
      each_append (λ (j : K). Having j (x ∷ rows)) (keys x) (flat_map keys rows)
      (λ j h. record { row = x; among = here; has = h })
      (λ j h. let found : Having j rows = rest j h in record { row = found.row; among = later found.among; has = found.has })
      k a

  module _ (cmp : K → K → Ordering) (total : IsTotalOrder cmp) (tied : (a b : K) → cmp a b ≡ Equal → a ≡ b) where
    not_itself : (k : K) → Differ cmp k k → ⊥
    not_itself k e = let same = ap is_eq (tied_itself total k) in cc (e, same)

    pub one_of_distinct : (rows : List R) → AreDistinct cmp (flat_map keys rows) → AreOne rows
    one_of_distinct [] distinct a b p q k e f = elim p [ ]
    one_of_distinct (x ∷ rows) distinct a b here here k e f = refl
    one_of_distinct (x ∷ rows) distinct a b here (later q) k e f =
        absurd (not_itself k (pairs_cross (Differ cmp) (keys a) (flat_map keys rows) distinct k e k (among_keys rows b k q f)))
    one_of_distinct (x ∷ rows) distinct a b (later p) here k e f =
        absurd (not_itself k (pairs_cross (Differ cmp) (keys b) (flat_map keys rows) distinct k f k (among_keys rows a k p e)))
    one_of_distinct (x ∷ rows) distinct a b (later p) (later q) k e f = one_of_distinct rows (pairs_right (Differ cmp) (keys x) (flat_map keys rows) distinct) a b p q k e f

    -- no key of the first row is one of a later row
    first_apart : (n : ℕ) (x : R) (rows : List R) → AreNumbered number_of n (x ∷ rows) → AreOne (x ∷ rows) → (k : K) → Among k (keys x) → (j : K) → Among j (flat_map keys rows) → Differ cmp k j
    first_apart n x rows are one k e j f = by_test (is_eq (cmp k j)) refl
      where
        by_test : (t : Bool) → is_eq (cmp k j) ≡ t → t ≡ false
        by_test false t = refl
        by_test true t =
            (let found : Having j rows = having rows j f in
            let same : k ≡ j = tied k j (equal_of (cmp k j) t) in
            let number : number_of x ≡ number_of found.row = one x found.row here (later found.among) k e (subst (λ (i : K). Among i (keys found.row)) (sym same) found.has) in
            let first = are.0 in
            let low = (number_within number_of (n + 1) rows are.1 found.row found.among).0 in
            absurd (omega (arith, number, first, low)))

    pub distinct_of_one : (n : ℕ) (rows : List R) → AreNumbered number_of n rows → ((x : R) → Among x rows → AreDistinct cmp (keys x)) → AreOne rows → AreDistinct cmp (flat_map keys rows)
    distinct_of_one n [] are own one = λ i j d less low. absurd (omega (arith, low))
    distinct_of_one n (x ∷ rows) are own one =
        pairs_join (Differ cmp) (keys x) (flat_map keys rows) (own x here)
        (distinct_of_one (n + 1) rows are.1 (λ y a. own y (later a)) (λ a b p q. one a b (later p) (later q)))
        (first_apart n x rows are one)
