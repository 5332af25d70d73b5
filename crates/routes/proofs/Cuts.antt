-- A path, cut at its first slash.
use Rattle.std.proofs.Common.{◌≡◌, ℕ, suc, ◌+◌, List, [], ◌∷◌, Bool, true, false, cond, ◌==◌, ◌&&◌, ◌||◌, not, Option, Some, None, take, drop, length, arith, refl, ap}
use Rattle.std.specs.Prelude.{if◌then◌else◌}
use Rattle.std.specs.List.{list_any, position_or_len, before_first, after_first}
use Rattle.std.proofs.lemmas.Bool.{ne_eqb}
use Rattle.dimensions.specs.Choosing.{when}
use Rattle.dimensions.specs.Rules.{is_empty}
use Rattle.routes.specs.declared.route.Route.TheVariants.{FindMissing}
use Rattle.routes.specs.declared.resource.Resource.TheVariants.{Call, Blob}
use Rattle.routes.specs.Routes.{is_slash, is_part, blob_resource}

abbrev pub push : ℕ → List ℕ × Option (List ℕ) → List ℕ × Option (List ℕ)
push b c = (b ∷ c.0, c.1)

-- what stands before the first slash, and after it where there is one
abbrev pub cut : List ℕ → List ℕ × Option (List ℕ)
cut [] = ([], None)
cut (b ∷ p) = if b == 47 then ([], Some p) else push b (cut p)

module _ {K : Type 0} where
  -- a last part that is not empty
  abbrev pub last_of : K → List ℕ × Option (List ℕ) → Option K
  last_of k ([], r) = None
  last_of k (x ∷ xs, None) = Some k
  last_of k (x ∷ xs, Some r) = None

  -- two parts, or one, none of them empty
  abbrev pub parts_of_cut : K → K → List ℕ × Option (List ℕ) → Option K
  parts_of_cut two one ([], r) = None
  parts_of_cut two one (x ∷ xs, None) = Some one
  parts_of_cut two one (x ∷ xs, Some r) = last_of two (cut r)

-- ---- the cut, by the bytes before the first slash and after it

abbrev tail_of : List ℕ → Option (List ℕ)
tail_of p = when (list_any is_slash p) (after_first is_slash p)

one_more : (n : ℕ) → 1 + n ≡ suc n
one_more n = omega arith

two_more : (n : ℕ) → suc n + 1 ≡ suc (n + 1)
two_more n = omega arith

is_filled : (b : ℕ) (p : List ℕ) → is_empty (b ∷ p) ≡ false
is_filled b p = ne_eqb (length (b ∷ p)) 0 (λ e. omega arith)

cut_is : (p : List ℕ) → cut p ≡ (before_first is_slash p, tail_of p)
cut_is [] = refl
cut_is (b ∷ p) = by_test (is_slash b) (cut_is p)
  where
    by_test : (v : Bool) → cut p ≡ (before_first is_slash p, tail_of p)
        → (if v then ([], Some p) else push b (cut p))
        ≡ (take (cond (not v) (1 + position_or_len is_slash p) 0) (b ∷ p), when (v || list_any is_slash p) (drop (cond (not v) (1 + position_or_len is_slash p) 0 + 1) (b ∷ p)))
    by_test true h = refl
    by_test false h = rw (one_more (position_or_len is_slash p), two_more (position_or_len is_slash p)) (ap (push b) h)

-- the first part has no slash
none_before : (p : List ℕ) → list_any is_slash (before_first is_slash p) ≡ false
none_before [] = refl
none_before (b ∷ p) = by_test (is_slash b) refl (none_before p)
  where
    by_test : (v : Bool) → is_slash b ≡ v → list_any is_slash (before_first is_slash p) ≡ false
        → list_any is_slash (take (cond (not v) (1 + position_or_len is_slash p) 0) (b ∷ p)) ≡ false
    by_test true e r = refl
    by_test false e r = rw (one_more (position_or_len is_slash p), e) r

-- a last part, by its slashes
last_is : (rest : List ℕ) → last_of Blob (cut rest) ≡ when (is_part rest) Blob
last_is [] = refl
last_is (b ∷ p) = by_test (is_slash b) (list_any is_slash p) refl refl (cut_is p)
  where
    by_test : (v w : Bool) → is_slash b ≡ v → list_any is_slash p ≡ w → cut p ≡ (before_first is_slash p, tail_of p)
        → last_of Blob (cut (b ∷ p)) ≡ when (not (is_empty (b ∷ p)) && not (list_any is_slash (b ∷ p))) Blob
    by_test true w e f c = rw (is_filled b p, e) refl
    by_test false true e f c = rw (is_filled b p, e, c, f) refl
    by_test false false e f c = rw (is_filled b p, e, c, f) refl

pub resource_of_cut : (path : List ℕ) → parts_of_cut Blob (Call FindMissing) (cut path) ≡ blob_resource path
resource_of_cut [] = refl
resource_of_cut (b ∷ p) = by_test (is_slash b) (list_any is_slash p) refl refl (cut_is p)
  where
    first : List ℕ
    first = before_first is_slash p

    by_test : (v w : Bool) → is_slash b ≡ v → list_any is_slash p ≡ w → cut p ≡ (first, tail_of p)
        → parts_of_cut Blob (Call FindMissing) (cut (b ∷ p)) ≡ blob_resource (b ∷ p)
    by_test true w e f c = rw (is_filled b p, e) refl
    by_test false true e f c =
        rw (is_filled b p, e, c, f, one_more (position_or_len is_slash p), two_more (position_or_len is_slash p), is_filled b first, e, none_before p)
        (last_is (after_first is_slash p))
    by_test false false e f c = rw (is_filled b p, e, c, f) refl
