-- The caches as pairs of bytes and sizes.
use Rattle.std.proofs.Common.{◌≡◌, ℕ, zero, suc, ◌-◌, ◌≤◌, Bool, true, false, cond, List, [], ◌∷◌, ◌++◌, length, take, slice_get, Option, Some, None, String, Global, string_bytes, refl, sym, ◌∙◌, ap, arith}
use Rattle.std.specs.Str.{bytes_eq}
use Rattle.std.specs.String.{string_eq}
use Rattle.std.specs.Map.{lookup, lookup_entry, remove_entry}
use Rattle.std.specs.Option.{option_map_or}
use Rattle.std.proofs.lemmas.Slice.Eq.{bytes_eq-Decides}
use Rattle.lru.specs.LruCache.{LruCache, put_entries, last_entry}
use Rattle.named_caches.specs.Caches.{with_bytes, by_bytes}

abbrev pub has_name : List ℕ → String Global → Bool
has_name name s = bytes_eq name (string_bytes s)

cond_some : (b : Bool) (x : ℕ) (o p : Option ℕ) → o ≡ p → cond b (Some x) o ≡ cond b (Some x) p
cond_some true x o p h = refl
cond_some false x o p h = h

pub lookup_by_bytes : (name : List ℕ) (es : List (String Global × ℕ)) → lookup (has_name name) es ≡ lookup (bytes_eq name) (by_bytes es)
lookup_by_bytes name [] = refl
lookup_by_bytes name (e ∷ es) = cond_some (bytes_eq name (string_bytes e.0)) e.1 (lookup (has_name name) es) (lookup (bytes_eq name) (by_bytes es)) (lookup_by_bytes name es)

by_bytes_if : (b : Bool) (e : String Global × ℕ) (es fs : List (String Global × ℕ)) (gs : List (List ℕ × ℕ)) → by_bytes fs ≡ gs → by_bytes (cond b es (e ∷ fs)) ≡ cond b (by_bytes es) (with_bytes e ∷ gs)
by_bytes_if true e es fs gs h = refl
by_bytes_if false e es fs gs h = ap (λ (xs : List (List ℕ × ℕ)). with_bytes e ∷ xs) h

pub remove_by_bytes : (name : List ℕ) (es : List (String Global × ℕ)) → by_bytes (remove_entry (has_name name) es) ≡ remove_entry (bytes_eq name) (by_bytes es)
remove_by_bytes name [] = refl
remove_by_bytes name (e ∷ es) = by_bytes_if (bytes_eq name (string_bytes e.0)) e es (remove_entry (has_name name) es) (remove_entry (bytes_eq name) (by_bytes es)) (remove_by_bytes name es)

pub length_by_bytes : (es : List (String Global × ℕ)) → length (by_bytes es) ≡ length es
length_by_bytes [] = refl
length_by_bytes (e ∷ es) = ap suc (length_by_bytes es)

last_at : (n : ℕ) (es : List (String Global × ℕ)) (e : String Global × ℕ) → length es ≡ suc n → slice_get es n ≡ Some e → by_bytes es ≡ by_bytes (take n es) ++ with_bytes e ∷ []
last_at zero [] e l h = absurd (omega arith)
last_at (suc n) [] e l h = absurd (omega arith)
last_at zero (x ∷ []) e l h = let k : x ≡ e = cc in rw k refl
last_at zero (x ∷ (y ∷ es)) e l h = absurd (omega arith)
last_at (suc n) (x ∷ es) e l h = ap (λ (xs : List (List ℕ × ℕ)). with_bytes x ∷ xs) (last_at n es e (omega arith) h)

-- the last one stands behind the others
pub last_by_bytes : (es : List (String Global × ℕ)) (e : String Global × ℕ) → last_entry es ≡ Some e → by_bytes es ≡ by_bytes (take (length es - 1) es) ++ with_bytes e ∷ []
last_by_bytes [] e h = absurd (cc)
last_by_bytes (x ∷ es) e h = last_at (length (x ∷ es) - 1) (x ∷ es) e (omega arith) h

-- ---- a new name goes first, and pushes nothing out

take_all : {A : Type 0} (n : ℕ) (xs : List A) → length xs ≤ n → take n xs ≡ xs
take_all zero [] h = refl
take_all (suc n) [] h = refl
take_all zero (x ∷ xs) h = absurd (omega arith)
take_all (suc n) (x ∷ xs) h = ap (λ ys. x ∷ ys) (take_all n xs (omega arith))

module _ {K V : Type 0} (test : K → Bool) where
  no_entry : (es : List (K × V)) → lookup test es ≡ None → lookup_entry test es ≡ None
  no_entry [] h = refl
  no_entry (e ∷ es) h = (elim (test e.0) as (λ y. test e.0 ≡ y → lookup_entry test (e ∷ es) ≡ None) [
    | true ↦ λ t. let bad : Some e.1 ≡ None = rw t at h in cc
    | false ↦ λ t. rw t (no_entry es (rw t at h))
  ]) refl

no_remove : (name : List ℕ) (es : List (String Global × ℕ)) → lookup_entry (has_name name) es ≡ None → remove_entry (has_name name) es ≡ es
no_remove name [] h = refl
no_remove name (e ∷ es) h = (elim (has_name name e.0) as (λ y. has_name name e.0 ≡ y → remove_entry (has_name name) (e ∷ es) ≡ e ∷ es) [
  | true ↦ λ t. let bad : Some e ≡ None = rw t at h in cc
  | false ↦ λ t. rw t (ap (λ xs. e ∷ xs) (no_remove name es (rw t at h)))
]) refl

found_name : (name : List ℕ) (es : List (String Global × ℕ)) (e : String Global × ℕ) → lookup_entry (has_name name) es ≡ Some e → has_name name e.0 ≡ true
found_name name [] e h = absurd (cc)
found_name name (x ∷ es) e h = (elim (has_name name x.0) as (λ y. has_name name x.0 ≡ y → has_name name e.0 ≡ true) [
  | true ↦ λ t. let same : Some x ≡ Some e = rw t at h in let k : x ≡ e = cc in rw (sym k) t
  | false ↦ λ t. found_name name es e (rw t at h)
]) refl

bytes_same : (xs ys : List ℕ) → bytes_eq xs ys ≡ true → xs ≡ ys
bytes_same xs ys h = (bytes_eq-Decides xs ys).0 h

put_by : (k : String Global) (v : ℕ) (es : List (String Global × ℕ)) (cap : ℕ) (o : Option (String Global × ℕ)) → lookup_entry (has_name (string_bytes k)) es ≡ o → length es ≤ cap - 1 →
    by_bytes (option_map_or (λ e. (e.0, v) ∷ remove_entry (has_name (string_bytes k)) es) o ((k, v) ∷ take (cap - 1) es)) ≡ (string_bytes k, v) ∷ remove_entry (bytes_eq (string_bytes k)) (by_bytes es)
put_by k v es cap None h fits =
    ap (λ xs. (string_bytes k, v) ∷ by_bytes xs) (take_all (cap - 1) es fits ∙ sym (no_remove (string_bytes k) es h)) ∙ ap (λ xs. (string_bytes k, v) ∷ xs) (remove_by_bytes (string_bytes k) es)
put_by k v es cap (Some e) h fits =
    ap (λ n. (n, v) ∷ by_bytes (remove_entry (has_name (string_bytes k)) es)) (sym (bytes_same (string_bytes k) (string_bytes e.0) (found_name (string_bytes k) es e h))) ∙ ap (λ xs. (string_bytes k, v) ∷ xs) (remove_by_bytes (string_bytes k) es)

pub put_by_bytes : (c : LruCache (String Global) ℕ) (k : String Global) (v : ℕ) → length c.entries ≤ c.cap - 1 →
    by_bytes (put_entries string_eq c k v) ≡ (string_bytes k, v) ∷ remove_entry (bytes_eq (string_bytes k)) (by_bytes c.entries)
put_by_bytes c k v fits = put_by k v c.entries c.cap (lookup_entry (string_eq k) c.entries) refl fits
