-- Lists, and values that may be missing, as they are written and read.
use Rattle.std.proofs.Common.{◌≡◌, ℕ, suc, ◌+◌, ◌≤◌, List, [], ◌∷◌, map, false, Option, Some, None, refl, arith}
use Rattle.std.specs.Prelude.{⊤, is_some, if◌then◌else◌}
use Rattle.std.specs.Option.{option_map}
use Rattle.std.specs.List.{All}
use Rattle.serde_json.specs.Data.{Data, null, array, Items, no_items, item, depth, items_depth}
use Rattle.serde_json.specs.Find.{as_null, as_array}
use Rattle.serde_json.specs.View.{items_of}
use Rattle.serde_json.specs.Written.{has_float}
use Rattle.line_parts.specs.Finding.{◌>>=◌}

-- what isn't there is null
abbrev pub or_null : {A : Type 0} → (A → Data) → Option A → Data
or_null show None = null
or_null show (Some x) = show x

abbrev pub null_or : {A : Type 0} → (Data → Option A) → Data → Option (Option A)
null_or read d = if is_some (as_null d) then Some None else option_map Some (read d)

abbrev pub HoldsOption : {A : Type 0} → (A → Type 0) → Option A → Type 0
HoldsOption P None = ⊤
HoldsOption P (Some x) = P x

-- each of some values
abbrev pub each : {A : Type 0} → (Data → Option A) → List Data → Option (List A)
each read [] = Some []
each read (d ∷ ds) = read d >>= (λ x. each read ds >>= (λ xs. Some (x ∷ xs)))

abbrev pub list_of : Items → List Data
list_of no_items = []
list_of (item d ds) = d ∷ list_of ds

abbrev pub items_in : Data → Option (List Data)
items_in d = option_map list_of (as_array d)

abbrev pub list_data : {A : Type 0} → (A → Data) → List A → Data
list_data show xs = array (items_of (map show xs))

abbrev pub list_in : {A : Type 0} → (Data → Option A) → Data → Option (List A)
list_in read d = items_in d >>= each read

-- ---- what is written is read back

pub list_of_items : (ds : List Data) → list_of (items_of ds) ≡ ds
list_of_items [] = refl
list_of_items (d ∷ ds) = rw (list_of_items ds) refl

module _ {A : Type 0} (show : A → Data) (read : Data → Option A) (P : A → Type 0) where
  pub option_reads_back : ((x : A) → as_null (show x) ≡ None) → ((x : A) → P x → read (show x) ≡ Some x) → (o : Option A) → HoldsOption P o → null_or read (or_null show o) ≡ Some o
  option_reads_back apart back None h = refl
  option_reads_back apart back (Some x) h = rw (apart x, back x h) refl

  each_reads_back : ((x : A) → P x → read (show x) ≡ Some x) → (xs : List A) → All P xs → each read (map show xs) ≡ Some xs
  each_reads_back back [] h = refl
  each_reads_back back (x ∷ xs) h = rw (back x (h 0 x (omega arith)), each_reads_back back xs (λ k d low. h (suc k) d (omega arith))) refl

  pub list_reads_back : ((x : A) → P x → read (show x) ≡ Some x) → (xs : List A) → All P xs → list_in read (list_data show xs) ≡ Some xs
  list_reads_back back xs h = rw (list_of_items (map show xs)) (each_reads_back back xs h)

module _ {A : Type 0} (show : A → Data) (plain : (x : A) → has_float (show x) ≡ false) where
  pub option_has_no_float : (o : Option A) → has_float (or_null show o) ≡ false
  option_has_no_float None = refl
  option_has_no_float (Some x) = plain x

  pub list_has_no_float : (xs : List A) → has_float (list_data show xs) ≡ false
  list_has_no_float [] = refl
  list_has_no_float (x ∷ xs) = rw (plain x, list_has_no_float xs) refl

module _ {A : Type 0} (show : A → Data) (n : ℕ) (shallow : (x : A) → depth (show x) ≤ n) where
  pub option_is_shallow : (o : Option A) → depth (or_null show o) ≤ n
  option_is_shallow None = omega arith
  option_is_shallow (Some x) = shallow x

  items_is_shallow : (xs : List A) → items_depth (items_of (map show xs)) ≤ n
  items_is_shallow [] = omega arith
  items_is_shallow (x ∷ xs) = omega (arith, shallow x, items_is_shallow xs)

  pub list_is_shallow : (xs : List A) → depth (list_data show xs) ≤ n + 1
  list_is_shallow xs = omega (arith, items_is_shallow xs)
