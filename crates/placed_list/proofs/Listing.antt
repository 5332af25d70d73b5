-- The items at places, after items or places change.
use Rattle.std.proofs.Common.{◌≡◌, ◌≢◌, ℕ, zero, suc, ◌<◌, List, [], ◌∷◌, ◌++◌, map, length, get_or, set, take, drop, Option, refl, sym, ap, ◌∙◌, arith, slice_get, take_at, drop_at, length-take-le}
use Rattle.std.specs.List.{All, insert, remove, cons_option}
use Rattle.std.proofs.lemmas.List.{map-append, take-map, drop-map, length-map, get_or-map, set_split}
use Rattle.std.proofs.lemmas.List.Elements.{All-append, All-cons, All-take, All-drop, All-head, All-tail}
use Rattle.std.proofs.lemmas.Option.{slice_get-get_or}
use Rattle.placed_list.specs.Places.{items_at}

-- ---- edits of lists

pub map-insert : {X Y : Type 0} (f : X → Y) (xs : List X) (i : ℕ) (x : X) → map f (insert xs i x) ≡ insert (map f xs) i (f x)
map-insert f xs i x =
    map-append f (take i xs) (x ∷ drop i xs) ∙ ap (λ (l : List _). l ++ f x ∷ map f (drop i xs)) (sym (take-map f i xs))
    ∙ ap (λ (l : List _). take i (map f xs) ++ f x ∷ l) (sym (drop-map f i xs))

pub map-remove : {X Y : Type 0} (f : X → Y) (xs : List X) (i : ℕ) → map f (remove xs i) ≡ remove (map f xs) i
map-remove f xs i =
    map-append f (take i xs) (drop (suc i) xs) ∙ ap (λ (l : List _). l ++ map f (drop (suc i) xs)) (sym (take-map f i xs))
    ∙ ap (λ (l : List _). take i (map f xs) ++ l) (sym (drop-map f (suc i) xs))

pub insert-remove : {X : Type 0} (xs : List X) (i : ℕ) (x : X) → i < length xs → insert (remove xs i) i x ≡ set xs i x
insert-remove xs i x low =
    let long : length (take i xs) ≡ i = length-take-le i xs (omega arith) in
    ap (λ (l : List _). l ++ x ∷ drop i (remove xs i)) (take_at (take i xs) (drop (suc i) xs) i long)
    ∙ ap (λ (l : List _). take i xs ++ x ∷ l) (drop_at (take i xs) (drop (suc i) xs) i long)
    ∙ sym (set_split xs i x low)

module _ {X : Type 0} (P : X → Type 0) where
  pub All-insert : (xs : List X) (i : ℕ) (x : X) → P x → All P xs → All P (insert xs i x)
  All-insert xs i x one all = All-append P (take i xs) (x ∷ drop i xs) (All-take P i xs all) (All-cons P x (drop i xs) one (All-drop P i xs all))

  pub All-remove : (xs : List X) (i : ℕ) → All P xs → All P (remove xs i)
  All-remove xs i all = All-append P (take i xs) (drop (suc i) xs) (All-take P i xs all) (All-drop P (suc i) xs all)

module _ {T : Type 0} where
  slice_get-set_other : (xs : List T) (i j : ℕ) (x : T) → j ≢ i → slice_get (set xs i x) j ≡ slice_get xs j
  slice_get-set_other [] i j x other = refl
  slice_get-set_other (y ∷ xs) zero zero x other = absurd (other refl)
  slice_get-set_other (y ∷ xs) zero (suc j) x other = refl
  slice_get-set_other (y ∷ xs) (suc i) zero x other = refl
  slice_get-set_other (y ∷ xs) (suc i) (suc j) x other = slice_get-set_other xs i j x (λ same. other (ap suc same))

  slice_get-push : (xs : List T) (x : T) (j : ℕ) → j < length xs → slice_get (xs ++ x ∷ []) j ≡ slice_get xs j
  slice_get-push [] x j low = absurd (omega arith)
  slice_get-push (y ∷ xs) x zero low = refl
  slice_get-push (y ∷ xs) x (suc j) low = slice_get-push xs x j (omega arith)

  -- ---- the items at places

  pub items_at-map : (items : List T) (places : List ℕ) (d : T) → All (λ p. p < length items) places → items_at items places ≡ map (λ p. get_or items p d) places
  items_at-map items [] d low = refl
  items_at-map items (p ∷ places) d low =
      ap (λ (o : Option T). cons_option o (items_at items places)) (slice_get-get_or items p d (All-head (λ q. q < length items) p places low))
      ∙ ap (λ (l : List T). get_or items p d ∷ l) (items_at-map items places d (All-tail (λ q. q < length items) p places low))

  pub length-items_at : (items : List T) (places : List ℕ) → All (λ p. p < length items) places → length (items_at items places) ≡ length places
  length-items_at items [] low = refl
  length-items_at [] (p ∷ places) low = let past : p < 0 = All-head (λ q. q < 0) p places low in absurd (omega arith)
  length-items_at (x ∷ items) (p ∷ places) low =
      ap (λ (l : List T). length l) (items_at-map (x ∷ items) (p ∷ places) x low) ∙ length-map (p ∷ places) (λ q. get_or (x ∷ items) q x)

  pub get_or-items_at : (items : List T) (places : List ℕ) (i p : ℕ) (d : T) → All (λ q. q < length items) places → i < length places → get_or places i p ≡ p →
      get_or (items_at items places) i d ≡ get_or items p d
  get_or-items_at items places i p d low within is =
      ap (λ (l : List T). get_or l i d) (items_at-map items places d low) ∙ get_or-map (λ q. get_or items q d) places i p d within ∙ ap (λ (q : ℕ). get_or items q d) is

  agree : (old new : List T) (places : List ℕ) → All (λ p. slice_get new p ≡ slice_get old p) places → items_at new places ≡ items_at old places
  agree old new [] same = refl
  agree old new (p ∷ places) same =
      ap (λ (o : Option T). cons_option o (items_at new places)) (All-head (λ q. slice_get new q ≡ slice_get old q) p places same)
      ∙ ap (λ (l : List T). cons_option (slice_get old p) l) (agree old new places (All-tail (λ q. slice_get new q ≡ slice_get old q) p places same))

  -- another place is given another item
  pub items_at-other : (items : List T) (places : List ℕ) (p : ℕ) (item : T) → All (λ q. q ≢ p) places → items_at (set items p item) places ≡ items_at items places
  items_at-other items places p item apart = agree items (set items p item) places (λ k d low. slice_get-set_other items p (get_or places k d) item (apart k d low))

  -- one item more lies behind them
  pub items_at-push : (items : List T) (places : List ℕ) (item : T) → All (λ p. p < length items) places → items_at (items ++ item ∷ []) places ≡ items_at items places
  items_at-push items places item low = agree items (items ++ item ∷ []) places (λ k d under. slice_get-push items item (get_or places k d) (low k d under))

  pub items_at-insert : (items : List T) (places : List ℕ) (i p : ℕ) (item : T) → All (λ q. q < length items) places → p < length items → get_or items p item ≡ item →
      items_at items (insert places i p) ≡ insert (items_at items places) i item
  items_at-insert items places i p item low within is =
      items_at-map items (insert places i p) item (All-insert (λ q. q < length items) places i p within low)
      ∙ map-insert (λ q. get_or items q item) places i p
      ∙ ap (λ (x : T). insert (map (λ q. get_or items q item) places) i x) is
      ∙ ap (λ (l : List T). insert l i item) (sym (items_at-map items places item low))

  pub items_at-remove : (items : List T) (places : List ℕ) (i : ℕ) (d : T) → All (λ q. q < length items) places → items_at items (remove places i) ≡ remove (items_at items places) i
  items_at-remove items places i d low =
      items_at-map items (remove places i) d (All-remove (λ q. q < length items) places i low)
      ∙ map-remove (λ q. get_or items q d) places i
      ∙ ap (λ (l : List T). remove l i) (sym (items_at-map items places d low))
