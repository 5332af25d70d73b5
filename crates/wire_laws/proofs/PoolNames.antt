-- The dimensions that a bot tells name its pool.
use Rattle.std.proofs.Common.{◌≡◌, ◌||◌, cond, Bool, true, false, ℕ, List, [], ◌∷◌, ◌++◌, map, find, Option, Some, None, refl, sym, ap, ◌∙◌, append_assoc}
use Rattle.std.specs.Prelude.{if◌then◌else◌, codes, slice_get, unwrap_or}
use Rattle.std.specs.List.{list_any}
use Rattle.std.specs.Option.{option_map_or}
use Rattle.std.proofs.lemmas.Bool.{or_parts, or_from}
use Rattle.std.proofs.lemmas.List.Folds.{list_any-append}
use Rattle.dimensions.specs.Matching.{is_of_key}
use Rattle.dimensions.specs.Order.{is_bot_pair_below, insert_by, sorted_by, with_sorted_values, sorted_bot}
use Rattle.bot_dimensions.specs.Groups.{groups_of}
use Rattle.bot_requests.specs.Dimensions.{caches_group}
use Rattle.wire_laws.specs.Meant.{PoolsAreNamed}

module _ {X : Type 0} (p : X → Bool) (below : X → X → Bool) where
  find_either : (b : Bool) (xs ys : List X) (o : Option X) → find p xs ≡ o → find p ys ≡ o → find p (if b then xs else ys) ≡ o
  find_either true xs ys o h g = h
  find_either false xs ys o h g = g

  -- an item that doesn't pass changes nothing
  find_insert : (y : X) → p y ≡ false → (zs : List X) → find p (insert_by below y zs) ≡ find p zs
  find_insert y h [] = ap (λ b. cond b (Some y) None) h
  find_insert y h (z ∷ zs) =
      find_either (below y z) (y ∷ z ∷ zs) (z ∷ insert_by below y zs) (find p (z ∷ zs)) (ap (λ b. cond b (Some y) (find p (z ∷ zs))) h)
      (ap (λ o. cond (p z) (Some z) o) (find_insert y h zs))

  -- the one item that passes is found among the sorted ones
  find_last : (xs : List X) (x : X) → list_any p xs ≡ false → p x ≡ true → find p (sorted_by below (xs ++ x ∷ [])) ≡ Some x
  find_last [] x none is = ap (λ b. cond b (Some x) None) is
  find_last (y ∷ xs) x none is = let q = or_parts (p y) (list_any p xs) none in find_insert y q.0 (sorted_by below (xs ++ x ∷ [])) ∙ find_last xs x q.1 is

abbrev Group : Type 0
Group = List ℕ × List (List ℕ)

abbrev names_pool : Group → Bool
names_pool group = is_of_key (codes "pool") group

map-last : (xs : List Group) (x : Group) → map with_sorted_values (xs ++ x ∷ []) ≡ map with_sorted_values xs ++ with_sorted_values x ∷ []
map-last [] x = refl
map-last (y ∷ xs) x = ap (λ l. with_sorted_values y ∷ l) (map-last xs x)

any-map : (xs : List Group) → list_any names_pool (map with_sorted_values xs) ≡ list_any names_pool xs
any-map [] = refl
any-map (y ∷ xs) = ap (λ b. names_pool y || b) (any-map xs)

pool_found : (first : List Group) (pool : List ℕ) → list_any names_pool first ≡ false → find names_pool (sorted_bot (first ++ (codes "pool", pool ∷ []) ∷ [])) ≡ Some (codes "pool", pool ∷ [])
pool_found first pool none =
    ap (λ l. find names_pool (sorted_by is_bot_pair_below l)) (map-last first (codes "pool", pool ∷ []))
    ∙ find_last names_pool is_bot_pair_below (map with_sorted_values first) (codes "pool", pool ∷ []) (any-map first ∙ none) refl

pub pools_named : PoolsAreNamed
pools_named h caches none =
    let own = groups_of h.dims ++ caches_group caches in
    let named : Group = (codes "id", h.id ∷ []) in
    let pool : Group = (codes "pool", h.pool ∷ []) in
    let first = own ++ named ∷ [] in
    ap (λ l. unwrap_or (slice_get (option_map_or (λ (pair : Group). pair.1) (find names_pool (sorted_bot l)) []) 0) []) (sym (append_assoc own (named ∷ []) (pool ∷ [])))
    ∙ ap (λ o. unwrap_or (slice_get (option_map_or (λ (pair : Group). pair.1) o []) 0) []) (pool_found first h.pool (list_any-append names_pool own (named ∷ []) ∙ or_from (list_any names_pool own) _ none refl))
