-- Pools each of which has a name of its own, and where their records have a place.
use Rattle.std.proofs.Common.{◌≡◌, ℕ, zero, suc, ◌<◌, List, [], ◌∷◌, length, take, get_or, refl, sym, subst, Bool, true, false, arith}
use Rattle.std.specs.Prelude.{◌&&◌, not}
use Rattle.std.specs.List.{list_any}
use Rattle.std.specs.Cmp.Lexicographic.{nat_list_eq_equiv, same_text}
use Rattle.std.proofs.lemmas.Bool.{and_from, and_parts, or_from, or_parts, not-true, not_from_false}
use Rattle.dimensions.specs.Alike.{same}
use Rattle.swarm_keeper.specs.Stores.{is_at}
use Rattle.swarm_model.specs.declared.pool_settings.PoolSettings.{PoolSettings}
use Rattle.swarm_policy.specs.Pools.{has_name, have_own_names}
use Rattle.swarm_cli.specs.Attaching.{is_one_of}

-- two names that differ do so in either order
same-other : (a b : List ℕ) → same a b ≡ false → same b a ≡ false
same-other a b other = by_cases (same b a) refl
  where
    by_cases : (t : Bool) → same b a ≡ t → t ≡ false
    by_cases false is = refl
    by_cases true is =
        let alike : b ≡ a = same_text b a (sym is) in
        let itself : same a b ≡ true = subst (λ (x : List ℕ). same a x ≡ true) (sym alike) (nat_list_eq_equiv.refl a) in
        absurd (cc)

-- a place is its own
pub here : (folder name : List ℕ) → is_at folder name folder name ≡ true
here folder name = and_from _ _ (nat_list_eq_equiv.refl folder) (nat_list_eq_equiv.refl name)

-- a place under another name is another
pub other_place : (folder name other : List ℕ) → same name other ≡ false → is_at folder name folder other ≡ false
other_place folder name other differ = rw (same-other name other differ) (and-false (same folder folder))
  where
    and-false : (t : Bool) → (t && false) ≡ false
    and-false true = refl
    and-false false = refl

-- and names differ where places do
pub other_name : (folder name other : List ℕ) → is_at folder name folder other ≡ false → same other name ≡ false
other_name folder name other differ = and-second (same folder folder) (same other name) (nat_list_eq_equiv.refl folder) differ
  where
    and-second : (t u : Bool) → t ≡ true → (t && u) ≡ false → u ≡ false
    and-second true u on h = h
    and-second false u on h = absurd (cc)

any-take : {X : Type 0} (test : X → Bool) (xs : List X) (i : ℕ) → list_any test xs ≡ false → list_any test (take i xs) ≡ false
any-take test [] zero none = refl
any-take test [] (suc i) none = refl
any-take test (x ∷ xs) zero none = refl
any-take test (x ∷ xs) (suc i) none = let k = or_parts (test x) (list_any test xs) none in or_from _ _ k.0 (any-take test xs i k.1)

any-at : {X : Type 0} (test : X → Bool) (xs : List X) (i : ℕ) (x : X) → i < length xs → x ≡ get_or xs i x → list_any test xs ≡ false → test x ≡ false
any-at test [] i x low is none = absurd (omega arith)
any-at test (y ∷ xs) zero x low is none = let k = or_parts (test y) (list_any test xs) none in subst (λ z. test z ≡ false) (sym is) k.0
any-at test (y ∷ xs) (suc i) x low is none = let k = or_parts (test y) (list_any test xs) none in any-at test xs i x (omega arith) is k.1

-- the first pools have names of their own
pub own_names-take : (pools : List PoolSettings) (i : ℕ) → have_own_names pools ≡ true → have_own_names (take i pools) ≡ true
own_names-take [] zero own = refl
own_names-take [] (suc i) own = refl
own_names-take (q ∷ pools) zero own = refl
own_names-take (q ∷ pools) (suc i) own =
    let k = and_parts (not (list_any (λ other. has_name other.name q) pools)) (have_own_names pools) own in
    and_from _ _ (not_from_false _ (any-take (λ other. has_name other.name q) pools i (not-true _ k.0))) (own_names-take pools i k.1)

-- the records of a pool have another place than those of the pools before it
pub own_place : (folder : List ℕ) (pools : List PoolSettings) (i : ℕ) (pool : PoolSettings) → i < length pools → pool ≡ get_or pools i pool → have_own_names pools ≡ true
    → is_one_of folder (take i pools) folder pool.name ≡ false
own_place folder [] i pool low is own = absurd (omega arith)
own_place folder (q ∷ pools) zero pool low is own = refl
own_place folder (q ∷ pools) (suc i) pool low is own =
    let k = and_parts (not (list_any (λ other. has_name other.name q) pools)) (have_own_names pools) own in
    let differ : same q.name pool.name ≡ false = any-at (λ other. has_name other.name q) pools i pool (omega arith) is (not-true _ k.0) in
    or_from _ _ (other_place folder q.name pool.name differ) (own_place folder pools i pool (omega arith) is k.1)
