-- What a store keeps at the places of pools, as records are taken out and put back.
use Rattle.std.proofs.Common.{◌≡◌, ℕ, List, [], ◌∷◌, ◌++◌, refl, sym, ap, subst, ◌∙◌, Bool, true, false, Option, Some, None}
use Rattle.std.specs.Prelude.{◌||◌, option_map, is_some, IsSome, if◌then◌else◌}
use Rattle.std.specs.List.{list_all}
use Rattle.std.specs.Cmp.Lexicographic.{same_text}
use Rattle.std.proofs.lemmas.Bool.{and_parts, or_parts}
use Rattle.std.proofs.lemmas.List.{map-append}
use Rattle.std.proofs.lemmas.List.Folds.{list_any-append}
use mathlib.Core.Path.{fun_ext}
use Rattle.dimensions.specs.Alike.{same}
use Rattle.swarm_keeper.specs.Tables.{Tables}
use Rattle.swarm_keeper.specs.Stores.{is_at, with_tables}
use Rattle.swarm_model.specs.declared.pool_settings.PoolSettings.{PoolSettings}
use Rattle.swarm_cli.specs.Attaching.{Kept, told_of, told_records, is_one_of, KeepsOthers}
use Rattle.swarm_cli.proofs.Names.{here, other_place, other_name}

if_true : {A : Type 0} (b : Bool) (x y : A) → b ≡ true → (if b then x else y) ≡ x
if_true true x y is = refl
if_true false x y is = absurd (cc)

if_false : {A : Type 0} (b : Bool) (x y : A) → b ≡ false → (if b then x else y) ≡ y
if_false true x y is = absurd (cc)
if_false false x y is = refl

-- what is put at a place is there
put_here : (folder name : List ℕ) (t : Tables) (kept : Kept) → with_tables folder name t kept folder name ≡ t
put_here folder name t kept = if_true (is_at folder name folder name) t (kept folder name) (here folder name)

-- and all else stays
put_elsewhere : (folder name : List ℕ) (t : Tables) (kept : Kept) (f n : List ℕ) → is_at folder name f n ≡ false → with_tables folder name t kept f n ≡ kept f n
put_elsewhere folder name t kept f n other = if_false (is_at folder name f n) t (kept f n) other

-- what was taken out and is put back is as if it had stayed
pub put_back : (folder name : List ℕ) (t u : Tables) (kept : Kept) → t ≡ kept folder name → with_tables folder name t (with_tables folder name u kept) ≡ kept
put_back folder name t u kept is = fun_ext (λ f. fun_ext (λ n. by_place f n (is_at folder name f n) refl))
  where
    by_place : (f n : List ℕ) (b : Bool) → is_at folder name f n ≡ b → with_tables folder name t (with_tables folder name u kept) f n ≡ kept f n
    by_place f n true at =
        let k = and_parts (same f folder) (same n name) at in
        let in_folder : f ≡ folder = same_text f folder (sym k.0) in
        let of_name : n ≡ name = same_text n name (sym k.1) in
        if_true (is_at folder name f n) t (with_tables folder name u kept f n) at ∙ is ∙ ap (λ (x : List ℕ). kept x name) (sym in_folder) ∙ ap (λ (x : List ℕ). kept f x) (sym of_name)
    by_place f n false other = put_elsewhere folder name t (with_tables folder name u kept) f n other ∙ put_elsewhere folder name u kept f n other

-- with one more pool
one_of-more : (folder : List ℕ) (pools : List PoolSettings) (pool : PoolSettings) (f n : List ℕ) → is_one_of folder (pools ++ pool ∷ []) f n ≡ false
    → (is_one_of folder pools f n ≡ false) × (is_at folder pool.name f n ≡ false)
one_of-more folder pools pool f n none =
    let all = sym (list_any-append (λ (q : PoolSettings). is_at folder q.name f n) pools (pool ∷ [])) ∙ none in
    let k = or_parts (is_one_of folder pools f n) (is_at folder pool.name f n || false) all in
    (k.0, (or_parts (is_at folder pool.name f n) false k.1).0)

-- where the records of one more pool are changed, all others stay
pub others-more : (folder : List ℕ) (pools : List PoolSettings) (pool : PoolSettings) (t : Tables) (a b c : Option Kept) → KeepsOthers folder pools a b
    → c ≡ option_map (with_tables folder pool.name t) b → KeepsOthers folder (pools ++ pool ∷ []) a c
others-more folder pools pool t None b c others is = tt
others-more folder pools pool t (Some k) None c others is = absurd others
others-more folder pools pool t (Some k) (Some l) c others is =
    subst (KeepsOthers folder (pools ++ pool ∷ []) (Some k)) (sym is)
    (λ f n none. let parts = one_of-more folder pools pool f n none in put_elsewhere folder pool.name t l f n parts.1 ∙ others f n parts.0)

pub others-trans : (folder : List ℕ) (pools : List PoolSettings) (a b c : Option Kept) → KeepsOthers folder pools a b → KeepsOthers folder pools b c → KeepsOthers folder pools a c
others-trans folder pools None b c first second = tt
others-trans folder pools (Some k) None c first second = absurd first
others-trans folder pools (Some k) (Some l) None first second = absurd second
others-trans folder pools (Some k) (Some l) (Some m) first second = λ f n none. second f n none ∙ first f n none

-- where nothing was changed yet
pub others-none : (folder : List ℕ) (a : Option Kept) → KeepsOthers folder [] a a
others-none folder None = tt
others-none folder (Some k) = λ f n none. refl

pub others_tell : (folder : List ℕ) (pools : List PoolSettings) (a b : Option Kept) → KeepsOthers folder pools a b → IsSome a → IsSome b
others_tell folder pools None b others some = absurd (cc)
others_tell folder pools (Some k) None others some = absurd others
others_tell folder pools (Some k) (Some l) others some = refl

-- what is told of a pool that is none of these stays
pub told_of_other : (folder : List ℕ) (pools : List PoolSettings) (pool : PoolSettings) (a b : Option Kept) → (a ≡ None → b ≡ None) → KeepsOthers folder pools a b
    → is_one_of folder pools folder pool.name ≡ false → told_of b folder pool ≡ told_of a folder pool
told_of_other folder pools pool None b untold others other = ap (λ (k : Option Kept). told_of k folder pool) (untold refl)
told_of_other folder pools pool (Some k) None untold others other = absurd others
told_of_other folder pools pool (Some k) (Some l) untold others other = ap (λ (t : Tables). Some t) (others folder pool.name other)

-- what stands at the other pools' places stays as one is changed
told_stay : (folder name : List ℕ) (pools : List PoolSettings) (t : Tables) (k : Kept) → is_one_of folder pools folder name ≡ false
    → told_records (Some (with_tables folder name t k)) folder pools ≡ told_records (Some k) folder pools
told_stay folder name [] t k other = refl
told_stay folder name (q ∷ pools) t k other =
    let parts = or_parts (is_at folder q.name folder name) (is_one_of folder pools folder name) other in
    let apart = other_place folder name q.name (other_name folder q.name name parts.0) in
    ap (λ (x : Tables). Some x ∷ told_records (Some (with_tables folder name t k)) folder pools) (put_elsewhere folder name t k folder q.name apart)
    ∙ ap (λ (rest : List (Option Tables)). Some (k folder q.name) ∷ rest) (told_stay folder name pools t k parts.1)

-- one more pool has its records
pub told_more : (folder : List ℕ) (pools : List PoolSettings) (pool : PoolSettings) (t : Tables) (a b : Option Kept) (ts : List (Option Tables)) → IsSome a
    → is_one_of folder pools folder pool.name ≡ false → told_records a folder pools ≡ ts → b ≡ option_map (with_tables folder pool.name t) a
    → told_records b folder (pools ++ pool ∷ []) ≡ ts ++ Some t ∷ []
told_more folder pools pool t None b ts some other told is = absurd (cc)
told_more folder pools pool t (Some k) b ts some other told is =
    subst (λ (x : Option Kept). told_records x folder (pools ++ pool ∷ []) ≡ ts ++ Some t ∷ []) (sym is)
    (map-append (told_of (Some (with_tables folder pool.name t k)) folder) pools (pool ∷ [])
    ∙ ap (λ (l : List (Option Tables)). l ++ Some (with_tables folder pool.name t k folder pool.name) ∷ []) (told_stay folder pool.name pools t k other ∙ told)
    ∙ ap (λ (x : Tables). ts ++ Some x ∷ []) (put_here folder pool.name t k))

-- all records are told where the store tells
pub all_told : (folder : List ℕ) (pools : List PoolSettings) (a : Option Kept) → IsSome a → list_all is_some (told_records a folder pools) ≡ true
all_told folder pools None some = absurd (cc)
all_told folder [] (Some k) some = refl
all_told folder (pool ∷ pools) (Some k) some = all_told folder pools (Some k) some

-- records that are at the pools' places again, and elsewhere were never changed
same_there : (folder : List ℕ) (pools : List PoolSettings) (k m : Kept) (f n : List ℕ) → told_records (Some m) folder pools ≡ told_records (Some k) folder pools
    → is_one_of folder pools f n ≡ true → m f n ≡ k f n
same_there folder [] k m f n told one = absurd (cc)
same_there folder (pool ∷ pools) k m f n told one =
    let rest : told_records (Some m) folder pools ≡ told_records (Some k) folder pools = cc in
    by_place (is_at folder pool.name f n) refl (same_there folder pools k m f n rest)
  where
    by_place : (b : Bool) → is_at folder pool.name f n ≡ b → (is_one_of folder pools f n ≡ true → m f n ≡ k f n) → m f n ≡ k f n
    by_place true at among =
        let p = and_parts (same f folder) (same n pool.name) at in
        let in_folder : f ≡ folder = same_text f folder (sym p.0) in
        let of_name : n ≡ pool.name = same_text n pool.name (sym p.1) in
        let first : m folder pool.name ≡ k folder pool.name = cc in
        ap (λ (x : List ℕ). m x n) in_folder ∙ ap (λ (x : List ℕ). m folder x) of_name ∙ first
        ∙ ap (λ (x : List ℕ). k x pool.name) (sym in_folder) ∙ ap (λ (x : List ℕ). k f x) (sym of_name)
    by_place false other among = among (sym (ap (λ (b : Bool). b || is_one_of folder pools f n) other) ∙ one)

pub back_again : (folder : List ℕ) (pools : List PoolSettings) (a b c : Option Kept) → IsSome a → KeepsOthers folder pools a b → KeepsOthers folder pools b c
    → told_records c folder pools ≡ told_records a folder pools → c ≡ a
back_again folder pools None b c some first second told = absurd (cc)
back_again folder pools (Some k) None c some first second told = absurd first
back_again folder pools (Some k) (Some l) None some first second told = absurd second
back_again folder pools (Some k) (Some l) (Some m) some first second told = ap (λ (x : Kept). Some x) (fun_ext (λ f. fun_ext (λ n. by_place f n (is_one_of folder pools f n) refl)))
  where
    by_place : (f n : List ℕ) (b : Bool) → is_one_of folder pools f n ≡ b → m f n ≡ k f n
    by_place f n true one = same_there folder pools k m f n told one
    by_place f n false other = second f n other ∙ first f n other
