-- Keepers that are attached one after the other, and taken back.
use Rattle.std.proofs.Common.{◌≡◌, ℕ, zero, suc, ◌+◌, ◌<◌, List, [], ◌∷◌, ◌++◌, map, length, take, drop, get_or, refl, sym, ap, subst, ◌∙◌, true, false, Option, Some, None, arith, zero-add, add-one, IsSome, length-append}
use Rattle.std.specs.Prelude.{is_some, sum_by, option_map}
use Rattle.std.specs.List.{list_all, AllByRecursion}
use Rattle.std.proofs.lemmas.Bool.{and_parts}
use Rattle.std.proofs.lemmas.List.{map-append, length-map}
use Rattle.std.proofs.lemmas.List.Folds.{list_all-append}
use Rattle.std.proofs.lemmas.List.Sums.{sum_by-append}
use Rattle.std.proofs.Math.Seq.{take-suc}
use Rattle.sw_base.specs.Faults.{Rose}
use Rattle.swarm_cli.specs.Types.{StartFault, PoolSettings}
use Rattle.swarm_keeper.specs.Tables.{Tables, nothing}
use Rattle.swarm_keeper.specs.Stores.{StoreState, HasPlace, PlacesStay, IsAttached, Detaches, with_tables}
use Rattle.swarm_policy.specs.Pools.{have_own_names}
use Rattle.swarm_cli.specs.Attaching.{Kept, told_of, told_records, is_one_of, KeepsOthers, AttachesOne, AttachesAll, AttachesNone, DetachesAll}
use Rattle.swarm_cli.proofs.Names.{own_place}
use Rattle.swarm_cli.proofs.Places.{others-more, others-none, others_tell, told_of_other, told_more, all_told, back_again}
use Rattle.swarm_cli.proofs.Counts.{counts-none, counts-more, counts_none}

-- ---- lists

pub drop_step : {X : Type 0} (xs : List X) (i : ℕ) (x : X) (ys : List X) → drop i xs ≡ x ∷ ys → (take (suc i) xs ≡ take i xs ++ x ∷ []) × (ys ≡ drop (suc i) xs)
drop_step [] zero x ys is = absurd (cc)
drop_step [] (suc i) x ys is = absurd (cc)
drop_step (z ∷ zs) zero x ys is = let head : z ≡ x = cc in let rest : ys ≡ zs = cc in (ap (λ w. w ∷ []) head, rest)
drop_step (z ∷ zs) (suc i) x ys is = let k = drop_step zs i x ys is in (ap (λ l. z ∷ l) k.0, k.1)

take_next : {X : Type 0} (xs : List X) (i : ℕ) (x : X) → i < length xs → x ≡ get_or xs i x → take (i + 1) xs ≡ take i xs ++ x ∷ []
take_next xs i x low is = rw add-one (take-suc xs i x low ∙ ap (λ w. take i xs ++ w ∷ []) (sym is))

sum_by-more : {X : Type 0} (f : X → ℕ) (xs : List X) (x : X) → sum_by f (xs ++ x ∷ []) ≡ sum_by f xs + f x
sum_by-more f xs x = sum_by-append f xs (x ∷ []) ∙ ap (λ n. sum_by f xs + n) (zero-add (f x))

-- ---- places

pub place_at : (store : StoreState) (folder : List ℕ) (pools : List PoolSettings) (i : ℕ) (pool : PoolSettings) → i < length pools → pool ≡ get_or pools i pool
    → AllByRecursion (λ p. HasPlace store folder p.name) pools → HasPlace store folder pool.name
place_at store folder [] i pool low is places = absurd (omega arith)
place_at store folder (p ∷ pools) zero pool low is places = subst (λ (q : PoolSettings). HasPlace store folder q.name) (sym is) places.0
place_at store folder (p ∷ pools) (suc i) pool low is places = place_at store folder pools i pool (omega arith) is places.1

pub places_stay : (old new : StoreState) (folder : List ℕ) (pools : List PoolSettings) → PlacesStay old new
    → AllByRecursion (λ p. HasPlace old folder p.name) pools → AllByRecursion (λ p. HasPlace new folder p.name) pools
places_stay old new folder [] stay places = tt
places_stay old new folder (p ∷ pools) stay places = (stay folder p.name places.0, places_stay old new folder pools stay places.1)

places-more : (store : StoreState) (folder : List ℕ) (pools : List PoolSettings) (pool : PoolSettings) → AllByRecursion (λ p. HasPlace store folder p.name) pools
    → HasPlace store folder pool.name → AllByRecursion (λ p. HasPlace store folder p.name) (pools ++ pool ∷ [])
places-more store folder [] pool places one = (one, tt)
places-more store folder (p ∷ pools) pool places one = (places.0, places-more store folder pools pool places.1 one)

-- ---- taking back

told_both : (ts : List (Option Tables)) (t : Option Tables) → list_all is_some (ts ++ t ∷ []) ≡ true → (list_all is_some ts ≡ true) × (is_some t ≡ true)
told_both ts t all =
    let k = and_parts (list_all is_some ts) (list_all is_some (t ∷ [])) (sym (list_all-append is_some ts (t ∷ [])) ∙ all) in
    (k.0, (and_parts (is_some t) true k.1).0)

detaches-more : (folder : List ℕ) (pools : List PoolSettings) (pool : PoolSettings) (old mid new : StoreState) (ts : List (Option Tables)) (t : Option Tables) (m n : ℕ)
    → is_one_of folder pools folder pool.name ≡ false → DetachesAll old mid folder pools ts m → Detaches mid new folder pool.name t n
    → DetachesAll old new folder (pools ++ pool ∷ []) (ts ++ t ∷ []) (m + n)
detaches-more folder pools pool old mid new ts None m n other x y = record {
  told = λ some all. absurd (let none = (told_both ts None all).1 in cc);
  others = λ all. absurd (let none = (told_both ts None all).1 in cc);
  counted = counts-more m n old.faults mid.faults new.faults x.counted y.counted;
}
detaches-more folder pools pool old mid new ts (Some t) m n other x y = record {
  told = λ some all.
      let before = (told_both ts (Some t) all).0 in
      told_more folder pools pool t mid.kept new.kept ts (others_tell folder pools old.kept mid.kept (x.others before) some) other (x.told some before) y.kept;
  others = λ all. others-more folder pools pool t old.kept mid.kept new.kept (x.others (told_both ts (Some t) all).0) y.kept;
  counted = counts-more m n old.faults mid.faults new.faults x.counted y.counted;
}

pub detaches-none : (store : StoreState) (folder : List ℕ) → DetachesAll store store folder [] [] 0
detaches-none store folder = record { told = λ some all. refl; others = λ all. others-none folder store.kept; counted = counts-none store.faults }

-- ---- handing out

attaches-more : (folder : List ℕ) (pools : List PoolSettings) (pool : PoolSettings) (old mid new : StoreState) (ts us : List (Option Tables)) (m n : ℕ)
    → is_one_of folder pools folder pool.name ≡ false → AttachesAll old mid folder pools ts m → AttachesOne mid new folder pool.name ts us m n → PlacesStay mid new
    → AttachesAll old new folder (pools ++ pool ∷ []) us n
attaches-more folder pools pool old mid new ts us m n other x y stay = record {
  told =
      y.tables_are ∙ ap (λ (l : List (Option Tables)). l ++ y.tables ∷ []) x.told
      ∙ ap (λ (t : Option Tables). told_records old.kept folder pools ++ t ∷ []) (y.attached.told ∙ told_of_other folder pools pool old.kept mid.kept x.untold x.others other)
      ∙ sym (map-append (told_of old.kept folder) pools (pool ∷ []));
  untold = λ none. y.attached.kept ∙ ap (λ (k : Option Kept). option_map (with_tables folder pool.name nothing) k) (x.untold none);
  unfailed = omega (arith, y.faults_are, x.unfailed, y.attached.unfailed);
  places = places-more new folder pools pool (places_stay mid new folder pools stay x.places) y.attached.place;
  others = others-more folder pools pool nothing old.kept mid.kept new.kept x.others y.attached.kept;
  same_faults = y.attached.same_faults ∙ x.same_faults;
}

pub attaches-none : (store : StoreState) (folder : List ℕ) → AttachesAll store store folder [] [] 0
attaches-none store folder = record { told = refl; untold = λ none. none; unfailed = refl; places = tt; others = others-none folder store.kept; same_faults = refl }

-- an attach that failed, after which those before it were taken back
pub attached_none : (folder : List ℕ) (pools : List PoolSettings) (old mid now new : StoreState) (ts : List (Option Tables)) (m : ℕ) (fault : StartFault)
    → AttachesAll old mid folder pools ts m → AttachesNone mid now fault → DetachesAll now new folder pools ts m → AttachesNone old new fault
attached_none folder pools old mid now new ts m fault x y z = record {
  kept = λ some.
      let mid_told = others_tell folder pools old.kept mid.kept x.others some in
      let now_is = y.kept mid_told in
      let now_told = subst (λ (k : Option Kept). IsSome k) (sym now_is) mid_told in
      let all = subst (λ (l : List (Option Tables)). list_all is_some l ≡ true) (sym x.told) (all_told folder pools old.kept some) in
      back_again folder pools old.kept mid.kept new.kept some x.others
      (subst (λ (k : Option Kept). KeepsOthers folder pools k new.kept) now_is (z.others all))
      (z.told now_told all ∙ x.told);
  failed = λ is.
      let counted = counts_none m now.faults new.faults z.counted x.unfailed in
      subst (λ (n : ℕ). Rose old.faults n) counted (subst (λ (n : ℕ). Rose n now.faults) x.same_faults (y.failed is));
}

-- The keepers of a type.
module _ {K : Type 0} (tables : K → Option Tables) (faults : K → ℕ) where
  pub detached_next : (folder : List ℕ) (pools : List PoolSettings) (i : ℕ) (pool : PoolSettings) (items : List K) (keeper : K) (old mid new : StoreState)
      → i < length pools → pool ≡ get_or pools i pool → have_own_names pools ≡ true → take (suc i) items ≡ take i items ++ keeper ∷ []
      → DetachesAll old mid folder (take i pools) (map tables (take i items)) (sum_by faults (take i items)) → Detaches mid new folder pool.name (tables keeper) (faults keeper)
      → DetachesAll old new folder (take (i + 1) pools) (map tables (take (i + 1) items)) (sum_by faults (take (i + 1) items))
  detached_next folder pools i pool items keeper old mid new low is own next x y =
      let more = detaches-more folder (take i pools) pool old mid new (map tables (take i items)) (tables keeper) (sum_by faults (take i items)) (faults keeper) (own_place folder pools i pool low is own) x y in
      let pools_are = take_next pools i pool low is in
      let items_are : take (i + 1) items ≡ take i items ++ keeper ∷ [] = rw add-one next in
      let tables_are : map tables (take (i + 1) items) ≡ map tables (take i items) ++ tables keeper ∷ [] = ap (map tables) items_are ∙ map-append tables (take i items) (keeper ∷ []) in
      let faults_are : sum_by faults (take (i + 1) items) ≡ sum_by faults (take i items) + faults keeper = ap (sum_by faults) items_are ∙ sum_by-more faults (take i items) keeper in
      subst (λ (ps : List PoolSettings). DetachesAll old new folder ps (map tables (take (i + 1) items)) (sum_by faults (take (i + 1) items))) (sym pools_are)
      (subst (λ (ts : List (Option Tables)). DetachesAll old new folder (take i pools ++ pool ∷ []) ts (sum_by faults (take (i + 1) items))) (sym tables_are)
      (subst (λ (n : ℕ). DetachesAll old new folder (take i pools ++ pool ∷ []) (map tables (take i items) ++ tables keeper ∷ []) n) (sym faults_are) more))

  -- one more keeper was handed out, and held behind the others
  pub attached_one : (old new : StoreState) (folder name : List ℕ) (items : List K) (keeper : K) → IsAttached old new folder name (tables keeper) (faults keeper)
      → AttachesOne old new folder name (map tables items) (map tables (items ++ keeper ∷ [])) (sum_by faults items) (sum_by faults (items ++ keeper ∷ []))
  attached_one old new folder name items keeper x =
      record { tables = tables keeper; faults = faults keeper; attached = x; tables_are = map-append tables items (keeper ∷ []); faults_are = sum_by-more faults items keeper }

pub attached_next : (folder : List ℕ) (pools : List PoolSettings) (i : ℕ) (pool : PoolSettings) (old mid new : StoreState) (ts us : List (Option Tables)) (m n : ℕ)
    → i < length pools → pool ≡ get_or pools i pool → have_own_names pools ≡ true
    → AttachesAll old mid folder (take i pools) ts m → AttachesOne mid new folder pool.name ts us m n → PlacesStay mid new
    → AttachesAll old new folder (take (i + 1) pools) us n
attached_next folder pools i pool old mid new ts us m n low is own x y stay =
    subst (λ (ps : List PoolSettings). AttachesAll old new folder ps us n) (sym (take_next pools i pool low is))
    (attaches-more folder (take i pools) pool old mid new ts us m n (own_place folder pools i pool low is own) x y stay)

-- one more keeper is held
pub held_more : {K : Type 0} (tables : K → Option Tables) (xs ys : List K) (t : Option Tables) → map tables ys ≡ map tables xs ++ t ∷ [] → length ys ≡ length xs + 1
held_more tables xs ys t are = omega (arith, length-map ys tables, length-map xs tables, length-append (map tables xs) (t ∷ []), ap length are)
