-- Passes that are split for workers, and the doors that are made of them.
use Rattle.std.proofs.Common.{◌≡◌, ℕ, zero, suc, ◌+◌, ◌<◌, List, [], ◌∷◌, ◌++◌, length, map, Option, IfSome, refl, sym, ap, subst, ◌∙◌, arith, append_assoc, append-nil}
use Rattle.std.specs.Prelude.{slice_get}
use Rattle.std.proofs.lemmas.List.{get_or_past, get_or-map, length-map, map-append}
use Rattle.swarm_workers.specs.Types.{Entry, PoolSettings, Settings, Pass, Turnstile, Lasting, PoolView}
use Rattle.swarm_model.specs.Bases.{empty_base}
use Rattle.pool_doors.specs.Doors.{DoorState}
use Rattle.turnstile.specs.Passes.{fixed_of}
use Rattle.shared_doors.specs.Joined.{MaySplit, Splits}
use Rattle.shared_doors.specs.SharedDoors.{identities_of, most_of, pools_of, shared_door, start_of}
use Rattle.shared_doors.specs.Views.{AreOf, first_view, nothing, view_at, view_or, views}
use Rattle.swarm_workers.specs.Crews.{AreNewDoors, IsNewDoor, KnowsMade}
use Rattle.swarm_workers.specs.Splits.{AreShares, IsNewPass, IsShare}

-- what the first pass knows once so many were made
abbrev pub first_of : ℕ → PoolView
first_of made = record first_view { made = made }

pub may_split : (made : ℕ) (v : PoolView) → v ≡ first_of made → made < 64 → MaySplit v
may_split made v is few = subst MaySplit (sym is) (refl, few)

-- the first pass after one split more, and the new one
pub split_first : (made : ℕ) (v kept given : PoolView) → v ≡ first_of made → Splits v kept given → kept ≡ first_of (made + 1)
split_first made v kept given is s = s.kept_is ∙ ap (λ (w : PoolView). record w { made = w.made + 1 }) is

pub split_new : (made : ℕ) (v kept given : PoolView) → v ≡ first_of made → Splits v kept given → IsNewPass made given
split_new made v kept given is s = record {
  number_is = s.number ∙ ap (λ (w : PoolView). w.made) is;
  numbers = s.numbers ∙ ap (λ (w : PoolView). w.made ∷ []) is;
  turns = s.turns;
  seen = s.seen ∙ ap (λ (w : PoolView). w.seen) is;
}

first_new : (made : ℕ) (v : PoolView) → v ≡ first_of made → IsNewPass 0 v
first_new made v is = subst (IsNewPass 0) (sym is) (record { number_is = refl; numbers = refl; turns = refl; seen = refl })

seen_none : (vs : List PoolView) → ((p : ℕ) → p < length vs → (view_at vs p).seen ≡ []) → (p : ℕ) → (view_at vs p).seen ≡ []
seen_none [] none p = ap (λ (v : PoolView). v.seen) (get_or_past [] p nothing (omega arith))
seen_none (v ∷ vs) none zero = none 0 (omega arith)
seen_none (v ∷ vs) none (suc p) = seen_none vs (λ q low. none (suc q) (omega (arith, low))) p

turns_none : (vs : List PoolView) → ((p : ℕ) → p < length vs → (view_at vs p).turns ≡ 0) → most_of (map (λ (v : PoolView). v.turns) vs) ≡ 0
turns_none [] none = refl
turns_none (v ∷ vs) none =
    let here : v.turns ≡ 0 = none 0 (omega arith) in
    let rest = turns_none vs (λ p low. none (suc p) (omega (arith, low))) in
    rw (here, rest) refl

-- nothing led to where each log begins
starts_at : (pools : List PoolSettings) (p : ℕ) → IfSome (slice_get pools p) (λ pool. start_of pools p ≡ empty_base pool)
starts_at [] p = tt
starts_at (pool ∷ pools) zero = refl
starts_at (pool ∷ pools) (suc p) = starts_at pools p

pub no_items : {A : Type 0} (xs : List A) → length xs ≡ 0 → xs ≡ []
no_items [] none = refl
no_items (x ∷ xs) none = absurd (omega (arith, none))

-- the first item of a list that was empty
pub first_item : {A : Type 0} (old new : List A) (x : A) → length old ≡ 0 → new ≡ old ++ x ∷ [] → new ≡ x ∷ []
first_item old new x none is = is ∙ ap (λ (l : List _). l ++ x ∷ []) (no_items old none)

-- the next of those that are left goes to those that were done
pub moved_on : {A W S : Type 0} (state : A → S) (mine : W → S) (all old rest : List A) (a : A) (done more : List W) (w : W)
    → old ≡ a ∷ rest → more ≡ done ++ w ∷ [] → mine w ≡ state a → map state all ≡ map mine done ++ map state old → map state all ≡ map mine more ++ map state rest
moved_on state mine all old rest a done more w is pushed same so =
    so ∙ ap (λ (l : List _). map mine done ++ map state l) is ∙ ap (λ s. map mine done ++ s ∷ map state rest) (sym same)
    ∙ sym (append_assoc (map mine done) (mine w ∷ []) (map state rest))
    ∙ ap (λ (l : List _). l ++ map state rest) (sym (ap (map mine) pushed ∙ map-append mine done (w ∷ [])))

pub moved_all : {A W S : Type 0} (state : A → S) (mine : W → S) (all rest : List A) (done : List W) → length rest ≡ 0 → map state all ≡ map mine done ++ map state rest → map mine done ≡ map state all
moved_all state mine all rest done none so = sym (so ∙ ap (λ (l : List _). map mine done ++ map state l) (no_items rest none) ∙ append-nil (map mine done))

module _ (settings : Settings) where
  -- a door more, of the next number
  pub doors_more : (logs : ℕ → List ℕ) (k n : ℕ) (doors : List DoorState) (door : DoorState) → n ≡ k + length doors
      → AreNewDoors settings logs k doors → IsNewDoor settings logs n door → AreNewDoors settings logs k (doors ++ door ∷ [])
  doors_more logs k n [] door is are one = let same : n ≡ k = omega (arith, is) in (subst (λ m. IsNewDoor settings logs m door) same one, tt)
  doors_more logs k n (d ∷ doors) door is are one =
      let next : n ≡ (k + 1) + length doors = omega (arith, is) in (are.0, doors_more logs (k + 1) n doors door next are.1 one)

  pub knows_more : (made : ℕ) (doors : List DoorState) (door : DoorState) → 0 < length doors → KnowsMade settings made doors → KnowsMade settings made (doors ++ door ∷ [])
  knows_more made [] door some knows = absurd (omega (arith, some))
  knows_more made (d ∷ doors) door some knows = knows

  pub doors_push : {W : Type 0} (door : W → DoorState) (logs : ℕ → List ℕ) (n : ℕ) (old new : List W) (w : W) → new ≡ old ++ w ∷ [] → n ≡ length old
      → AreNewDoors settings logs 0 (map door old) → IsNewDoor settings logs n (door w) → AreNewDoors settings logs 0 (map door new)
  doors_push door logs n old new w is counted are one =
      let next : n ≡ 0 + length (map door old) = omega (arith, counted, length-map old door) in
      subst (AreNewDoors settings logs 0) (sym (ap (map door) is ∙ map-append door old (w ∷ []))) (doors_more logs 0 n (map door old) (door w) next are one)

  pub knows_push : {W : Type 0} (door : W → DoorState) (made : ℕ) (old new : List W) (w : W) → new ≡ old ++ w ∷ [] → 0 < length old
      → KnowsMade settings made (map door old) → KnowsMade settings made (map door new)
  knows_push door made old new w is some knows =
      subst (KnowsMade settings made) (sym (ap (map door) is ∙ map-append door old (w ∷ []))) (knows_more made (map door old) (door w) (omega (arith, some, length-map old door)) knows)

module _ {V : Type 0} (fixed : V → Lasting) (ts : List (Turnstile V Entry Lasting)) where
  shares_more : (k n : ℕ) (all : List (List (Option (Pass V Entry Lasting)))) (passes : List (Option (Pass V Entry Lasting))) → n ≡ k + length all
      → AreShares fixed ts k all → IsShare fixed ts n passes → AreShares fixed ts k (all ++ passes ∷ [])
  shares_more k n [] passes is are one = let same : n ≡ k = omega (arith, is) in (subst (λ m. IsShare fixed ts m passes) same one, tt)
  shares_more k n (x ∷ all) passes is are one =
      let next : n ≡ (k + 1) + length all = omega (arith, is) in (are.0, shares_more (k + 1) n all passes next are.1 one)

  -- the share of a number that was split off
  pub new_share : (made : ℕ) (first kept given : List (Option (Pass V Entry Lasting)))
      → ((p : ℕ) → p < length ts → view_at (views first) p ≡ first_of made)
      → ((p : ℕ) → p < length ts → Splits (view_at (views first) p) (view_at (views kept) p) (view_at (views given) p))
      → AreOf fixed ts given → IsShare fixed ts made given
  new_share made first kept given is splits own = record {
    own = own;
    new = λ p low. split_new made (view_at (views first) p) (view_at (views kept) p) (view_at (views given) p) (is p low) (splits p low);
  }

  pub first_share : (made : ℕ) (first : List (Option (Pass V Entry Lasting))) → ((p : ℕ) → p < length ts → view_at (views first) p ≡ first_of made)
      → AreOf fixed ts first → IsShare fixed ts 0 first
  first_share made first is own = record { own = own; new = λ p low. first_new made (view_at (views first) p) (is p low) }

  -- one share more, of the next number
  pub shares_push : {S : Type 0} (f : S → List (Option (Pass V Entry Lasting))) (k n : ℕ) (old new : List S) (s : S) → new ≡ old ++ s ∷ [] → n ≡ k + length old
      → AreShares fixed ts k (map f old) → IsShare fixed ts n (f s) → AreShares fixed ts k (map f new)
  shares_push f k n old new s is counted are one =
      let next : n ≡ k + length (map f old) = omega (arith, counted, length-map old f) in
      subst (AreShares fixed ts k) (sym (ap (map f) is ∙ map-append f old (s ∷ []))) (shares_more k n (map f old) (f s) next are one)

  -- of shares that are left, the first and the others
  pub rest_shares : {S : Type 0} (f : S → List (Option (Pass V Entry Lasting))) (k next : ℕ) (old rest : List S) (s : S) → old ≡ s ∷ rest → next ≡ k + 1
      → AreShares fixed ts k (map f old) → IsShare fixed ts k (f s) × AreShares fixed ts next (map f rest)
  rest_shares f k next old rest s is counted are =
      let both : AreShares fixed ts k (map f (s ∷ rest)) = subst (λ (l : List _). AreShares fixed ts k (map f l)) is are in
      (both.0, subst (λ n. AreShares fixed ts n (map f rest)) (sym counted) both.1)

  low_turnstile : (p : ℕ) → p < length (pools_of fixed ts) → p < length ts
  low_turnstile p low = omega (arith, low, length-map ts (λ (t : Turnstile V Entry Lasting). (fixed_of fixed t).settings))

  low_view : (passes : List (Option (Pass V Entry Lasting))) (p : ℕ) → AreOf fixed ts passes → p < length ts → p < length (views passes)
  low_view passes p own low = omega (arith, low, own.count, length-map passes view_or)

  low_share : (passes : List (Option (Pass V Entry Lasting))) (p : ℕ) → AreOf fixed ts passes → p < length (views passes) → p < length ts
  low_share passes p own low = omega (arith, low, own.count, length-map passes view_or)

  shared_new : (store : Option (List ℕ)) (number : ℕ) (passes : List (Option (Pass V Entry Lasting))) → IsShare fixed ts number passes
      → IsNewDoor (record { store = store; pools = pools_of fixed ts }) (identities_of ts) number (shared_door store (pools_of fixed ts) (identities_of ts) (views passes))
  shared_new store number passes share = record {
    settings_are = refl;
    logs_are = refl;
    starts = starts_at (pools_of fixed ts);
    seen = seen_none (views passes) (λ p low. (share.new p (low_share passes p share.own low)).seen);
    alone = refl;
    calls = turns_none (views passes) (λ p low. (share.new p (low_share passes p share.own low)).turns);
    numbers = λ p low. get_or-map (λ (v : PoolView). v.number) (views passes) p nothing 0 (low_view passes p share.own (low_turnstile p low)) ∙ (share.new p (low_turnstile p low)).number_is;
    joined = λ p low. (share.new p (low_turnstile p low)).numbers;
  }

  -- the door that is made of a share
  pub new_door : (store : Option (List ℕ)) (number : ℕ) (passes : List (Option (Pass V Entry Lasting))) (door : DoorState)
      → door ≡ shared_door store (pools_of fixed ts) (identities_of ts) (views passes) → IsShare fixed ts number passes
      → IsNewDoor (record { store = store; pools = pools_of fixed ts }) (identities_of ts) number door
  new_door store number passes door is share =
      subst (IsNewDoor (record { store = store; pools = pools_of fixed ts }) (identities_of ts) number) (sym is) (shared_new store number passes share)

  -- the door of the first pass knows how many were made
  pub first_knows : (store : Option (List ℕ)) (passes : List (Option (Pass V Entry Lasting))) (door : DoorState)
      → door ≡ shared_door store (pools_of fixed ts) (identities_of ts) (views passes) → (made : ℕ)
      → ((p : ℕ) → p < length ts → (view_at (views passes) p).made ≡ made) → KnowsMade (record { store = store; pools = pools_of fixed ts }) made (door ∷ [])
  first_knows store passes door is made knows = λ p low. ap (λ (d : DoorState). d.writer.made p) is ∙ knows p (low_turnstile p low)
