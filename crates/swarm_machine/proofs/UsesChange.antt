-- What one use more or less means for the counts of all uses.
use Rattle.std.proofs.Common.{◌≡◌, ℕ, ◌+◌, ◌-◌, ◌<◌, ◌≤◌, ◌^◌, Bool, cond, List, [], length, get_or, take, refl, sym, ap, ◌∙◌, subst, arith, inl, inr}
use Rattle.std.specs.List.{All, sum_by}
use Rattle.std.specs.Cmp.Lexicographic.{bytes_decides}
use Rattle.std.proofs.lemmas.Bool.{cases_Bool, cond-false}
use Rattle.std.proofs.lemmas.List.{get_or_default}
use Rattle.std.proofs.lemmas.List.Elements.{All-get_or, All-more, All-weaker}
use Rattle.std.proofs.lemmas.List.Sums.{sum_by_more, sum_by_more_le}
use Rattle.dimensions.specs.Alike.{same}
use Rattle.swarm_machine.specs.Types.{UseLink, File, Slice, Chunk}
use Rattle.pool_index.specs.Uses.{uses_of, IsListed, StaysListed, HasUses}
use Rattle.swarm_machine.specs.Uses.{AreInputsListed, AddsUses, RemovesUses, HasRoomFor, HasUsesFor}

-- one, where the digests are the same
abbrev pub one_of : List ℕ → List ℕ → ℕ
one_of own digest = cond (same own digest) 1 0

module _ (own : List ℕ) where
  one_own : one_of own own ≡ 1
  one_own = ap (λ (b : Bool). cond {A = ℕ} b 1 0) ((bytes_decides own own).1 refl)

  -- a use of one digest more
  pub one_gained : (old new : List UseLink) → HasUses own (uses_of old own + 1) old new → AddsUses (one_of own) old new
  one_gained old new has = record {
    gained = λ digest. elim (cases_Bool (same own digest)) [
      | inl t ↦
          (let is : own ≡ digest = (bytes_decides own digest).0 t in
          subst (λ (d : List ℕ). uses_of new d ≡ uses_of old d + one_of own d) is (has.own ∙ ap (λ (n : ℕ). uses_of old own + n) (sym one_own)))
      | inr f ↦
          (let none : one_of own digest ≡ 0 = cond-false (same own digest) 1 0 f in
          let others = has.others digest (λ (e : digest ≡ own). absurd (let t = (bytes_decides own digest).1 (sym e) in cc (t, f))) in
          omega (arith, none, others))
    ];
  }

  -- and one less
  pub one_lost : (old new : List UseLink) → 0 < uses_of old own → HasUses own (uses_of old own - 1) old new → RemovesUses (one_of own) old new
  one_lost old new used has = record {
    lost = λ digest. elim (cases_Bool (same own digest)) [
      | inl t ↦
          (let is : own ≡ digest = (bytes_decides own digest).0 t in
          let count = has.own in
          let one = one_own in
          subst (λ (d : List ℕ). uses_of new d + one_of own d ≡ uses_of old d) is (omega (arith, used, count, one)))
      | inr f ↦
          (let none : one_of own digest ≡ 0 = cond-false (same own digest) 1 0 f in
          let others = has.others digest (λ (e : digest ≡ own). absurd (let t = (bytes_decides own digest).1 (sym e) in cc (t, f))) in
          omega (arith, none, others))
    ];
  }

  -- there is room for a use more, and there is one to take off
  pub one_small : (links : List UseLink) → HasRoomFor (one_of own) links → uses_of links own + 1 < 2 ^ 32
  one_small links room = (let small = room.small own in let one = one_own in omega (arith, small, one))

  pub one_used : (links : List UseLink) → HasUsesFor (one_of own) links → 0 < uses_of links own
  one_used links has = (let used = has.used own in let one = one_own in omega (arith, used, one))

-- ---- what is listed

-- the inputs that were listed are still listed
pub inputs_stay : (old new : List UseLink) → StaysListed old new → (inputs : List File) → All (λ (file : File). IsListed old file.digest) inputs → All (λ (file : File). IsListed new file.digest) inputs
inputs_stay old new kept inputs all = All-weaker (λ (file : File). IsListed old file.digest) (λ (file : File). IsListed new file.digest) (λ file. kept.listed file.digest) inputs all

pub slices_stay : (old new : List UseLink) → StaysListed old new → (slices : List Slice) → All (AreInputsListed old) slices → All (AreInputsListed new) slices
slices_stay old new kept slices all = All-weaker (AreInputsListed old) (AreInputsListed new) (λ slice. inputs_stay old new kept slice.properties.inputs) slices all

-- ---- item by item

-- the chunk at a place
abbrev pub chunk_at : List Chunk → ℕ → Chunk
chunk_at chunks place = get_or chunks place (record { start = 0; size = 0; digest = [] })

pub chunk_at_is : (chunks : List Chunk) (place : ℕ) → place < length chunks → chunk_at chunks place ≡ get_or chunks place (chunk_at chunks place)
chunk_at_is chunks place within = get_or_default chunks place (record { start = 0; size = 0; digest = [] }) (chunk_at chunks place) within

-- what all items add
abbrev pub sum_of : {X : Type 0} → (List ℕ → X → ℕ) → List X → List ℕ → ℕ
sum_of adds items digest = sum_by (adds digest) items

module _ {X : Type 0} (items : List X) (place : ℕ) (item : X) (within : place < length items) (is : item ≡ get_or items place item) where
  -- what holds of those before it and of it
  pub all_with_item : (P : X → Type 0) → All P (take place items) → P item → All P (take (place + 1) items)
  all_with_item P before its = All-more P items place item within before (subst P is its)

  pub of_item : (P : X → Type 0) → All P items → P item
  of_item P all = subst P (sym is) (All-get_or P items place item within all)

  module _ (adds : List ℕ → X → ℕ) where
    within_all : (digest : List ℕ) → sum_by (adds digest) (take place items) + adds digest item ≤ sum_by (adds digest) items
    within_all digest = subst (λ (x : X). sum_by (adds digest) (take place items) + adds digest x ≤ sum_by (adds digest) items) (sym is) (sum_by_more_le (adds digest) items place item within)

    with_item : (digest : List ℕ) → sum_by (adds digest) (take (place + 1) items) ≡ sum_by (adds digest) (take place items) + adds digest item
    with_item digest = subst (λ (x : X). sum_by (adds digest) (take (place + 1) items) ≡ sum_by (adds digest) (take place items) + adds digest x) (sym is) (sum_by_more (adds digest) items place item within)

    -- what an item adds can be counted after those before it
    pub room_for_item : (old now : List UseLink) → HasRoomFor (sum_of adds items) old → AddsUses (sum_of adds (take place items)) old now → HasRoomFor (λ digest. adds digest item) now
    room_for_item old now room gains = record {
      small = λ digest.
          (let small = room.small digest in
          let gained = gains.gained digest in
          let more = within_all digest in
          omega (arith, small, gained, more));
    }

    pub gains_item : (old now new : List UseLink) → AddsUses (sum_of adds (take place items)) old now → AddsUses (λ digest. adds digest item) now new → AddsUses (sum_of adds (take (place + 1) items)) old new
    gains_item old now new before one = record {
      gained = λ digest.
          (let left = before.gained digest in
          let right = one.gained digest in
          let more = with_item digest in
          omega (arith, left, right, more));
    }

    -- what it adds can be taken off after those before it
    pub uses_for_item : (old now : List UseLink) → HasUsesFor (sum_of adds items) old → RemovesUses (sum_of adds (take place items)) old now → HasUsesFor (λ digest. adds digest item) now
    uses_for_item old now has loses = record {
      used = λ digest.
          (let used = has.used digest in
          let lost = loses.lost digest in
          let more = within_all digest in
          omega (arith, used, lost, more));
    }

    pub loses_item : (old now new : List UseLink) → RemovesUses (sum_of adds (take place items)) old now → RemovesUses (λ digest. adds digest item) now new → RemovesUses (sum_of adds (take (place + 1) items)) old new
    loses_item old now new before one = record {
      lost = λ digest.
          (let left = before.lost digest in
          let right = one.lost digest in
          let more = with_item digest in
          omega (arith, left, right, more));
    }
