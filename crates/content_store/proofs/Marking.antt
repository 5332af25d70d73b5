-- A content that is written stands for its name, and every other stays.
use Rattle.std.proofs.Common.{◌≡◌, ◌≢◌, ℕ, zero, suc, ◌+◌, ◌*◌, ◌≤◌, ◌<◌, Bool, true, false, cond, List, [], ◌∷◌, length, get_or, set, map, Some, None, refl, sym, ap, ◌∙◌, subst, arith, inl, inr}
use Rattle.std.specs.Bool.{OnTrue}
use Rattle.std.specs.List.Sorted.{IsStrictlySortedBy}
use Rattle.std.proofs.lemmas.Bool.{cases_eq}
use Rattle.std.proofs.lemmas.List.{length-map, length-set, get_or-map, map-set, get_or-set_same, get_or-set_other, get_or_default, same_lists}
use Rattle.std.proofs.lemmas.List.Elements.{All-set}
use Rattle.std.proofs.Math.Seq.{map-set_same}
use Rattle.sha2.specs.Sha256.{sha256}
use Rattle.blob_rows.specs.declared.extent.Extent.{Extent}
use Rattle.blob_rows.specs.Places.{overlaps}
use Rattle.blob_rows.specs.Extents.{AreApart}
use Rattle.blob_rows.specs.Digests.{digest_cmp}
use Rattle.blob_rows.specs.BlobRows.{units_of}
use Rattle.region.specs.Plain.{RegionState}
use Rattle.region.specs.FreeUnits.{IsFreeBeside}
use Rattle.region.proofs.Overlaps.{clear_of, one_first}
use Rattle.content_store.specs.Contents.{Content, filled_with}
use Rattle.content_store.specs.Slots.{digest_of, extent_of_slot, content_in, part, part_of, IsAt, AreLaidOut, IsThere, AreThere, AreBeside, IsWritten, filled_slot}
use Rattle.content_store.specs.declared.slot.Slot.{Slot}
use Rattle.content_store.proofs.ByDigest.{name_of, filled-is}
use Rattle.content_store.proofs.Laying.{names_in}

size_fits : (size : ℕ) → size ≤ units_of size * 64
size_fits size = omega arith

has_unit : (size : ℕ) → 1 ≤ units_of size
has_unit size = omega arith

set_agree : {X : Type 0} (xs ys : List X) (i : ℕ) (x : X) → length xs ≡ length ys → ((k : ℕ) (d : X) → k < length xs → k ≢ i → get_or xs k d ≡ get_or ys k d) → set xs i x ≡ set ys i x
set_agree [] [] i x long same = refl
set_agree [] (b ∷ ys) i x long same = absurd (omega arith)
set_agree (a ∷ xs) [] i x long same = absurd (omega arith)
set_agree (a ∷ xs) (b ∷ ys) zero x long same =
    ap (λ (l : List _). x ∷ l) (same_lists xs ys (omega arith) (λ k d low. same (suc k) d (omega arith) (omega arith)))
set_agree (a ∷ xs) (b ∷ ys) (suc i) x long same =
    let first : a ≡ b = same 0 a (omega arith) (omega arith) in
    ap (λ (y : _). y ∷ set xs i x) first ∙ ap (λ (l : List _). b ∷ l) (set_agree xs ys i x (omega arith) (λ k d low other. same (suc k) d (omega arith) (omega (arith, other))))

module _ (layout : RegionState) (slots : List Slot) (i : ℕ) (d : Slot) (old new content : List ℕ) (laid : AreLaidOut layout slots) (low : i < length slots)
    (sized : (get_or slots i d).size ≡ length content) (written : IsWritten old new ((get_or slots i d).at * 64) content) where
  abbrev slot : Slot
  slot = get_or slots i d

  abbrev marked : List Slot
  marked = set slots i (filled_slot slot)

  -- the bytes of another slot lie beside
  beside : (k : ℕ) → k < length slots → k ≢ i → AreBeside (slot.at * 64) (length content) ((get_or slots k d).at * 64) (get_or slots k d).size
  beside k under other =
      let e = extent_of_slot d in
      let one : get_or (map extent_of_slot slots) i e ≡ extent_of_slot slot = get_or-map extent_of_slot slots i d e low in
      let two : get_or (map extent_of_slot slots) k e ≡ extent_of_slot (get_or slots k d) = get_or-map extent_of_slot slots k d e under in
      let clear : overlaps slot.at (units_of slot.size) (extent_of_slot (get_or slots k d)) ≡ false =
      subst (λ (x : Extent). overlaps x.at x.units (extent_of_slot (get_or slots k d)) ≡ false) one
      (subst (λ (x : Extent). overlaps (get_or (map extent_of_slot slots) i e).at (get_or (map extent_of_slot slots) i e).units x ≡ false) two
      (clear_of (map extent_of_slot slots) i k e laid.apart (omega (arith, low, length-map slots extent_of_slot)) (omega (arith, under, length-map slots extent_of_slot)) (λ same. other (sym same)))) in
      let mine = size_fits slot.size in
      let theirs = size_fits (get_or slots k d).size in
      elim (one_first (extent_of_slot slot) (extent_of_slot (get_or slots k d)) (has_unit slot.size) (has_unit (get_or slots k d).size) clear) [
        | inl first ↦ inr (omega (arith, first, mine, sized))
        | inr second ↦ inl (omega (arith, second, theirs))
      ]

  module _ (there : AreThere old slots) where
    other_part : (k : ℕ) → k < length slots → k ≢ i → (get_or slots k d).is_filled ≡ true → part_of new (get_or slots k d) ≡ part_of old (get_or slots k d)
    other_part k under other filled =
        let is : IsThere old (get_or slots k d) = subst (λ (t : Bool). OnTrue t (IsThere old (get_or slots k d))) filled (there k d under) in
        written.others ((get_or slots k d).at * 64) (get_or slots k d).size is.within (beside k under other)

    other_content : (k : ℕ) → k < length slots → k ≢ i → content_in new (get_or slots k d) ≡ content_in old (get_or slots k d)
    other_content k under other = by_test (get_or slots k d).is_filled (other_part k under other)
      where
        by_test : (t : Bool) → (t ≡ true → part_of new (get_or slots k d) ≡ part_of old (get_or slots k d)) →
            ◌≡◌ {A = Content} (record { digest = (get_or slots k d).digest; size = (get_or slots k d).size; number = (get_or slots k d).number; extent = extent_of_slot (get_or slots k d); bytes = cond t (Some (part_of new (get_or slots k d))) None })
            (record { digest = (get_or slots k d).digest; size = (get_or slots k d).size; number = (get_or slots k d).number; extent = extent_of_slot (get_or slots k d); bytes = cond t (Some (part_of old (get_or slots k d))) None })
        by_test true same = ap (λ (b : List ℕ). let c : Content = record { digest = (get_or slots k d).digest; size = (get_or slots k d).size; number = (get_or slots k d).number; extent = extent_of_slot (get_or slots k d); bytes = Some b } in c) (same refl)
        by_test false same = refl

    own_content : content_in new (filled_slot slot) ≡ record (content_in old slot) { bytes = Some content }
    own_content =
        ap (λ (b : List ℕ). let c : Content = record { digest = slot.digest; size = slot.size; number = slot.number; extent = extent_of_slot slot; bytes = Some b } in c)
        (ap (λ (n : ℕ). part (slot.at * 64) n new) sized ∙ written.there)

    pub filled-holds : IsStrictlySortedBy digest_cmp (map digest_of slots) → (name : List ℕ) → IsAt (map digest_of slots) name i →
        map (content_in new) marked ≡ map (filled_with name content) (map (content_in old) slots)
    filled-holds sorted name at =
        let held = map (content_in old) slots in
        let names = names_in old slots in
        let own : get_or held i (content_in old d) ≡ content_in old slot = get_or-map (content_in old) slots i d (content_in old d) low in
        map-set (content_in new) slots i (filled_slot slot)
        ∙ ap (λ (c : Content). set (map (content_in new) slots) i c) own_content
        ∙ set_agree (map (content_in new) slots) held i (record (content_in old slot) { bytes = Some content }) (length-map slots (content_in new) ∙ sym (length-map slots (content_in old)))
        (λ k c under other.
        let far : k < length slots = omega (arith, under, length-map slots (content_in new)) in
        get_or-map (content_in new) slots k d c far ∙ other_content k far other ∙ sym (get_or-map (content_in old) slots k d c far))
        ∙ ap (λ (c : Content). set held i (record c { bytes = Some content })) (sym own)
        ∙ filled-is name content held i (content_in old d) (subst (λ (l : List (List ℕ)). IsStrictlySortedBy digest_cmp l) (sym names) sorted)
        (omega (arith, low, length-map held name_of, length-map slots (content_in old))) (ap (λ (l : List (List ℕ)). get_or l i []) names ∙ at.is)

    pub filled-there : sha256 content ≡ slot.digest → AreThere new marked
    filled-there named = λ k x under.
        let far : k < length slots = omega (arith, under, length-set slots i (filled_slot slot)) in
        elim (cases_eq k i) [
          | inl same ↦
              let is : get_or marked k x ≡ filled_slot slot = ap (λ (n : ℕ). get_or marked n x) same ∙ get_or-set_same slots i (filled_slot slot) x low in
              let own : IsThere new (filled_slot slot) = record {
                within = omega (arith, written.long, sized);
                named = ap sha256 (ap (λ (n : ℕ). part (slot.at * 64) n new) sized ∙ written.there) ∙ named;
              } in
              subst (λ (s : Slot). OnTrue s.is_filled (IsThere new s)) (sym is) own
          | inr other ↦
              let is : get_or marked k x ≡ get_or slots k d = get_or-set_other slots i k (filled_slot slot) x other ∙ get_or_default slots k x d far in
              subst (λ (s : Slot). OnTrue s.is_filled (IsThere new s)) (sym is) (other_there k far other)
        ]
      where
        other_there : (k : ℕ) → k < length slots → k ≢ i → OnTrue (get_or slots k d).is_filled (IsThere new (get_or slots k d))
        other_there k far other = by_test (get_or slots k d).is_filled (there k d far) (other_part k far other)
          where
            by_test : (t : Bool) → OnTrue t (IsThere old (get_or slots k d)) → (t ≡ true → part_of new (get_or slots k d) ≡ part_of old (get_or slots k d)) → OnTrue t (IsThere new (get_or slots k d))
            by_test true is same = record { within = omega (arith, is.within, written.keeps); named = ap sha256 (same refl) ∙ is.named }
            by_test false is same = tt

-- marked slots are laid out as they were
pub marked-laid : (layout : RegionState) (slots : List Slot) (i : ℕ) (d : Slot) → i < length slots → AreLaidOut layout slots → AreLaidOut layout (set slots i (filled_slot (get_or slots i d)))
marked-laid layout slots i d low laid =
    let slot = get_or slots i d in
    let names : map digest_of (set slots i (filled_slot slot)) ≡ map digest_of slots = map-set_same digest_of slots i (filled_slot slot) d refl in
    let extents : map extent_of_slot (set slots i (filled_slot slot)) ≡ map extent_of_slot slots = map-set_same extent_of_slot slots i (filled_slot slot) d refl in
    record {
      sorted = subst (λ (l : List (List ℕ)). IsStrictlySortedBy digest_cmp l) (sym names) laid.sorted;
      apart = subst (λ (l : List Extent). AreApart l) (sym extents) laid.apart;
      inside = All-set (λ s. s.at + units_of s.size ≤ layout.units) slots i (filled_slot slot) (laid.inside i d low) laid.inside;
      beside = subst (λ (l : List Extent). IsFreeBeside layout l) (sym extents) laid.beside;
    }
