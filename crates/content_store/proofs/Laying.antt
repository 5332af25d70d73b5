-- Slots that come and go keep what is said of all slots.
use Rattle.std.proofs.Common.{◌≡◌, ℕ, ◌+◌, ◌≤◌, ◌<◌, Bool, true, false, not, cond, List, [], ◌∷◌, length, get_or, map, Option, Some, None, refl, sym, ap, ◌∙◌, subst, arith}
use Rattle.std.specs.Bool.{OnTrue}
use Rattle.std.specs.Option.{option_map}
use Rattle.std.specs.List.{insert, remove, All, Contains}
use Rattle.std.specs.List.Sorted.{IsStrictlySortedBy}
use Rattle.std.proofs.lemmas.List.{map-id, length-map, get_or-map}
use Rattle.std.proofs.lemmas.List.Kept.{IsStrictlySortedBy-filter}
use Rattle.std.proofs.lemmas.List.Quantifiers.{all_pairs_remove}
use Rattle.blob_rows.specs.declared.extent.Extent.{Extent}
use Rattle.blob_rows.specs.Places.{least_place, is_free, overlaps}
use Rattle.blob_rows.specs.Extents.{extent_at, without_extent, AreApart}
use Rattle.blob_rows.specs.Digests.{digest_cmp, same_digest}
use Rattle.blob_rows.specs.BlobRows.{units_of}
use Rattle.blob_rows.proofs.LeastPlaces.{least_place-free}
use Rattle.placed_list.proofs.Listing.{map-insert, map-remove, All-insert, All-remove}
use Rattle.region.specs.Plain.{RegionState}
use Rattle.region.specs.FreeUnits.{IsFreeBeside, AreInUse, least_extent}
use Rattle.region.proofs.Overlaps.{insert-apart}
use Rattle.region.proofs.InUse.{remove-is}
use Rattle.content_store.specs.Contents.{Content, extent_of, content_of, with_content, unfilled_content, without_content}
use Rattle.content_store.specs.Slots.{digest_of, extent_of_slot, content_in, part_of, IsAt, BelongsAt, AreLaidOut, IsThere, AreThere}
use Rattle.content_store.specs.declared.slot.Slot.{Slot}
use Rattle.content_store.proofs.ByDigest.{name_of, find_at, belongs_find, insert-sorted, remove_named, with_content-is}

-- ---- lists under a map

pub names_in : (bytes : List ℕ) (slots : List Slot) → map name_of (map (content_in bytes) slots) ≡ map digest_of slots
names_in bytes [] = refl
names_in bytes (slot ∷ slots) = ap (λ (l : List (List ℕ)). slot.digest ∷ l) (names_in bytes slots)

pub extents_in : (bytes : List ℕ) (slots : List Slot) → map extent_of (map (content_in bytes) slots) ≡ map extent_of_slot slots
extents_in bytes [] = refl
extents_in bytes (slot ∷ slots) = ap (λ (l : List Extent). extent_of_slot slot ∷ l) (extents_in bytes slots)

-- an extent that is found, by its parts
found_parts : (n : ℕ) (o : Option ℕ) (e : Extent) → Some e ≡ option_map (extent_at n) o → (o ≡ Some e.at) × (e ≡ extent_at n e.at)
found_parts n None e is = absurd (cc)
found_parts n (Some at) e is =
    let same : e ≡ extent_at n at = cc in
    let place : at ≡ e.at = ap (λ (x : Extent). x.at) (sym same) in
    (ap (λ (k : ℕ). Some k) place, same ∙ ap (λ (k : ℕ). extent_at n k) place)

-- units from a place on lie inside, and the extents leave them free
abbrev pub IsRoom : List Extent → ℕ → ℕ → ℕ → Type 0
IsRoom extents units n place = (place + n ≤ units) × (is_free extents n place ≡ true)

pub found_room : (extents : List Extent) (units n : ℕ) (e : Extent) → Some e ≡ least_extent extents units n → (IsRoom extents units n e.at) × (e ≡ extent_at n e.at)
found_room extents units n e is =
    let parts = found_parts n (least_place extents units n) e is in (least_place-free extents units n e.at parts.0, parts.1)

-- ---- a slot more

module _ (layout : RegionState) (slots : List Slot) (i : ℕ) (slot : Slot) (laid : AreLaidOut layout slots) (belongs : BelongsAt (map digest_of slots) slot.digest i)
    (room : IsRoom (map extent_of_slot slots) layout.units (units_of slot.size) slot.at) where
  within : i ≤ length slots
  within = omega (arith, belongs.within, length-map slots digest_of)

  pub added-laid : (next : RegionState) → next.units ≡ layout.units →
      IsFreeBeside next (insert (map extent_of_slot slots) i (extent_of_slot slot)) → AreLaidOut next (insert slots i slot)
  added-laid next units beside =
      let extents : List Extent = map extent_of_slot slots in
      let low : i ≤ length extents = omega (arith, within, length-map slots extent_of_slot) in
      record {
        sorted = subst (λ (l : List (List ℕ)). IsStrictlySortedBy digest_cmp l) (sym (map-insert digest_of slots i slot)) (insert-sorted slot.digest (map digest_of slots) i laid.sorted belongs);
        apart = subst (λ (l : List Extent). AreApart l) (sym (map-insert extent_of_slot slots i slot)) (insert-apart extents i (extent_of_slot slot) low laid.apart room.1);
        inside = subst (λ (n : ℕ). All (λ s. s.at + units_of s.size ≤ n) (insert slots i slot)) (sym units) (All-insert (λ s. s.at + units_of s.size ≤ layout.units) slots i slot room.0 laid.inside);
        beside = subst (λ (l : List Extent). IsFreeBeside next l) (sym (map-insert extent_of_slot slots i slot)) beside;
      }

  pub added-holds : slot.is_filled ≡ false → (bytes : List ℕ) →
      map (content_in bytes) (insert slots i slot) ≡ with_content (unfilled_content slot.digest slot.size slot.number (extent_of_slot slot)) (map (content_in bytes) slots)
  added-holds empty bytes =
      let held = map (content_in bytes) slots in
      let content : content_in bytes slot ≡ unfilled_content slot.digest slot.size slot.number (extent_of_slot slot) =
      ap (λ (t : Bool). let c : Content = record { digest = slot.digest; size = slot.size; number = slot.number; extent = extent_of_slot slot; bytes = cond t (Some (part_of bytes slot)) None } in c) empty in
      map-insert (content_in bytes) slots i slot
      ∙ ap (λ (c : Content). insert held i c) content
      ∙ with_content-is held i (unfilled_content slot.digest slot.size slot.number (extent_of_slot slot)) (subst (λ (l : List (List ℕ)). BelongsAt l slot.digest i) (sym (names_in bytes slots)) belongs)

  pub added-there : slot.is_filled ≡ false → (bytes : List ℕ) → AreThere bytes slots → AreThere bytes (insert slots i slot)
  added-there empty bytes there =
      All-insert (λ s. OnTrue s.is_filled (IsThere bytes s)) slots i slot (subst (λ (t : Bool). OnTrue t (IsThere bytes slot)) (sym empty) tt) there

-- ---- what is not held, and what is

pub not_held : (bytes : List ℕ) (slots : List Slot) (name : List ℕ) (i : ℕ) → BelongsAt (map digest_of slots) name i → content_of (map (content_in bytes) slots) name ≡ None
not_held bytes slots name i belongs =
    belongs_find name_of name (map (content_in bytes) slots) i (subst (λ (l : List (List ℕ)). BelongsAt l name i) (sym (names_in bytes slots)) belongs)

pub held_at : (bytes : List ℕ) (slots : List Slot) (name : List ℕ) (i : ℕ) (d : Slot) → IsStrictlySortedBy digest_cmp (map digest_of slots) → IsAt (map digest_of slots) name i →
    content_of (map (content_in bytes) slots) name ≡ Some (content_in bytes (get_or slots i d))
held_at bytes slots name i d sorted at =
    let held = map (content_in bytes) slots in
    let names = names_in bytes slots in
    let low : i < length slots = omega (arith, at.within, length-map slots digest_of) in
    find_at name_of name held i (content_in bytes d) (subst (λ (l : List (List ℕ)). IsStrictlySortedBy digest_cmp l) (sym names) sorted)
    (omega (arith, low, length-map held name_of, length-map slots (content_in bytes)))
    (ap (λ (l : List (List ℕ)). get_or l i []) names ∙ at.is)
    ∙ ap (λ (c : Content). Some c) (get_or-map (content_in bytes) slots i d (content_in bytes d) low)

-- where nothing was placed
pub kept-laid : (layout next : RegionState) (slots : List Slot) → AreLaidOut layout slots → next.units ≡ layout.units →
    IsFreeBeside next (map extent_of_slot slots) → AreLaidOut next slots
kept-laid layout next slots laid units beside =
    record {
      sorted = laid.sorted;
      apart = laid.apart;
      inside = subst (λ (n : ℕ). All (λ s. s.at + units_of s.size ≤ n) slots) (sym units) laid.inside;
      beside = beside;
    }

-- where a content finds its place asks for the extents of the slots alone
pub place_same : (bytes : List ℕ) (units : ℕ) (slots : List Slot) (n : ℕ) →
    least_place (map extent_of (map (content_in bytes) slots)) units n ≡ least_place (map extent_of_slot slots) units n
place_same bytes units slots n = ap (λ (l : List Extent). least_place l units n) (extents_in bytes slots)

-- ---- a slot less

remove-sorted : (keys : List (List ℕ)) (i : ℕ) → i < length keys → IsStrictlySortedBy digest_cmp keys → IsStrictlySortedBy digest_cmp (remove keys i)
remove-sorted keys i low sorted =
    let name : List ℕ = get_or keys i [] in
    let all : keys ≡ map (λ (key : List ℕ). key) keys = sym (map-id keys) in
    let gone = remove_named (λ (key : List ℕ). key) name keys i (subst (λ (l : List (List ℕ)). IsStrictlySortedBy digest_cmp l) all sorted)
    (subst (λ (l : List (List ℕ)). i < length l) all low) (ap (λ (l : List (List ℕ)). get_or l i []) (sym all)) in
    subst (λ (l : List (List ℕ)). IsStrictlySortedBy digest_cmp l) (sym gone) (IsStrictlySortedBy-filter digest_cmp (λ key. not (same_digest key name)) keys sorted)

module _ (layout : RegionState) (slots : List Slot) (i : ℕ) (d : Slot) (laid : AreLaidOut layout slots) (low : i < length slots) where
  abbrev gone : Extent
  gone = extent_of_slot (get_or slots i d)

  at_gone : get_or (map extent_of_slot slots) i gone ≡ gone
  at_gone = get_or-map extent_of_slot slots i d gone low

  pub gone_there : Contains (map extent_of_slot slots) gone
  gone_there = (i, omega (arith, low, length-map slots extent_of_slot), at_gone)

  pub slots_in_use : AreInUse layout (map extent_of_slot slots)
  slots_in_use =
      record {
        inside = λ k e under.
            let d : Slot = get_or slots i d in
            let within : k < length slots = omega (arith, under, length-map slots extent_of_slot) in
            subst (λ (x : Extent). x.at + x.units ≤ layout.units) (sym (get_or-map extent_of_slot slots k d e within)) (laid.inside k d within);
        apart = laid.apart;
        beside = laid.beside;
      }

  pub removed-laid : (next : RegionState) → next.units ≡ layout.units →
      IsFreeBeside next (without_extent gone (map extent_of_slot slots)) → AreLaidOut next (remove slots i)
  removed-laid next units beside =
      let extents : List Extent = map extent_of_slot slots in
      let far : i < length extents = omega (arith, low, length-map slots extent_of_slot) in
      let left : map extent_of_slot (remove slots i) ≡ without_extent gone extents =
      map-remove extent_of_slot slots i ∙ remove-is extents i gone laid.apart laid.beside.some far at_gone in
      record {
        sorted = subst (λ (l : List (List ℕ)). IsStrictlySortedBy digest_cmp l) (sym (map-remove digest_of slots i)) (remove-sorted (map digest_of slots) i (omega (arith, low, length-map slots digest_of)) laid.sorted);
        apart = subst (λ (l : List Extent). AreApart l) (sym (map-remove extent_of_slot slots i)) (all_pairs_remove (λ a b. overlaps a.at a.units b ≡ false) extents i far laid.apart);
        inside = subst (λ (n : ℕ). All (λ s. s.at + units_of s.size ≤ n) (remove slots i)) (sym units) (All-remove (λ s. s.at + units_of s.size ≤ layout.units) slots i laid.inside);
        beside = subst (λ (l : List Extent). IsFreeBeside next l) (sym left) beside;
      }

pub removed-holds : (bytes : List ℕ) (slots : List Slot) (name : List ℕ) (i : ℕ) → IsStrictlySortedBy digest_cmp (map digest_of slots) → IsAt (map digest_of slots) name i →
    map (content_in bytes) (remove slots i) ≡ without_content name (map (content_in bytes) slots)
removed-holds bytes slots name i sorted at =
    let held = map (content_in bytes) slots in
    let names = names_in bytes slots in
    map-remove (content_in bytes) slots i
    ∙ remove_named name_of name held i (subst (λ (l : List (List ℕ)). IsStrictlySortedBy digest_cmp l) (sym names) sorted)
    (omega (arith, at.within, ap (λ (l : List (List ℕ)). length l) names)) (ap (λ (l : List (List ℕ)). get_or l i []) names ∙ at.is)

-- what is not held is not taken out
pub kept-holds : (bytes : List ℕ) (slots : List Slot) (name : List ℕ) (i : ℕ) → BelongsAt (map digest_of slots) name i →
    map (content_in bytes) slots ≡ without_content name (map (content_in bytes) slots)
kept-holds bytes slots name i belongs = sym (none_out name (map (content_in bytes) slots) (not_held bytes slots name i belongs))
  where
    none_out : (name : List ℕ) (held : List Content) → content_of held name ≡ None → without_content name held ≡ held
    none_out name [] none = refl
    none_out name (c ∷ held) none = by_test (same_digest c.digest name) none (none_out name held)
      where
        by_test : (t : Bool) → cond t (Some c) (content_of held name) ≡ None → (content_of held name ≡ None → without_content name held ≡ held) → cond (not t) (c ∷ without_content name held) (without_content name held) ≡ c ∷ held
        by_test true none rest = absurd (cc)
        by_test false none rest = ap (λ (l : List Content). c ∷ l) (rest none)

-- where nothing is held yet
pub empty-laid : (layout : RegionState) (slots : List Slot) → IsFreeBeside layout [] → slots ≡ [] → AreLaidOut layout slots
unfolding IsStrictlySortedBy
empty-laid layout slots beside empty =
    subst (λ (l : List Slot). AreLaidOut layout l) (sym empty) (record {
      sorted = tt;
      apart = λ i j d less low. absurd (omega arith);
      inside = λ k d low. absurd (omega arith);
      beside = beside;
    })

pub empty-there : (bytes : List ℕ) (slots : List Slot) → slots ≡ [] → AreThere bytes slots
empty-there bytes slots empty = subst (λ (l : List Slot). AreThere bytes l) (sym empty) (λ k d low. absurd (omega arith))
