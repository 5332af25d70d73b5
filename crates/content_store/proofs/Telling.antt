-- What a store answers, by what is found among its slots.
use Rattle.std.proofs.Common.{◌≡◌, ℕ, ◌≤◌, ◌<◌, Bool, true, false, cond, List, length, map, Option, Some, None, is_some, refl, sym, ap, ◌∙◌, arith, leb, eqb}
use Rattle.std.specs.Option.{option_map, option_map_or}
use Rattle.std.proofs.lemmas.Bool.{le-leb, lt-leb, eq-eqb, ne_eqb}
use Rattle.std.proofs.lemmas.List.{length-map}
use Rattle.blob_rows.specs.declared.extent.Extent.{Extent}
use Rattle.blob_rows.specs.Places.{least_place}
use Rattle.blob_rows.specs.Extents.{extent_at}
use Rattle.blob_rows.specs.Digests.{same_digest}
use Rattle.blob_rows.specs.BlobRows.{units_of}
use Rattle.blob_rows.specs.declared.held.Held.{Held}
use Rattle.blob_rows.specs.declared.held.Held.TheVariants.{Placed, Present, NoNames, NoRoom}
use Rattle.region.specs.Plain.{RegionState}
use Rattle.region.specs.FreeUnits.{least_extent}
use Rattle.content_store.specs.Contents.{Content, is_held_with_size, content_of}
use Rattle.content_store.specs.Plain.{fill_result, hold_result, place_for}
use Rattle.content_store.specs.Slots.{digest_of, extent_of_slot, content_in, state_in, IsAt, BelongsAt, AreLaidOut}
use Rattle.content_store.specs.declared.slot.Slot.{Slot}
use Rattle.sha2.specs.Sha256.{sha256}
use Rattle.blob_rows.specs.declared.filled.Filled.{Filled}
use Rattle.blob_rows.specs.declared.filled.Filled.TheVariants.{Done, Differs, Unknown}
use Rattle.content_store.proofs.Found.{no_slot}
use Rattle.content_store.proofs.Laying.{not_held, held_at, place_same}

-- what a place that is found, or none, is told as
abbrev pub answered : Option Extent → Held
answered None = NoRoom
answered (Some extent) = Placed extent

by_place : (n : ℕ) (o : Option ℕ) → answered (option_map (extent_at n) o) ≡ option_map_or (λ at. Placed (extent_at n at)) o NoRoom
by_place n None = refl
by_place n (Some at) = refl

module _ (layout : RegionState) (names : ℕ) (bytes : List ℕ) (slots : List Slot) (digest : List ℕ) (size : ℕ) (laid : AreLaidOut layout slots) where
  abbrev held : List Content
  held = map (content_in bytes) slots

  abbrev by_names : Bool → Held
  by_names t = cond t NoNames (option_map_or (λ at. Placed (extent_at (units_of size) at)) (place_for (state_in layout.units names bytes slots) size) NoRoom)

  abbrev by_content : Option Content → Held
  by_content o = cond (is_some o) Present (by_names (leb names (length held)))

  many : length held ≡ length slots
  many = length-map slots (content_in bytes)

  pub told_present : (i : ℕ) → IsAt (map digest_of slots) digest i → Present ≡ hold_result (state_in layout.units names bytes slots) digest size
  told_present i at = sym (ap by_content (held_at bytes slots digest i no_slot laid.sorted at))

  pub told_full : (i : ℕ) → BelongsAt (map digest_of slots) digest i → names ≤ length slots → NoNames ≡ hold_result (state_in layout.units names bytes slots) digest size
  told_full i belongs full =
      sym (ap by_content (not_held bytes slots digest i belongs) ∙ ap by_names (le-leb names (length held) (omega (arith, many))))

  pub told_room : (i : ℕ) → BelongsAt (map digest_of slots) digest i → length slots < names →
      answered (least_extent (map extent_of_slot slots) layout.units (units_of size)) ≡ hold_result (state_in layout.units names bytes slots) digest size
  told_room i belongs few =
      sym (ap by_content (not_held bytes slots digest i belongs)
      ∙ ap by_names (lt-leb names (length held) (omega (arith, many)))
      ∙ ap (λ (o : Option ℕ). option_map_or (λ at. Placed (extent_at (units_of size) at)) o NoRoom) (place_same bytes layout.units slots (units_of size))
      ∙ sym (by_place (units_of size) (least_place (map extent_of_slot slots) layout.units (units_of size))))

-- ---- bytes that are brought

abbrev by_wait : List ℕ → Bool → Filled
by_wait content t = cond t Done Unknown

module _ (held : List Content) (digest content : List ℕ) (named : same_digest (sha256 content) digest ≡ true) where
  told_by : (o : Option Content) → content_of held digest ≡ o → fill_result held digest content ≡ by_wait content (option_map_or (λ c. eqb c.size (length content)) o false)
  told_by o is =
      ap (λ (t : Bool). cond t (cond (is_held_with_size held digest (length content)) Done Unknown) (Differs (sha256 content))) named
      ∙ ap (λ (p : Option Content). by_wait content (option_map_or (λ c. eqb c.size (length content)) p false)) is

  pub told_unknown : content_of held digest ≡ None → Unknown ≡ fill_result held digest content
  told_unknown is = sym (told_by None is)

  pub told_other_size : (c : Content) → content_of held digest ≡ Some c → (c.size ≡ length content → ⊥) → Unknown ≡ fill_result held digest content
  told_other_size c is other = sym (told_by (Some c) is ∙ ap (by_wait content) (ne_eqb c.size (length content) other))

  pub told_done : (c : Content) → content_of held digest ≡ Some c → c.size ≡ length content → Done ≡ fill_result held digest content
  told_done c is sized = sym (told_by (Some c) is ∙ ap (by_wait content) (eq-eqb c.size (length content) sized))
