-- The places of blocks at an index, and after one comes or goes there.
use Rattle.std.proofs.Common.{◌≡◌, ℕ, ◌+◌, ◌/◌, ◌%◌, ◌<◌, ◌≤◌, List, length, get_or, set, take, sym, ap, ◌∙◌, arith, inl, inr}
use Rattle.std.specs.List.{insert, remove}
use Rattle.std.specs.VecDeque.{deque_len}
use Rattle.std.proofs.lemmas.Bool.{cases_lt}
use Rattle.std.proofs.lemmas.List.{length-map, get_or_past}
use Rattle.std.proofs.lemmas.List.Concat.{get_or-flat_map}
use Rattle.placed_list.specs.declared.order.TheConstants.{BLOCK}
use Rattle.placed_list.specs.Blocks.{Block, places_in, sizes, AreFilled, HaveGap}
use Rattle.placed_list.proofs.Pieces.{flat_map-insert, flat_map-remove}
use Rattle.placed_list.proofs.Gaps.{size_at, length_before}

-- where the block of an index begins, if those before it are full
begins : (blocks : List Block) (i : ℕ) → i / BLOCK ≤ length blocks → ((k : ℕ) → k < i / BLOCK → get_or (sizes blocks) k 0 ≡ BLOCK) →
    length (places_in (take (i / BLOCK) blocks)) + i % BLOCK ≡ i
begins blocks i low full = omega (arith, length_before blocks (i / BLOCK) low full)

module _ (count i : ℕ) (blocks : List Block) (filled : AreFilled count blocks) (under : i < count) where
  pub block_within : i / BLOCK < length blocks
  block_within = elim (cases_lt (i / BLOCK) (length blocks)) [
    | inl low ↦ low
    | inr past ↦
        let none : get_or (sizes blocks) (i / BLOCK) 0 ≡ 0 = get_or_past (sizes blocks) (i / BLOCK) 0 (omega (arith, length-map blocks deque_len)) in
        absurd (omega (arith, none, filled (i / BLOCK)))
  ]

  pub offset_within : (d : Block) → i % BLOCK < deque_len (get_or blocks (i / BLOCK) d)
  offset_within d = omega (arith, filled (i / BLOCK), size_at blocks (i / BLOCK) d block_within)

  offset_low : (d : Block) → i % BLOCK < length (get_or blocks (i / BLOCK) d).items
  offset_low d = let block = get_or blocks (i / BLOCK) d in omega (arith, offset_within d, block.ok.0)

  filled_begins : length (places_in (take (i / BLOCK) blocks)) + i % BLOCK ≡ i
  filled_begins = begins blocks i (omega (arith, block_within)) (λ k before. omega (arith, filled k))

  pub place_at : (d : Block) (e : ℕ) → get_or (get_or blocks (i / BLOCK) d).items (i % BLOCK) e ≡ get_or (places_in blocks) i e
  place_at d e =
      sym (get_or-flat_map (λ (b : Block). b.items) blocks (i / BLOCK) (i % BLOCK) d e block_within (offset_low d)) ∙ ap (λ (n : ℕ). get_or (places_in blocks) n e) filled_begins

  pub places-remove : (block d : Block) → block.items ≡ remove (get_or blocks (i / BLOCK) d).items (i % BLOCK) → places_in (set blocks (i / BLOCK) block) ≡ remove (places_in blocks) i
  places-remove block d is =
      flat_map-remove (λ (b : Block). b.items) blocks (i / BLOCK) (i % BLOCK) block d block_within (offset_low d) is ∙ ap (λ (n : ℕ). remove (places_in blocks) n) filled_begins

module _ (count i : ℕ) (blocks : List Block) (have : HaveGap (count + 1) (i / BLOCK) blocks) (low : i / BLOCK < length blocks) (upto : i ≤ count) where
  pub offset_upto : (d : Block) → i % BLOCK ≤ deque_len (get_or blocks (i / BLOCK) d)
  offset_upto d = omega (arith, have.short, size_at blocks (i / BLOCK) d low)

  gap_begins : length (places_in (take (i / BLOCK) blocks)) + i % BLOCK ≡ i
  gap_begins = begins blocks i (omega (arith, low)) (λ k before. omega (arith, have.others k (λ same. absurd (omega (arith, same, before)))))

  pub places-insert : (block d : Block) (place : ℕ) → block.items ≡ insert (get_or blocks (i / BLOCK) d).items (i % BLOCK) place →
      places_in (set blocks (i / BLOCK) block) ≡ insert (places_in blocks) i place
  places-insert block d place is =
      let was = get_or blocks (i / BLOCK) d in
      flat_map-insert (λ (b : Block). b.items) blocks (i / BLOCK) (i % BLOCK) block d place low (omega (arith, offset_upto d, was.ok.0)) is
      ∙ ap (λ (n : ℕ). insert (places_in blocks) n place) gap_begins
