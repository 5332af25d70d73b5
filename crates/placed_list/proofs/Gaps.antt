-- How many places each block has, as places come, go and move.
use Rattle.std.proofs.Common.{◌≡◌, ◌≢◌, ℕ, zero, suc, ◌+◌, ◌*◌, ◌/◌, ◌<◌, ◌≤◌, List, [], ◌∷◌, ◌++◌, length, get_or, set, take, refl, sym, ap, ◌∙◌, arith, inl, inr}
use Rattle.std.specs.List.{All}
use Rattle.std.specs.VecDeque.{deque_len, deque_capacity}
use Rattle.std.proofs.lemmas.Bool.{cases_eq}
use Rattle.std.proofs.lemmas.List.{map-set, length-set, length-map, length-append, get_or-map, get_or-set_same, get_or-set_other}
use Rattle.std.proofs.lemmas.List.Elements.{All-head, All-tail, All-set}
use Rattle.placed_list.specs.declared.order.TheConstants.{BLOCK}
use Rattle.placed_list.specs.Blocks.{Block, places_in, sizes, part, AreFilled, HaveGap, HaveRoom, IsMoved}

pub size_at : (blocks : List Block) (k : ℕ) (d : Block) → k < length blocks → get_or (sizes blocks) k 0 ≡ deque_len (get_or blocks k d)
size_at blocks k d low = get_or-map deque_len blocks k d 0 low

size-set_same : (blocks : List Block) (k : ℕ) (block : Block) → k < length blocks → get_or (sizes (set blocks k block)) k 0 ≡ deque_len block
size-set_same blocks k block low =
    ap (λ (l : List ℕ). get_or l k 0) (map-set deque_len blocks k block) ∙ get_or-set_same (sizes blocks) k (deque_len block) 0 (omega (arith, length-map blocks deque_len))

size-set_other : (blocks : List Block) (i k : ℕ) (block : Block) → k ≢ i → get_or (sizes (set blocks i block)) k 0 ≡ get_or (sizes blocks) k 0
size-set_other blocks i k block other =
    ap (λ (l : List ℕ). get_or l k 0) (map-set deque_len blocks i block) ∙ get_or-set_other (sizes blocks) i k (deque_len block) 0 other

-- empty blocks
pub none_filled : (blocks : List Block) → All (λ block. block.items ≡ []) blocks → AreFilled 0 blocks
none_filled [] empty k = omega arith
none_filled (block ∷ blocks) empty zero =
    let none : block.items ≡ [] = All-head (λ b. b.items ≡ []) block blocks empty in omega (arith, block.ok.0, ap (λ (l : List ℕ). length l) none)
none_filled (block ∷ blocks) empty (suc k) = let rest = none_filled blocks (All-tail (λ b. b.items ≡ []) block blocks empty) k in omega (arith, rest)

pub no_places : (blocks : List Block) → All (λ block. block.items ≡ []) blocks → places_in blocks ≡ []
no_places [] empty = refl
no_places (block ∷ blocks) empty =
    ap (λ (l : List ℕ). l ++ places_in blocks) (All-head (λ b. b.items ≡ []) block blocks empty) ∙ no_places blocks (All-tail (λ b. b.items ≡ []) block blocks empty)

-- where a block begins
pub length_before : (blocks : List Block) (i : ℕ) → i ≤ length blocks → ((k : ℕ) → k < i → get_or (sizes blocks) k 0 ≡ BLOCK) → length (places_in (take i blocks)) ≡ BLOCK * i
length_before blocks zero low full = omega arith
length_before [] (suc i) low full = absurd (omega arith)
length_before (block ∷ blocks) (suc i) low full =
    let first : deque_len block ≡ BLOCK = full 0 (omega arith) in
    let rest = length_before blocks i (omega arith) (λ k under. full (suc k) (omega arith)) in
    omega (arith, first, block.ok.0, rest, length-append block.items (places_in (take i blocks)))

-- a place more and a place less in a block
module _ (count gap : ℕ) (blocks : List Block) (block : Block) (low : gap < length blocks) where
  pub filled-set : deque_len block ≡ get_or (sizes blocks) gap 0 + 1 → HaveGap count gap blocks → AreFilled count (set blocks gap block)
  filled-set more have k = elim (cases_eq k gap) [
    | inl same ↦ ap (λ (i : ℕ). get_or (sizes (set blocks gap block)) i 0) same ∙ size-set_same blocks gap block low ∙ more ∙ have.short ∙ ap (part count) (sym same)
    | inr other ↦ size-set_other blocks gap k block other ∙ have.others k other
  ]

  pub gap-set : deque_len block + 1 ≡ get_or (sizes blocks) gap 0 → AreFilled count blocks → HaveGap count gap (set blocks gap block)
  gap-set less filled = record {
    short = ap (λ (n : ℕ). n + 1) (size-set_same blocks gap block low) ∙ less ∙ filled gap;
    others = λ k other. size-set_other blocks gap k block other ∙ filled k;
  }

-- the gap is in the last block, to which one place more or less makes no other change
pub gap_at_end : (count : ℕ) (blocks : List Block) → AreFilled count blocks → HaveGap (count + 1) (count / BLOCK) blocks
gap_at_end count blocks filled = record {
  short = omega (arith, filled (count / BLOCK));
  others = λ k other. omega (arith, filled k, other);
}

pub filled_at_end : (count : ℕ) (blocks : List Block) → HaveGap (count + 1) (count / BLOCK) blocks → AreFilled count blocks
filled_at_end count blocks have k = elim (cases_eq k (count / BLOCK)) [
  | inl same ↦ ap (λ (i : ℕ). get_or (sizes blocks) i 0) same ∙ last ∙ ap (part count) (sym same)
  | inr other ↦ omega (arith, have.others k other)
]
  where
    last : get_or (sizes blocks) (count / BLOCK) 0 ≡ part count (count / BLOCK)
    last = omega (arith, have.short)

-- one place goes from one block to another
pub moved : (from to : ℕ) (blocks : List Block) (short long : Block) → from ≢ to → from < length blocks → to < length blocks →
    deque_len short + 1 ≡ get_or (sizes blocks) from 0 → deque_len long ≡ get_or (sizes blocks) to 0 + 1 → BLOCK ≤ deque_capacity short → BLOCK ≤ deque_capacity long →
    places_in (set (set blocks from short) to long) ≡ places_in blocks → IsMoved from to blocks (set (set blocks from short) to long)
moved from to blocks short long apart from_low to_low less more short_room long_room same =
    let size = length-set blocks from short in
    record {
      places = same;
      fewer = ap (λ (n : ℕ). n + 1) (size-set_other (set blocks from short) to from long apart ∙ size-set_same blocks from short from_low) ∙ less;
      more = size-set_same (set blocks from short) to long (omega arith) ∙ more;
      others = λ k not_from not_to. size-set_other (set blocks from short) to k long not_to ∙ size-set_other blocks from k short not_from;
      count = length-set (set blocks from short) to long ∙ size;
      room = λ room. All-set (λ b. BLOCK ≤ deque_capacity b) (set blocks from short) to long long_room (All-set (λ b. BLOCK ≤ deque_capacity b) blocks from short short_room room);
    }

-- blocks with the places of others, of which this one has one fewer than its part
pub record Gapped (count gap : ℕ) (old new : List Block) : Type 0 where
  pub places : places_in new ≡ places_in old
  pub have : HaveGap count gap new
  pub room : HaveRoom new
  pub size : length new ≡ length old

pub gap_moved : (count from to : ℕ) (old before after : List Block) → from ≢ to → Gapped count to old before → IsMoved from to before after → Gapped count from old after
gap_moved count from to old before after apart gapped move = record {
  places = move.places ∙ gapped.places;
  have = record {
    short = move.fewer ∙ gapped.have.others from apart;
    others = λ k other. elim (cases_eq k to) [
      | inl same ↦ ap (λ (i : ℕ). get_or (sizes after) i 0) same ∙ move.more ∙ gapped.have.short ∙ ap (part count) (sym same)
      | inr away ↦ move.others k other away ∙ gapped.have.others k away
    ];
  };
  room = move.room gapped.room;
  size = move.count ∙ gapped.size;
}
