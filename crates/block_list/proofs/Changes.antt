-- What holds of the blocks after one of them changes.
use Rattle.std.proofs.Common.{◌≡◌, ◌≢◌, inl, inr, ℕ, zero, suc, ◌+◌, ◌-◌, ◌<◌, ◌≤◌, List, [], ◌∷◌, ◌++◌, length, get_or, set, take, drop, sym, subst, ap, ◌∙◌, length-append, arith}
use Rattle.std.specs.Prelude.{Vec, vec_items, vec_len, vec_capacity}
use Rattle.std.specs.List.{All, insert, remove}
use Rattle.std.specs.declared.alloc.Global.{Global}
use Rattle.std.proofs.lemmas.List.{length-set, get_or_default}
use Rattle.std.proofs.lemmas.List.Edits.{get_or-remove_below}
use Rattle.std.proofs.lemmas.List.Elements.{All-nil, All-cons, All-take, All-drop, All-append, All-set}
use Rattle.block_list.specs.declared.blocks.Blocks.{Blocks}
use Rattle.block_list.specs.Blocks.{block_size, items_of, all_of, FitTogether, IsBlock, AreBlocks, MayGrow, TakesItem, LosesItem, TakesAll, ChangesBlock, IsReady}
use Rattle.block_list.proofs.Pieces.{start_of, flat_map-insert, flat_map-remove, flat_map-join}

module _ {X : Type 0} (head : X) (rest : List X) (k : ℕ) where
  pub at_head : k ≡ 0 → get_or (head ∷ rest) k head ≡ head
  at_head is = ap (λ (i : ℕ). get_or (head ∷ rest) i head) is

  pub set_head : (x : X) → k ≡ 0 → set (head ∷ rest) k x ≡ x ∷ rest
  set_head x is = ap (λ (i : ℕ). set (head ∷ rest) i x) is

  pub at_behind : (x : X) → k ≢ 0 → x ≡ get_or rest (k - 1) x → get_or (head ∷ rest) k x ≡ x
  at_behind x not is =
      let next : k ≡ suc (k - 1) = omega (arith, not) in
      ap (λ (i : ℕ). get_or (head ∷ rest) i x) next ∙ sym is

  pub set_behind : (x : X) → k ≢ 0 → set (head ∷ rest) k x ≡ head ∷ set rest (k - 1) x
  set_behind x not =
      let next : k ≡ suc (k - 1) = omega (arith, not) in
      ap (λ (i : ℕ). set (head ∷ rest) i x) next

pub All-insert : {X : Type 0} (P : X → Type 0) (xs : List X) (i : ℕ) (x : X) → All P xs → P x → All P (insert xs i x)
All-insert P xs i x all one = All-append P (take i xs) (x ∷ drop i xs) (All-take P i xs all) (All-cons P x (drop i xs) one (All-drop P i xs all))

pub holds_at : {X : Type 0} (P : X → Type 0) (xs : List X) (k : ℕ) (x : X) → k < length xs → get_or xs k x ≡ x → All P xs → P x
holds_at P xs k x low at all = subst P at (all k x low)

-- a full block takes an item only where there is a spare block
pub room_at : {T : Type 0} (blocks : Blocks T) (spare : Vec T Global) (k : ℕ) (b : Vec T Global) → k < length (all_of blocks) → get_or (all_of blocks) k b ≡ b → IsReady blocks spare → block_size ≤ length b.items →
    (block_size ≤ vec_capacity spare) × (vec_len blocks.rest < vec_capacity blocks.rest)
room_at blocks spare k b low at ready full =
    elim ready.room [
      | inl alone ↦ absurd (omega (arith, full, holds_at (λ x. length x.items < block_size) (all_of blocks) k b low at alone.1))
      | inr room ↦ room
    ]

module _ {T Z : Type 0} (blocks : List (Vec T Z)) (k : ℕ) (b x : Vec T Z) (low : k < length blocks) (at : get_or blocks k b ≡ b) (good : AreBlocks blocks) (most : length x.items ≤ block_size) where
  pub set_blocks : {new : List (Vec T Z)} → new ≡ set blocks k x → (1 < length blocks → 0 < length x.items) → vec_capacity b ≤ vec_capacity x → AreBlocks new
  set_blocks is some memory = subst AreBlocks (sym is) (record {
    most = All-set (λ block. length block.items ≤ block_size) blocks k x most good.most;
    all = λ more.
        let many : 1 < length blocks = omega (arith, more, length-set blocks k x) in
        let was = holds_at IsBlock blocks k b low at (good.all many) in
        All-set IsBlock blocks k x (record { some = some many; most = most; memory = omega (arith, was.memory, memory) }) (good.all many);
  })

  -- a block that was full has memory for all its items
  pub set_full : 0 < length x.items → vec_capacity b ≤ vec_capacity x → block_size ≤ length b.items → All IsBlock (set blocks k x)
  set_full some memory full = by_count blocks k low good.all
    where
      own : IsBlock x
      own = record { some = some; most = most; memory = omega (arith, b.ok.0, b.ok.1) }

      by_count : (bs : List (Vec T Z)) (i : ℕ) → i < length bs → (1 < length bs → All IsBlock bs) → All IsBlock (set bs i x)
      by_count [] i i_low all = absurd (omega arith)
      by_count (z ∷ []) zero i_low all = All-cons IsBlock x [] own (All-nil IsBlock)
      by_count (z ∷ []) (suc i) i_low all = absurd (omega arith)
      by_count (z ∷ (y ∷ bs)) i i_low all = All-set IsBlock (z ∷ (y ∷ bs)) i x own (all (omega arith))

pub All-remove : {X : Type 0} (P : X → Type 0) (xs : List X) (i : ℕ) → All P xs → All P (remove xs i)
All-remove P xs i all = All-append P (take i xs) (drop (suc i) xs) (All-take P i xs all) (All-drop P (suc i) xs all)

module _ {T Z : Type 0} where
  pub from_all : (blocks : List (Vec T Z)) → All IsBlock blocks → AreBlocks blocks
  from_all blocks all = record { most = λ k d low. (all k d low).most; all = λ more. all }

  block_grows : (b : Vec T Z) → IsBlock b → MayGrow b
  block_grows b is = λ less. let memory = is.memory in omega (arith, less, memory, b.ok.0)

  module _ (blocks new : List (Vec T Z)) (k o : ℕ) (low : k < length blocks) where
    -- an item came into a block
    pub inserted : (item : T) (spare : Vec T Z) → ((d : Vec T Z) → o ≤ length (get_or blocks k d).items) → ChangesBlock k (TakesItem o item spare) blocks new →
        items_of (insert new (suc k) spare) ≡ insert (items_of blocks) (start_of vec_items blocks k + o) item
    inserted item spare within ch =
        let is = subst (λ b. ch.after.items ++ spare.items ≡ insert b.items o item) (sym ch.stood) ch.changes.items in
        ap (λ (bs : List (Vec T Z)). items_of (insert bs (suc k) spare)) ch.put
        ∙ flat_map-insert vec_items blocks k o item ch.after spare ch.before low (within ch.before) is

    pub inserted_blocks : (item : T) (spare : Vec T Z) → AreBlocks blocks → ChangesBlock k (TakesItem o item spare) blocks new → AreBlocks new
    inserted_blocks item spare good ch = set_blocks blocks k ch.before ch.after low ch.stood good ch.changes.most ch.put (λ more. ch.changes.some) ch.changes.memory

    -- where items moved out of a block, they become the block behind it
    pub split_blocks : (item : T) (spare : Vec T Z) → AreBlocks blocks → ChangesBlock k (TakesItem o item spare) blocks new → length spare.items ≢ 0 → AreBlocks (insert new (suc k) spare)
    split_blocks item spare good ch moved =
        elim ch.changes.moved [
          | inl none ↦ absurd (moved (ap length none))
          | inr full ↦
              let size : block_size ≤ length ch.before.items = omega (arith, full.0) in
              let all = set_full blocks k ch.before ch.after low ch.stood good ch.changes.most ch.changes.some ch.changes.memory size in
              from_all (insert new (suc k) spare) (All-insert IsBlock new (suc k) spare (subst (All IsBlock) (sym ch.put) all) full.1)
        ]

    -- an item went out of a block
    pub removed : ((d : Vec T Z) → o < length (get_or blocks k d).items) → ChangesBlock k (LosesItem o) blocks new → items_of new ≡ remove (items_of blocks) (start_of vec_items blocks k + o)
    removed within ch =
        let is = subst (λ b. ch.after.items ≡ remove b.items o) (sym ch.stood) ch.changes.items in
        ap items_of ch.put ∙ flat_map-remove vec_items blocks k o ch.after ch.before low (within ch.before) is

    pub removed_blocks : AreBlocks blocks → (1 < length blocks → (d : Vec T Z) → length (get_or blocks k d).items ≢ 1) → ((d : Vec T Z) → o < length (get_or blocks k d).items) → ChangesBlock k (LosesItem o) blocks new → AreBlocks new
    removed_blocks good more within ch =
        let most = holds_at (λ b. length b.items ≤ block_size) blocks k ch.before low ch.stood good.most in
        let some = subst (λ b. o < length b.items) ch.stood (within ch.before) in
        let memory = ch.changes.memory in
        let count = ch.changes.count in
        let left : 1 < length blocks → 0 < length ch.after.items = λ beside.
        let not_one = subst (λ b. length b.items ≢ 1) ch.stood (more beside ch.before) in
        omega (arith, not_one, some, count) in
        set_blocks blocks k ch.before ch.after low ch.stood good (omega (arith, most, count)) ch.put left (omega (arith, memory))

  -- two blocks side by side became one
  module _ (blocks new : List (Vec T Z)) (k : ℕ) (low : suc k < length blocks) (back : Vec T Z) (is_back : back ≡ get_or blocks (suc k) back) (ch : ChangesBlock k (TakesAll back.items) (remove blocks (suc k)) new) where
    front_is : (d : Vec T Z) → get_or blocks k d ≡ ch.before
    front_is d =
        get_or_default blocks k d ch.before (omega arith)
        ∙ sym (get_or-remove_below blocks (suc k) ch.before k (omega arith) low)
        ∙ ch.stood

    back_is : (d : Vec T Z) → get_or blocks (suc k) d ≡ back
    back_is d = get_or_default blocks (suc k) d back low ∙ sym is_back

    pub joined : items_of new ≡ items_of blocks
    joined =
        ap items_of ch.put
        ∙ flat_map-join vec_items blocks k ch.after back low
        (ch.changes.items ∙ ap (λ (b : Vec T Z). b.items ++ back.items) (sym (front_is back)) ∙ ap (λ (b : Vec T Z). (get_or blocks k back).items ++ b.items) (sym (back_is back)))

    pub joined_blocks : FitTogether blocks k → All IsBlock blocks → All IsBlock new
    joined_blocks fit all =
        let front = subst IsBlock (front_is back) (all k back (omega arith)) in
        let fits : length (get_or blocks k back).items + length (get_or blocks (suc k) back).items ≤ block_size = fit back in
        let front_size = ap (λ (b : Vec T Z). length b.items) (front_is back) in
        let back_size = ap (λ (b : Vec T Z). length b.items) (back_is back) in
        let size = ap length ch.changes.items ∙ length-append ch.before.items back.items in
        let own : IsBlock ch.after = record { some = omega (arith, front.some, size); most = omega (arith, fits, front_size, back_size, size); memory = omega (arith, front.memory, ch.changes.memory) } in
        subst (All IsBlock) (sym ch.put) (All-set IsBlock (remove blocks (suc k)) k ch.after own (All-remove IsBlock blocks (suc k) all))

module _ {T : Type 0} (old new : Blocks T) where
  -- what was ready stays so where blocks are taken out
  pub ready_with_fewer : (spare kept : Vec T Global) → 1 < length (all_of old) → All IsBlock (all_of new) → vec_len new.rest ≤ vec_len old.rest → vec_capacity new.rest ≡ vec_capacity old.rest →
      vec_capacity spare ≤ vec_capacity kept → IsReady old spare → IsReady new kept
  ready_with_fewer spare kept more all fewer capacity larger ready = record {
    grow = λ k d low. block_grows (get_or (all_of new) k d) (all k d low);
    room = elim ready.room [
      | inl alone ↦ absurd (omega (arith, more, alone.0))
      | inr room ↦ inr (omega (arith, larger, room.0), omega (arith, fewer, capacity, room.1))
    ];
  }

  -- and where an item goes
  pub ready_without : (spare : Vec T Global) (k o : ℕ) → k < length (all_of old) → ChangesBlock k (LosesItem o) (all_of old) (all_of new) → vec_len new.rest ≡ vec_len old.rest → vec_capacity new.rest ≡ vec_capacity old.rest →
      IsReady old spare → IsReady new spare
  ready_without spare k o low ch count capacity ready =
      let b = ch.before in
      let x = ch.after in
      let fewer = ch.changes.count in
      let memory = ch.changes.memory in
      let own : MayGrow x = λ less. omega (arith, fewer, memory, x.ok.0, b.ok.0, b.ok.1) in
      record {
        grow = subst (All MayGrow) (sym ch.put) (All-set MayGrow (all_of old) k x own ready.grow);
        room = elim ready.room [
          | inl alone ↦
              let less : length b.items < block_size = holds_at (λ y. length y.items < block_size) (all_of old) k b low ch.stood alone.1 in
              let few = All-set (λ y. length y.items < block_size) (all_of old) k x (omega (arith, less, fewer)) alone.1 in
              inl (ap length ch.put ∙ length-set (all_of old) k x ∙ alone.0, subst (All (λ y. length y.items < block_size)) (sym ch.put) few)
          | inr room ↦ inr (room.0, omega (arith, count, capacity, room.1))
        ];
      }
