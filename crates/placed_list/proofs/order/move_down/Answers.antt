-- The first place of the next block is the last of the one before.
use Rattle.std.proofs.Common.{◌≡◌, ◌≢◌, ◌+◌, ◌<◌, List, [], ◌∷◌, ◌++◌, ℕ, length, get_or, sym, ap, ◌∙◌, arith}
use Rattle.std.specs.VecDeque.{deque_len, deque_capacity}
use Rattle.std.proofs.lemmas.List.{append_assoc, get_or-set_other, get_or_default, set_comm}
use Rattle.placed_list.specs.Blocks.{Block, places_in}
use Rattle.placed_list.proofs.Pieces.{flat_map-set_pair}
use Rattle.placed_list.proofs.Gaps.{size_at, moved}
use Rattle.placed_list.proofs.order.move_down.Goals as goal

pub returns : goal.returns
returns c =
    let blocks = c.args.blocks.now.items in
    let at = c.args.at in
    let next = c.index_mut.result.now in
    let was = c.index_mut-in-Some.result.now in
    let short = c.pop_front.new.self in
    let long = c.push_back_reserved.new.self in
    let place = c.in-Some.place in
    let low : at < length blocks = omega (arith, c.requires.next) in
    let apart : at + 1 ≢ at = λ same. absurd (omega (arith, same)) in
    let next_is : next ≡ get_or blocks (at + 1) was = c.index_mut.ensures.value ∙ get_or_default blocks (at + 1) next was c.requires.next in
    let was_is : was ≡ get_or blocks at was = c.index_mut-in-Some.ensures.value ∙ get_or-set_other blocks (at + 1) at short was (λ same. absurd (omega (arith, same))) in
    moved (at + 1) at blocks short long apart c.requires.next low
    (omega (arith, size_at blocks (at + 1) was c.requires.next, ap deque_len next_is, c.in-Some.ensures.cases))
    (omega (arith, size_at blocks at was low, ap deque_len was_is, c.push_back_reserved.ensures.len))
    (omega (arith, c.requires.room (at + 1) was c.requires.next, ap deque_capacity next_is, c.in-Some.ensures.capacity))
    (omega (arith, c.requires.room at was low, ap deque_capacity was_is, c.push_back_reserved.ensures.capacity))
    (ap places_in (set_comm blocks (at + 1) at short long apart)
    ∙ flat_map-set_pair (λ (b : Block). b.items) blocks at long short was c.requires.next
    (ap (λ (l : List ℕ). l ++ short.items) c.push_back_reserved.ensures.items
    ∙ append_assoc was.items (place ∷ []) short.items
    ∙ ap (λ (l : List ℕ). was.items ++ l) (sym c.in-Some.ensures.items)
    ∙ ap (λ (b : Block). b.items ++ next.items) was_is
    ∙ ap (λ (b : Block). (get_or blocks at was).items ++ b.items) next_is))
