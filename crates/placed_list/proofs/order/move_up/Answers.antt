-- The last place of one block is the first of the next.
use Rattle.std.proofs.Common.{◌≡◌, ◌+◌, ◌<◌, List, [], ◌∷◌, ◌++◌, ℕ, length, get_or, sym, ap, ◌∙◌, arith}
use Rattle.std.specs.VecDeque.{deque_len, deque_capacity}
use Rattle.std.proofs.lemmas.List.{append_assoc, get_or-set_other, get_or_default}
use Rattle.placed_list.specs.Blocks.{Block}
use Rattle.placed_list.proofs.Pieces.{flat_map-set_pair}
use Rattle.placed_list.proofs.Gaps.{size_at, moved}
use Rattle.placed_list.proofs.order.move_up.Goals as goal

pub returns : goal.returns
returns c =
    let blocks = c.args.blocks.now.items in
    let at = c.args.at in
    let was = c.index_mut.result.now in
    let next = c.index_mut-in-Some.result.now in
    let short = c.pop_back.new.self in
    let long = c.push_front_reserved.new.self in
    let place = c.in-Some.place in
    let low : at < length blocks = omega (arith, c.requires.next) in
    let was_is : was ≡ get_or blocks at next = c.index_mut.ensures.value ∙ get_or_default blocks at was next low in
    let next_is : next ≡ get_or blocks (at + 1) next = c.index_mut-in-Some.ensures.value ∙ get_or-set_other blocks at (at + 1) short next (λ same. absurd (omega (arith, same))) in
    moved at (at + 1) blocks short long (λ same. absurd (omega (arith, same))) low c.requires.next
    (omega (arith, size_at blocks at next low, ap deque_len was_is, c.in-Some.ensures.cases))
    (omega (arith, size_at blocks (at + 1) next c.requires.next, ap deque_len next_is, c.push_front_reserved.ensures.len))
    (omega (arith, c.requires.room at next low, ap deque_capacity was_is, c.in-Some.ensures.capacity))
    (omega (arith, c.requires.room (at + 1) next c.requires.next, ap deque_capacity next_is, c.push_front_reserved.ensures.capacity))
    (flat_map-set_pair (λ (b : Block). b.items) blocks at short long next c.requires.next
    (ap (λ (l : List ℕ). short.items ++ l) c.push_front_reserved.ensures.items
    ∙ sym (append_assoc short.items (place ∷ []) next.items)
    ∙ ap (λ (l : List ℕ). l ++ next.items) (sym c.in-Some.ensures.items)
    ∙ ap (λ (b : Block). b.items ++ next.items) was_is
    ∙ ap (λ (b : Block). (get_or blocks at next).items ++ b.items) next_is))
