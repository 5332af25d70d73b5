use Rattle.std.proofs.Common.{◌≡◌, ◌+◌, ℕ, suc, length, take, ap, ◌∙◌, arith}
use Rattle.std.specs.Prelude.{vec_items}
use Rattle.block_list.specs.Blocks.{items_of, all_of}
use Rattle.block_list.proofs.Pieces.{start_next}
use Rattle.block_list.proofs.blocks.Blocks.item_place.Goals as goal

pub returns-then-place-len-clause-index : goal.returns-then-place-len-clause-index
returns-then-place-len-clause-index g c =
    let blocks = all_of c.args.self.now in
    let block = c.args.place.block in
    let head = c.args.self.now.head in
    let suc_is : block + 1 ≡ suc block = omega arith in
    let next = ap (λ (k : ℕ). length (items_of (take k blocks))) suc_is ∙ start_next vec_items blocks block head c.requires.place.block in
    omega (arith, next, c.if-place-len.true, c.len.ensures, ap length (c.block.ensures head))
