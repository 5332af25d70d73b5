use Rattle.std.proofs.Common.{◌≤◌, suc, length, get_or, ap, arith}
use Rattle.block_list.specs.Blocks.{block_size}
use Rattle.block_list.proofs.blocks.Blocks.is_small_pair.Goals as goal

pub overflow_add-result : goal.overflow_add-result
overflow_add-result g c =
    let rest = c.args.self.now.rest.items in
    let behind = c.index.result.now in
    let front = c.requires.blocks.most c.args.number behind (omega (arith, c.requires.number)) in
    let back : length (get_or rest c.args.number behind).items ≤ block_size = c.requires.blocks.most (suc c.args.number) behind (omega (arith, c.requires.number)) in
    omega (arith, front, back, ap length (c.block.ensures behind), ap (λ b. length b.items) c.index.ensures, c.len.ensures, behind.ok.0)
