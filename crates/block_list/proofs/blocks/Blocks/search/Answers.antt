use Rattle.std.proofs.Common.{◌<◌, suc, length, arith}
use Rattle.std.specs.Prelude.{vec_items}
use Rattle.std.specs.List.{All}
use Rattle.block_list.proofs.Searches.{partitioned, partitioned_in, partition}
use Rattle.block_list.proofs.blocks.Blocks.search.Goals as goal

pub returns-clause-partition : goal.returns-clause-partition
returns-clause-partition g c p h parted =
    let head = c.args.self.now.head in
    let rest = c.args.self.now.rest.items in
    let block = c.search_blocks-block.result in
    let is = c.block.ensures head in
    let some : All (λ b. 0 < length b.items) rest = λ k d low. (c.requires.blocks.all (omega arith) (suc k) d (omega arith)).some in
    let lists = c.search_blocks-block.ensures.partition p h (partitioned vec_items p head rest parted some) in
    let one = c.partition_point-offset.ensures.partitioned p h (rw is (partitioned_in vec_items p head rest parted some block head (omega (arith, c.search_blocks-block.ensures.bound)))) in
    let within = c.partition_point-offset.ensures.bound in
    partition vec_items p head rest parted some block c.partition_point-offset.result head c.search_blocks-block.ensures.bound (rw is at within) lists (rw is at one)
