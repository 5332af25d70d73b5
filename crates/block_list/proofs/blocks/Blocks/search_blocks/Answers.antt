use Rattle.std.proofs.lemmas.Fn.{always_returns_same}
use Rattle.block_list.specs.Partition.{first_passes}
use Rattle.block_list.proofs.blocks.Blocks.search_blocks.Goals as goal

pub returns-clause-partition : goal.returns-clause-partition
returns-clause-partition g c p h parted =
    let computes = always_returns_same _ _ _ (λ a r f' k. (k.met.1 p h, λ j. record { 0 = k.met.0 j })) in
    let point = c.partition_point.ensures.partitioned (λ block. first_passes p block.items) computes (rw c.deref.ensures.value parted) in
    rw c.deref.ensures.value at point
