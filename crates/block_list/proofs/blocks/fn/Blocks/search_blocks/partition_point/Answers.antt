use Rattle.std.proofs.Common.{[], ◌∷◌, ap, sym, ◌∙◌}
use Rattle.block_list.specs.Partition.{first_passes}
use Rattle.block_list.proofs.Searches.{first_of}
use Rattle.block_list.proofs.blocks.fn.Blocks.search_blocks.partition_point.Goals as goal

pub returns-in-Some : goal.returns-in-Some
returns-in-Some g c p h =
    let called = (g.met.F.FnMut.1.post_iff _ _ _).0 c.before-in-Some.ensures in
    let answer = (h.at ((c.in-Some.first, tt) ∷ []) c.before-in-Some.result _ called.1).0 in
    answer
    ∙ ap p c.in-Some.ensures.item.1
    ∙ sym (first_of p c.deref.result.now c.in-Some.first.now c.in-Some.ensures.item.3.0)
    ∙ ap (first_passes p) c.deref.ensures.value
