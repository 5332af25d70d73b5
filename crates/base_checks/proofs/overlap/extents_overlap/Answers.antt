-- What the sorted extents tell is told of the extents.
use Rattle.std.proofs.Common.{rules}
use Rattle.std.proofs.lemmas.List.Sorted.{IsNonDecreasingBy-from_sort_by_key}
use Rattle.blob_rows.specs.declared.extent.Extent.{Extent}
use Rattle.base_checks.proofs.Sorted.{told_of_extents}
use Rattle.base_checks.proofs.overlap.extents_overlap.Goals as goal

pub returns : goal.returns
returns c =
    told_of_extents c.args.extents.now c.sort_unstable_by_key.new.self c.sort_unstable_by_key.ensures.permutation
    (IsNonDecreasingBy-from_sort_by_key (λ (extent : Extent). extent.at) c.sort_unstable_by_key.new.self c.sort_unstable_by_key.ensures.sorted (λ a r q k. search rules))
    c.requires.full c.has_overlap.result c.has_overlap.ensures
