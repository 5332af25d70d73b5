-- A search tells whether the digest is there.
use Rattle.std.proofs.Common.{◌∙◌}
use Rattle.base_checks.proofs.Searched.{told_by_search}
use Rattle.base_checks.proofs.digest_set.is_among.Goals as goal

pub returns : goal.returns
returns c =
    c.is_ok.ensures.value
    ∙ told_by_search c.args.sorted.now c.args.digest.now c.binary_search.result c.requires c.binary_search.ensures.bound c.binary_search.ensures.position
