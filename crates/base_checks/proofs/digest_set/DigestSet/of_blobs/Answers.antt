-- The sorted digests are those of the blobs.
use Rattle.base_checks.proofs.Searched.{digests_moved}
use Rattle.base_checks.proofs.digest_set.DigestSet.of_blobs.Goals as goal

pub returns : goal.returns
returns c = digests_moved c.args.blobs.now c.sort_unstable.new.self.items (rw c.in_ok-sorted.ensures at c.sort_unstable.ensures.permutation)
