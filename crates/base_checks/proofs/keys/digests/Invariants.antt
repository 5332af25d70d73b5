use Rattle.std.proofs.Common.{◌≡◌, map, take}
use Rattle.base_checks.specs.Rows.{digest_of}
use Rattle.base_checks.proofs.keys.digests.Given as goal

abbrev pub invariant-loop-blob : goal.invariant-loop-blob
invariant-loop-blob l = l.digests.items ≡ map digest_of (take l.blob-index l.blobs)
