use Rattle.std.proofs.Common.{◌≡◌, ◌<◌, ◌^◌, take}
use Rattle.base_lines.specs.Computed.{size_of}
use Rattle.base_lines.proofs.attempts.length_of.Given as goal

abbrev pub invariant-loop-chunk : goal.invariant-loop-chunk
invariant-loop-chunk l = (l.length ≡ size_of (take l.chunk-index l.chunks)) × (l.length < 2 ^ 32)
