use Rattle.std.proofs.Common.{◌≡◌, drop}
use Rattle.base_checks.specs.Runs.{are_in_row}
use Rattle.base_checks.proofs.runs.are_in_row.Given as goal

abbrev pub invariant-loop-chunk : goal.invariant-loop-chunk
invariant-loop-chunk l = are_in_row 0 l.chunks l.total ≡ are_in_row l.end (drop l.chunk-index l.chunks) l.total
