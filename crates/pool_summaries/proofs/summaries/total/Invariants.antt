use Rattle.std.proofs.Common.{◌≡◌, sum_by, take}
use Rattle.pool_summaries.proofs.summaries.total.Given as goal

abbrev pub invariant-loop-count : goal.invariant-loop-count
invariant-loop-count l = l.total ≡ sum_by (λ count. count) (take l.count-index l.counts)
