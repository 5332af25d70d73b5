-- The first entries are taken in, and the others are left.
use Rattle.std.proofs.Common.{◌≡◌, length}
use Rattle.std.specs.Vec.Iter.{into_iter_items, into_iter_len}
use Rattle.pool_posts.specs.Takes.{TakesIn}
use Rattle.pool_posts.proofs.posts.add_all.Given as goal

abbrev pub invariant-loop-entry : goal.invariant-loop-entry
invariant-loop-entry l = record {
  takes : TakesIn l.fn.poster l.poster l.fn.entries.items (into_iter_items l.rest);
  left : into_iter_len l.rest ≡ length (into_iter_items l.rest);
}

abbrev pub decreases-loop-entry : goal.decreases-loop-entry
decreases-loop-entry l = into_iter_len l.rest
