-- One entry more is taken in.
use Rattle.std.proofs.Common.{length, ap, arith}
use Rattle.std.specs.Vec.Iter.{into_iter_items}
use Rattle.pool_posts.proofs.Posting.{legal_next, takes_more, takes_none}
use Rattle.pool_posts.proofs.posts.add_all.Goals as goal

pub loop-entry-init : goal.loop-entry-init
loop-entry-init c = record {
  takes = takes_none c.args.poster.now c.args.entries.items (into_iter_items c.into_iter-rest.result) c.into_iter-rest.ensures.rest;
  left = omega (arith, c.into_iter-rest.ensures.len, c.args.entries.ok.0, ap length c.into_iter-rest.ensures.rest);
}

pub add-requires : goal.add-requires
add-requires c = record {
  legal =
      legal_next c.args.poster.now c.loop-entry.poster c.args.entries.items (into_iter_items c.loop-entry.rest) (into_iter_items c.next.new.self) c.in-Some.entry
      c.loop-entry.invariant.takes c.in-Some.ensures.items c.requires.legal;
}

pub loop-entry-preserved : goal.loop-entry-preserved
loop-entry-preserved c = record {
  takes =
      takes_more c.args.poster.now c.loop-entry.poster c.args.entries.items (into_iter_items c.loop-entry.rest) (into_iter_items c.next.new.self) c.in-Some.entry
      c.loop-entry.invariant.takes c.in-Some.ensures.items c.add.new.self c.in-Ok.ensures;
  left = omega (arith, c.loop-entry.invariant.left, c.in-Some.ensures.len, ap length c.in-Some.ensures.items);
}
