-- The pass at the place is of the turnstile there, before and after, and so is the new one.
use Rattle.std.proofs.Common.{None, sym, subst}
use Rattle.shared_doors.specs.Joined.{Splits, MaySplit}
use Rattle.shared_doors.specs.Machines.{lasting_in}
use Rattle.shared_doors.specs.Views.{look}
use Rattle.shared_doors.proofs.ByPlace.{one_of, own_stays, one_of_next, seen_at, views_back}
use Rattle.shared_doors.proofs.Joining.{split_views}
use Rattle.shared_doors.proofs.places.split_at.Goals as goal

pub split-kept-requires : goal.split-kept-requires
split-kept-requires g c =
    let ts = c.args.server.now.turnstiles.items in
    let items = c.args.passes.now.passes.items in
    let seen = seen_at (lasting_in g.M.Machine.kept) ts items c.args.place c.take_at-pass.result c.requires.own c.requires.place c.take_at-pass.ensures.pass in
    let first = subst MaySplit seen c.requires.first in
    record {
      own = one_of (lasting_in g.M.Machine.kept) ts items c.args.place c.take_at-pass.result
          c.requires.own c.requires.place c.take_at-pass.ensures.pass c.index-turnstile.result.now c.index-turnstile.ensures;
      first = first.0;
      few = first.1;
    }

pub returns-clause-own : goal.returns-clause-own
returns-clause-own g c =
    rw c.take_at-pass.ensures.taken
    (own_stays (lasting_in g.M.Machine.kept) c.args.server.now.turnstiles.items c.args.passes.now.passes.items c.args.place None c.split-kept.result.0
    c.index-turnstile.result.now c.requires.own c.requires.place c.index-turnstile.ensures c.split-kept.ensures.own.0)

pub returns-clause-given : goal.returns-clause-given
returns-clause-given g c =
    one_of_next (lasting_in g.M.Machine.kept) c.args.server.now.turnstiles.items c.args.passes.now.passes.items c.args.place None c.split-kept.result.1
    c.index-turnstile.result.now c.requires.place c.index-turnstile.ensures c.split-kept.ensures.own.1

pub returns-clause-split : goal.returns-clause-split
returns-clause-split g c =
    let ts = c.args.server.now.turnstiles.items in
    let items = c.args.passes.now.passes.items in
    let seen = seen_at (lasting_in g.M.Machine.kept) ts items c.args.place c.take_at-pass.result c.requires.own c.requires.place c.take_at-pass.ensures.pass in
    let first = subst MaySplit seen c.requires.first in
    let s = c.split-kept.ensures in (
      look c.split-kept.result.0,
      rw c.take_at-pass.ensures.taken (views_back (lasting_in g.M.Machine.kept) ts items c.args.place None c.split-kept.result.0),
      subst (λ v. Splits v (look c.split-kept.result.0) (look c.split-kept.result.1)) (sym seen)
          (split_views c.take_at-pass.result c.split-kept.result.0 c.split-kept.result.1 first.0 s.kept.0 s.kept.1 s.kept.2 s.kept.3
          s.given.0 s.given.1 s.given.2 s.seen.0 s.seen.1 s.told.0 s.told.1),
    )
