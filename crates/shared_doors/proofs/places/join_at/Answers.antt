-- The pass at the place is of the turnstile there, before and after.
use Rattle.std.proofs.Common.{None, sym, subst}
use Rattle.shared_doors.specs.Joined.{Joins}
use Rattle.shared_doors.specs.Machines.{lasting_in}
use Rattle.shared_doors.specs.Views.{look}
use Rattle.shared_doors.proofs.ByPlace.{one_of, own_stays, seen_at, views_back}
use Rattle.shared_doors.proofs.Joining.{joined_views}
use Rattle.shared_doors.proofs.places.join_at.Goals as goal

pub join-joined-requires : goal.join-joined-requires
join-joined-requires g c =
    let t = c.index-turnstile.result.now in
    let at = c.index-turnstile.ensures in
    record {
      own = (
        one_of (lasting_in g.M.Machine.kept) c.args.server.now.turnstiles.items c.args.passes.now.passes.items c.args.place c.take_at-pass.result
            c.requires.own c.requires.place c.take_at-pass.ensures.pass t at,
        c.requires.other t at,
      );
    }

pub returns-clause-own : goal.returns-clause-own
returns-clause-own g c =
    rw c.take_at-pass.ensures.taken
    (own_stays (lasting_in g.M.Machine.kept) c.args.server.now.turnstiles.items c.args.passes.now.passes.items c.args.place None c.join-joined.result
    c.index-turnstile.result.now c.requires.own c.requires.place c.index-turnstile.ensures c.join-joined.ensures.own)

pub returns-clause-joined : goal.returns-clause-joined
returns-clause-joined g c =
    let ts = c.args.server.now.turnstiles.items in
    let items = c.args.passes.now.passes.items in
    let j = c.join-joined.ensures in (
      look c.join-joined.result,
      rw c.take_at-pass.ensures.taken (views_back (lasting_in g.M.Machine.kept) ts items c.args.place None c.join-joined.result),
      subst (λ v. Joins v (look c.args.other) (look c.join-joined.result))
          (sym (seen_at (lasting_in g.M.Machine.kept) ts items c.args.place c.take_at-pass.result c.requires.own c.requires.place c.take_at-pass.ensures.pass))
          (joined_views c.take_at-pass.result c.args.other c.join-joined.result j.numbers.0 j.numbers.1 j.made j.turns j.told j.longer j.begins.0 j.begins.1 j.own_one j.own_two),
    )
