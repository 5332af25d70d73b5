-- The pass at the place is of the turnstile there, before and after.
use Rattle.std.proofs.Common.{None, sym, subst, ap, ◌∙◌, set}
use Rattle.shared_doors.specs.declared.view.PoolView.{PoolView}
use Rattle.shared_doors.specs.Machines.{lasting_in}
use Rattle.shared_doors.specs.Views.{IsFrontOf, views}
use Rattle.shared_doors.proofs.ByPlace.{one_of, own_stays, seen_at, views_back}
use Rattle.shared_doors.proofs.Joining.{told_view}
use Rattle.shared_doors.proofs.places.front_at.Goals as goal

pub front-front-requires : goal.front-front-requires
front-front-requires g c = record {
  own = one_of (lasting_in g.M.Machine.kept) c.args.server.now.turnstiles.items c.args.passes.now.passes.items c.args.place c.take_at-pass.result
      c.requires.own c.requires.place c.take_at-pass.ensures.pass c.index.result.now c.index.ensures;
}

pub returns-clause-own : goal.returns-clause-own
returns-clause-own g c =
    rw c.take_at-pass.ensures.taken
    (own_stays (lasting_in g.M.Machine.kept) c.args.server.now.turnstiles.items c.args.passes.now.passes.items c.args.place None c.front-front.new.pass
    c.index.result.now c.requires.own c.requires.place c.index.ensures c.front-front.ensures.own)

pub returns-clause-front : goal.returns-clause-front
returns-clause-front g c =
    let seen = seen_at (lasting_in g.M.Machine.kept) c.args.server.now.turnstiles.items c.args.passes.now.passes.items c.args.place c.take_at-pass.result
    c.requires.own c.requires.place c.take_at-pass.ensures.pass in
    subst (λ v. IsFrontOf v c.front-front.result) (sym seen) c.front-front.ensures.front

pub returns-clause-told : goal.returns-clause-told
returns-clause-told g c =
    let items = c.args.passes.now.passes.items in
    let seen = seen_at (lasting_in g.M.Machine.kept) c.args.server.now.turnstiles.items items c.args.place c.take_at-pass.result
    c.requires.own c.requires.place c.take_at-pass.ensures.pass in
    let f = c.front-front.ensures in
    rw c.take_at-pass.ensures.taken
    (views_back (lasting_in g.M.Machine.kept) c.args.server.now.turnstiles.items items c.args.place None c.front-front.new.pass
    ∙ ap (λ w. set (views items) c.args.place w)
    (told_view c.take_at-pass.result c.front-front.new.pass c.front-front.result f.told f.same.0.0 f.same.0.1 f.same.0.2 f.same.1 f.same.2
    ∙ ap (λ (v : PoolView). record v { told = c.front-front.result }) (sym seen)))
