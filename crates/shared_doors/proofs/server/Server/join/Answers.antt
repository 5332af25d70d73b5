-- One place more is joined.
use Rattle.std.proofs.Common.{◌<◌, length, get_or, arith, sym, subst, ap, ◌∙◌, IsTrue, is_some, None}
use Rattle.std.proofs.lemmas.List.{length-map, length-set, get_or-set_other}
use Rattle.shared_doors.specs.Joined.{Joins}
use Rattle.shared_doors.specs.Machines.{lasting_in}
use Rattle.shared_doors.specs.Views.{look, view_at, view_or, views}
use Rattle.shared_doors.proofs.ByPlace.{more_places, one_of, rest_stays, seen_at, there}
use Rattle.shared_doors.proofs.server.Server.join.Goals as goal

pub take_at-other-requires : goal.take_at-other-requires
take_at-other-requires g c =
    let low : c.loop-place.place < length c.args.self.now.turnstiles.items = omega (arith, c.loop-place-test.true, c.len-count.ensures, c.args.self.now.turnstiles.ok.0) in
    let place = c.loop-place.place in
    let i = c.loop-place.invariant in
    record {
      place = omega (arith, low, i.count, c.requires.two.count);
      there = subst (λ o. IsTrue (is_some o)) (sym (i.others place (omega arith))) (there (lasting_in g.M.Machine.kept) c.args.self.now.turnstiles.items c.args.two.passes.items place c.requires.two low);
    }

pub join_at-requires : goal.join_at-requires
join_at-requires g c =
    let low : c.loop-place.place < length c.args.self.now.turnstiles.items = omega (arith, c.loop-place-test.true, c.len-count.ensures, c.args.self.now.turnstiles.ok.0) in
    let place = c.loop-place.place in
    let i = c.loop-place.invariant in
    record {
      own = i.own;
      place = low;
      other = one_of (lasting_in g.M.Machine.kept) c.args.self.now.turnstiles.items c.args.two.passes.items place c.take_at-other.result c.requires.two low
          (sym (i.others place (omega arith)) ∙ c.take_at-other.ensures.pass);
    }

pub loop-place-preserved : goal.loop-place-preserved
loop-place-preserved g c =
    let low : c.loop-place.place < length c.args.self.now.turnstiles.items = omega (arith, c.loop-place-test.true, c.len-count.ensures, c.args.self.now.turnstiles.ok.0) in
    let place = c.loop-place.place in
    let i = c.loop-place.invariant in
    let j = c.join_at.ensures in
    let taken = c.take_at-other.ensures.taken in
    let others = c.loop-place.others.items in
    let one = views c.args.one.passes.items in
    let two = views c.args.two.passes.items in
    let cur = views c.loop-place.joined.passes.items in
    let next = views c.join_at.new.passes.passes.items in
    let low_view : place < length cur = omega (arith, low, i.own.count, length-map c.loop-place.joined.passes.items view_or) in
    let seen = seen_at (lasting_in g.M.Machine.kept) c.args.self.now.turnstiles.items c.args.two.passes.items place c.take_at-other.result c.requires.two low
    (sym (i.others place (omega arith)) ∙ c.take_at-other.ensures.pass) in
    record {
      own = j.own;
      count = ap length taken ∙ length-set others place None ∙ i.count;
      others = λ p above. ap (λ l. get_or l p None) taken ∙ get_or-set_other others place p None None (λ same. absurd (omega (arith, above, same))) ∙ i.others p (omega (arith, above));
      joined = more_places (λ p v. Joins (view_at one p) (view_at two p) v) cur next place j.joined.0 low_view j.joined.1
          (subst (λ v. Joins (view_at one place) v j.joined.0) (sym seen) (subst (λ v. Joins v (look c.take_at-other.result) j.joined.0) (i.rest place (omega arith)) j.joined.2)) i.joined;
      rest = rest_stays one cur next place j.joined.0 j.joined.1 i.rest;
    }
