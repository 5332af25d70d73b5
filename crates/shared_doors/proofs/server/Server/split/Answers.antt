-- One place more is split.
use Rattle.std.proofs.Common.{◌≡◌, ◌<◌, length, refl, arith, sym, subst, IsTrue, is_some, Some}
use Rattle.std.proofs.lemmas.List.{length-map}
use Rattle.std.proofs.lemmas.List.Elements.{All-push}
use Rattle.std.specs.List.{All}
use Rattle.shared_doors.specs.Joined.{MaySplit}
use Rattle.shared_doors.specs.Machines.{lasting_in}
use Rattle.shared_doors.specs.Views.{EachBelow, look, view_or, views}
use Rattle.shared_doors.proofs.ByPlace.{each_push, push_views, rest_stays, split_more}
use Rattle.shared_doors.proofs.server.Server.split.Goals as goal

pub split_at-pass-requires : goal.split_at-pass-requires
split_at-pass-requires g c =
    let low : c.loop-place.place < length c.args.self.now.turnstiles.items = omega (arith, c.loop-place-test.true, c.len-count.ensures, c.args.self.now.turnstiles.ok.0) in
    let place = c.loop-place.place in
    record {
      own = c.loop-place.invariant.own;
      place = low;
      first = subst MaySplit (sym (c.loop-place.invariant.rest place (omega arith))) (c.requires.first place low);
    }

pub loop-place-preserved : goal.loop-place-preserved
loop-place-preserved g c =
    let i = c.loop-place.invariant in
    let place = c.loop-place.place in
    let ts = c.args.self.now.turnstiles.items in
    let low : place < length ts = omega (arith, c.loop-place-test.true, c.len-count.ensures, c.args.self.now.turnstiles.ok.0) in
    let given = c.loop-place.given.items in
    let more = c.push_reserved.new.self.items in
    let q = c.split_at-pass.result in
    let s = c.split_at-pass.ensures in
    let pushed = c.push_reserved.ensures.items in
    let counted : length given ≡ place = omega (arith, i.count, c.loop-place.given.ok.0) in
    let cur = views c.loop-place.kept.passes.items in
    let low_view : place < length cur = omega (arith, low, i.own.count, length-map c.loop-place.kept.passes.items view_or) in
    let low_given : place ≡ length (views given) = omega (arith, counted, length-map given view_or) in
    record {
      own = s.own;
      count = omega (arith, i.count, c.push_reserved.ensures.len);
      room = omega (arith, i.room, c.push_reserved.ensures.capacity);
      whole = subst (All (λ o. IsTrue (is_some o))) (sym pushed) (All-push (λ o. IsTrue (is_some o)) given (Some q) i.whole refl);
      each = each_push (lasting_in g.M.Machine.kept) ts given more q place pushed counted i.each s.given;
      split = split_more (views c.args.passes.passes.items) cur (views c.split_at-pass.new.passes.passes.items) (views given) (views more) place s.split.0 (look q)
          low_given low_view s.split.1 (push_views given more q pushed) (i.rest place (omega arith)) s.split.2 i.split;
      rest = rest_stays (views c.args.passes.passes.items) cur (views c.split_at-pass.new.passes.passes.items) place s.split.0 s.split.1 i.rest;
    }

pub returns-clause-given : goal.returns-clause-given
returns-clause-given g c =
    let ts = c.args.self.now.turnstiles.items in
    let full : c.loop-place.place ≡ length ts = omega (arith, c.len-count.ensures, c.args.self.now.turnstiles.ok.0) in
    record {
      count = omega (arith, full, c.loop-place.invariant.count, c.loop-place.given.ok.0);
      whole = c.loop-place.invariant.whole;
      each = subst (λ n. EachBelow n (lasting_in g.M.Machine.kept) ts c.loop-place.given.items) full c.loop-place.invariant.each;
    }
