-- One view more is made.
use Rattle.std.proofs.Common.{◌<◌, ◌∙◌, length, ap, arith}
use Rattle.std.proofs.lemmas.List.{length-map}
use Rattle.board_workers.proofs.Following.{same_posters, views_more}
use Rattle.board_workers.proofs.posters.make_views.Goals as goal

pub loop-place-preserved : goal.loop-place-preserved
loop-place-preserved g c =
    let i = c.loop-place.invariant in
    let posters = c.loop-place.posters.items in
    let all = c.args.posters.now.items in
    let low : c.loop-place.place < length posters =
    omega (arith, c.loop-place-test.true, c.len-count.ensures, c.args.posters.now.ok.0, ap length i.same, length-map posters (λ own. own.poster), length-map all (λ own. own.poster)) in
    record {
      count = omega (arith, i.count, c.push_reserved.ensures.len);
      room = omega (arith, i.room, c.push_reserved.ensures.capacity);
      same = same_posters (λ own. own.poster) posters c.loop-place.place c.index_mut.result.now _ low c.index_mut.ensures.value c.view.ensures.same ∙ i.same;
      made = views_more (λ own. own.poster) posters all c.loop-place.place c.index_mut.result.now c.loop-place.views.items c.push_reserved.new.self.items c.in_ok-view.view low c.index_mut.ensures.value i.same i.made c.push_reserved.ensures.items c.in_ok-view.ensures.view;
    }
