-- What was pending is published, or all stays.
use Rattle.std.proofs.Common.{◌≡◌, [], ◌++◌, sym, subst, ◌∙◌, drop}
use Rattle.std.specs.Prelude.{MatchResult}
use Rattle.left_right.specs.Sides.{view}
use Rattle.swarm_model.specs.Bases.{Base}
use Rattle.row_copies.specs.Kept.{kept_of}
use Rattle.swarm_boards.specs.Posted.{Posted, IsPosted}
use Rattle.swarm_boards.proofs.Posting.{opened, legal_pending, posted_next, entries_next, count_next, posts_next, posted_in, length_in}
use Rattle.swarm_boards.proofs.poster.Poster.publish.Goals as goal

pub publish_pending-writer-requires : goal.publish_pending-writer-requires
publish_pending-writer-requires g c =
    let w = c.in-Some.writer in
    let p = c.self.inside in
    let posted = opened (λ t. IsPosted p.base.value (kept_of t.desk.shown.value) (view t.desk.place) (drop t.behind t.log.items)) p.writer w (sym c.take.ensures.value ∙ c.in-Some.is) c.self.invariant.writer in
    record { legal = legal_pending p.base.value (kept_of w.desk.shown.value) (view w.desk.place) (drop w.behind w.log.items) posted }

pub invariant_of-self : goal.invariant_of-self
invariant_of-self g c =
    let w = c.in-Some.writer in
    let t = c.publish_pending-writer.result.0 in
    let done = c.publish_pending-writer.result.1 in
    let p = c.self.inside in
    let is = sym c.take.ensures.value ∙ c.in-Some.is in
    let posted = opened (λ t. IsPosted p.base.value (kept_of t.desk.shown.value) (view t.desk.place) (drop t.behind t.log.items)) p.writer w is c.self.invariant.writer in
    let entries = entries_next done p.base.value (kept_of w.desk.shown.value) (kept_of t.desk.shown.value) (view w.desk.place) (view t.desk.place) (drop w.behind w.log.items) (drop t.behind t.log.items) posted c.publish_pending-writer.ensures in
    record {
      writer = rw c.put_back.ensures (posted_next done p.base.value (kept_of w.desk.shown.value) (kept_of t.desk.shown.value) (view w.desk.place) (view t.desk.place) (drop w.behind w.log.items) (drop t.behind t.log.items) posted c.publish_pending-writer.ensures);
      length = rw c.put_back.ensures (c.self.invariant.length ∙ length_in (λ t. view t.desk.place) (λ t. drop t.behind t.log.items) p.writer w is
          ∙ sym (count_next done (view w.desk.place).seen (view t.desk.place).seen (drop w.behind w.log.items) (drop t.behind t.log.items) entries));
      few = c.self.invariant.few;
      count = c.self.invariant.count;
    }

pub returns : goal.returns
returns g c =
    let w = c.in-Some.writer in
    let t = c.publish_pending-writer.result.0 in
    let done = c.publish_pending-writer.result.1 in
    let p = c.self.inside in
    let is = sym c.take.ensures.value ∙ c.in-Some.is in
    let start : Base = record { rows = p.base.value; count = p.count } in
    let posted = opened (λ t. IsPosted p.base.value (kept_of t.desk.shown.value) (view t.desk.place) (drop t.behind t.log.items)) p.writer w is c.self.invariant.writer in
    let entries = entries_next done p.base.value (kept_of w.desk.shown.value) (kept_of t.desk.shown.value) (view w.desk.place) (view t.desk.place) (drop w.behind w.log.items) (drop t.behind t.log.items) posted c.publish_pending-writer.ensures in
    let old = sym (posted_in (λ t. view t.desk.place) (λ t. drop t.behind t.log.items) start p.writer w is) ∙ c.self.view_is in
    let new : Posted = record { start = start; published = (view t.desk.place).seen; pending = drop t.behind t.log.items } in
    rw c.put_back.ensures (subst (λ (o : Posted). MatchResult done (λ _. new ≡ record o { published = o.published ++ o.pending; pending = [] }) (λ _. new ≡ o)) old
    (posts_next done start (view w.desk.place).seen (view t.desk.place).seen (drop w.behind w.log.items) (drop t.behind t.log.items) entries))
