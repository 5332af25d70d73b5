-- What was copied goes on from what the poster has.
use Rattle.std.proofs.Common.{◌++◌, sym, subst}
use Rattle.swarm_model.specs.Bases.{Base}
use Rattle.swarm_model.specs.History.{IsLegal}
use Rattle.shared_doors.specs.Views.{view_at, views}
use Rattle.pool_posts.proofs.Posting.{begins_still, begins_trans, copied_of, legal_entries, published_of}
use Rattle.pool_posts.proofs.posts.post.Goals as goal

pub publish_all-posted-requires : goal.publish_all-posted-requires
publish_all-posted-requires g c =
    let old = c.args.poster.now in
    let before = (view_at (views c.args.passes.passes.items) c.args.place).seen in
    let seen = (view_at (views c.copy-passes.result.0.passes.items) c.args.place).seen in
    let turn = c.copy-passes.ensures.turn.turn in
    let begins = begins_trans (old.published ++ old.pending) before seen c.requires.prefix turn.begins in
    let copied = copied_of (λ v. v.items) c.copy-passes.result.1 c.in-Ok.entries c.length-from.result _ seen c.in-Ok.is c.length-from.ensures c.copy-passes.ensures.copied in
    record { legal = legal_entries old seen c.in-Ok.entries.items begins copied old.start.rows (subst (λ (b : Base). IsLegal b.rows seen) (sym c.requires.start) turn.legal) }

pub returns-clause-prefix : goal.returns-clause-prefix
returns-clause-prefix g c =
    let old = c.args.poster.now in
    let before = (view_at (views c.args.passes.passes.items) c.args.place).seen in
    let seen = (view_at (views c.copy-passes.result.0.passes.items) c.args.place).seen in
    let begins = begins_trans (old.published ++ old.pending) before seen c.requires.prefix c.copy-passes.ensures.turn.turn.begins in
    let copied = copied_of (λ v. v.items) c.copy-passes.result.1 c.in-Ok.entries c.length-from.result _ seen c.in-Ok.is c.length-from.ensures c.copy-passes.ensures.copied in
    begins_still old seen c.in-Ok.entries.items begins copied c.publish_all-posted.new.poster c.publish_all-posted.result c.publish_all-posted.ensures.all c.publish_all-posted.ensures.some

pub returns-clause-published : goal.returns-clause-published
returns-clause-published g c =
    let old = c.args.poster.now in
    let before = (view_at (views c.args.passes.passes.items) c.args.place).seen in
    let seen = (view_at (views c.copy-passes.result.0.passes.items) c.args.place).seen in
    let begins = begins_trans (old.published ++ old.pending) before seen c.requires.prefix c.copy-passes.ensures.turn.turn.begins in
    let copied = copied_of (λ v. v.items) c.copy-passes.result.1 c.in-Ok.entries c.length-from.result _ seen c.in-Ok.is c.length-from.ensures c.copy-passes.ensures.copied in
    published_of old seen c.in-Ok.entries.items begins copied c.publish_all-posted.new.poster c.publish_all-posted.result c.publish_all-posted.ensures.all
