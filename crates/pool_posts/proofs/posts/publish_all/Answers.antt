-- What was taken in is published, or stays pending.
use Rattle.pool_posts.proofs.Posting.{all_pending, published_all}
use Rattle.pool_posts.proofs.posts.publish_all.Goals as goal

pub returns-clause-all : goal.returns-clause-all
returns-clause-all g c =
    published_all c.args.poster.now c.add_all.new.poster c.publish.new.self c.args.entries.items c.in_ok-add_all.ensures.all c.publish.result c.publish.ensures

pub returns-clause-some : goal.returns-clause-some
returns-clause-some g c =
    all_pending c.args.poster.now c.add_all.new.poster c.publish.new.self c.args.entries.items c.in_ok-add_all.ensures.all c.publish.result c.publish.ensures
