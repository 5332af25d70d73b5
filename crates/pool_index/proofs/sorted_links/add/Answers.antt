use Rattle.std.proofs.Common.{◌≡◌, length, refl, arith}
use Rattle.pool_index.proofs.LinkSearch.{link_added}
use Rattle.pool_index.proofs.sorted_links.add.Goals as goal

pub returns-clause-sorted : goal.returns-clause-sorted
returns-clause-sorted g c =
    let links = c.args.links.now.items in
    let order = c.args.order.now.items in
    let count : c.len.result ≡ length links = omega (arith, c.len.ensures, c.args.links.now.ok.0) in
    link_added g.L.Keyed.key links order c.requires.sorted (g.L.Keyed.key c.args.link) c.args.link refl c.requires.fresh
    c.push_reserved.new.self.items c.insert_place.new.order.items c.len.result c.push_reserved.ensures.items (rw c.deref.ensures.value at c.insert_place.ensures) count
