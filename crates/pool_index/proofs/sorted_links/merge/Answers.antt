use Rattle.std.proofs.Common.{List, sym, subst}
use Rattle.pool_index.specs.SortedLinks.{HasKeyAt, HasNoKey, Sets, link_of, taken_in}
use Rattle.pool_index.proofs.LinkValues.{merged_sorted, merged_sets, added_sets}
use Rattle.pool_index.proofs.sorted_links.merge.Goals as goal

pub returns-in-Some-clause-sorted : goal.returns-in-Some-clause-sorted
returns-in-Some-clause-sorted g c =
    let has : HasKeyAt g.L.Keyed.key c.args.links.now.items (g.L.Keyed.key c.args.link) c.in-Some.place = rw c.deref.ensures.value at c.in-Some.ensures in
    merged_sorted g.L.Keyed.key g.L.MergeLink.merged g.met.L.MergeLink.keeps_key c.args.links.now.items c.args.link c.args.order.now.items c.requires.sorted c.in-Some.place has c.index_mut.result.now c.merge.new.self c.index_mut.ensures.value c.merge.ensures

pub returns-in-Some-clause-links : goal.returns-in-Some-clause-links
returns-in-Some-clause-links g c =
    let has : HasKeyAt g.L.Keyed.key c.args.links.now.items (g.L.Keyed.key c.args.link) c.in-Some.place = rw c.deref.ensures.value at c.in-Some.ensures in
    merged_sets g.L.Keyed.key g.L.MergeLink.merged g.met.L.MergeLink.keeps_key c.args.links.now.items c.args.link c.args.order.now.items c.requires.sorted c.in-Some.place has c.index_mut.result.now c.merge.new.self c.index_mut.ensures.value c.merge.ensures

pub returns-in-None-clause-links : goal.returns-in-None-clause-links
returns-in-None-clause-links g c =
    let key = g.L.Keyed.key in
    let links = c.args.links.now.items in
    let none : HasNoKey key links (key c.args.link) = rw c.deref.ensures.value at c.in-None.ensures in
    subst (λ (ls : List g.row.L.Denot). Sets key (key c.args.link) (taken_in g.L.MergeLink.merged c.args.link (link_of key links (key c.args.link))) links ls) (sym c.add.ensures.links)
    (added_sets key g.L.MergeLink.merged g.met.L.MergeLink.keeps_key links c.args.link none)
