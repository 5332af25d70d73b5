use Rattle.std.proofs.Common.{◌≡◌, subst, sym, Some, None}
use Rattle.pool_index.specs.Links.{LinksState}
use Rattle.pool_index.specs.SortedLinks.{link_of, HasKeyAt, HasNoKey}
use Rattle.pool_index.proofs.LinkValues.{found_value, none_value}
use Rattle.pool_index.proofs.link_index.LinkIndex.find.Goals as goal

pub returns-in-Some-clause-value : goal.returns-in-Some-clause-value
returns-in-Some-clause-value g c =
    let key = g.L.Keyed.key in
    let sought = g.P.Keyed.key c.args.probe.now in
    let has : HasKeyAt key c.self.inside.links.items sought c.in-Some.place = rw c.deref.ensures.value at c.in-Some.ensures in
    subst (λ (s : LinksState g.row.L.Denot). Some c.index.result.now ≡ link_of key s.links sought) c.self.view_is
    (sym (found_value key c.self.inside.links.items c.self.inside.order.items c.self.invariant.sorted sought c.in-Some.place has c.index.result.now c.index.ensures))

pub returns-in-None-clause-value : goal.returns-in-None-clause-value
returns-in-None-clause-value g c =
    let key = g.L.Keyed.key in
    let sought = g.P.Keyed.key c.args.probe.now in
    let none : HasNoKey key c.self.inside.links.items sought = rw c.deref.ensures.value at c.in-None.ensures in
    subst (λ (s : LinksState g.row.L.Denot). None ≡ link_of key s.links sought) c.self.view_is (sym (none_value key c.self.inside.links.items sought none))
