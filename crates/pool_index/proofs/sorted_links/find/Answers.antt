use Rattle.std.proofs.Common.{None, Some, ap, sym, ◌∙◌}
use Rattle.std.specs.Ordering.{is_eq}
use Rattle.pool_index.proofs.LinkSearch.{found, none_found}
use Rattle.pool_index.proofs.sorted_links.find.Goals as goal

pub returns-in-None : goal.returns-in-None
returns-in-None g c = none_found g.L.Keyed.key c.args.links.now c.args.order.now.items c.requires (g.P.Keyed.key c.args.probe.now) None c.in-None.ensures tt

pub returns-then-is_eq : goal.returns-then-is_eq
returns-then-is_eq g c = found g.L.Keyed.key c.args.links.now (g.P.Keyed.key c.args.probe.now) c.in-Some.place (sym (c.if-is_eq.ensures ∙ ap is_eq c.compare_at.ensures))

pub returns-else-is_eq : goal.returns-else-is_eq
returns-else-is_eq g c =
    none_found g.L.Keyed.key c.args.links.now c.args.order.now.items c.requires (g.P.Keyed.key c.args.probe.now) (Some c.in-Some.place) c.in-Some.ensures
    (sym (c.if-is_eq.ensures ∙ ap is_eq c.compare_at.ensures))
