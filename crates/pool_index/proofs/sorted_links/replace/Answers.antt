use Rattle.std.proofs.Common.{ap, set, subst, sym, ◌∙◌}
use mathlib.Core.Bool.{true≢false}
use Rattle.std.specs.Prelude.{is_some}
use Rattle.pool_index.specs.SortedLinks.{Sets}
use Rattle.pool_index.proofs.LinkValues.{none_value, set_sets, set_sorted}
use Rattle.pool_index.proofs.sorted_links.replace.Goals as goal

pub unreachable-requires : goal.unreachable-requires
unreachable-requires g c = true≢false (sym c.requires.there ∙ ap is_some (none_value g.L.Keyed.key c.args.links.now (g.L.Keyed.key c.args.link) c.in-None.ensures))

pub returns-clause-sorted : goal.returns-clause-sorted
returns-clause-sorted g c =
    set_sorted g.L.Keyed.key c.args.links.now c.args.order.now.items c.requires.sorted (g.L.Keyed.key c.args.link) c.in-Some.place c.in-Some.ensures c.replace.new.dest (ap g.L.Keyed.key c.replace.ensures.after)

pub returns-clause-links : goal.returns-clause-links
returns-clause-links g c =
    subst (λ (l : g.row.L.Denot). Sets g.L.Keyed.key (g.L.Keyed.key c.args.link) l c.args.links.now (set c.args.links.now c.in-Some.place c.replace.new.dest)) c.replace.ensures.after
    (set_sets g.L.Keyed.key c.args.links.now c.args.order.now.items c.requires.sorted (g.L.Keyed.key c.args.link) c.in-Some.place c.in-Some.ensures c.replace.new.dest (ap g.L.Keyed.key c.replace.ensures.after))
