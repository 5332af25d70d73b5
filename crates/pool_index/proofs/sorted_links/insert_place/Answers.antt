-- The closure tells whether the key of the link at a place is below.
use Rattle.std.proofs.Common.{rules}
use Rattle.std.proofs.lemmas.Fn.{always_returns_same}
use Rattle.pool_index.specs.SortedLinks.{is_before}
use Rattle.pool_index.proofs.sorted_links.insert_place.Goals as goal

pub returns : goal.returns
returns g c =
    c.insert_at_partition.ensures.items (is_before g.L.Keyed.key c.args.links.now (g.P.Keyed.key c.args.probe.now)) (always_returns_same _ _ _ (λ a r f called. (search rules, search rules)))
