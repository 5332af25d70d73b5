-- The closure tells whether the key of the link at a place is below.
use Rattle.std.proofs.Common.{◌≡◌, ℕ, Option, rules, subst, sym}
use Rattle.std.specs.Prelude.{slice_get}
use Rattle.std.proofs.lemmas.Fn.{always_returns_same}
use Rattle.block_list.specs.Partition.{AtPartition}
use Rattle.pool_index.specs.SortedLinks.{is_before}
use Rattle.pool_index.proofs.sorted_links.search.Goals as goal

pub returns : goal.returns
returns g c =
    let test = is_before g.L.Keyed.key c.args.links.now (g.P.Keyed.key c.args.probe.now) in
    subst (λ (at : Option ℕ). AtPartition test c.args.order.now.items (λ index. at ≡ slice_get c.args.order.now.items index)) (sym c.copied.ensures)
    (c.at_partition.ensures test (always_returns_same _ _ _ (λ a r f called. (search rules, search rules))))
