-- The first of the bots that are listed is the one with the lowest name after the name that is given.
use Rattle.std.proofs.Common.{◌≡◌, ℕ, List, None}
use Rattle.std.specs.List.{filter, fold, slice_get}
use Rattle.std.specs.Cmp.{IsStrictWeakOrder}
use Rattle.dimensions.specs.Order.{is_text_below, sorted_by}
use Rattle.dimensions.proofs.Orders.{text_order}
use Rattle.swarm_model.specs.declared.bot_row.BotRow.{BotRow}
use Rattle.swarm_model.specs.Pages.{is_named_before, is_after}
use Rattle.swarm_plain.specs.Lowest.{lower}
use Rattle.pool_queries.proofs.Sorted.{below-trans}
use Rattle.swarm_plain.proofs.Lowest.{first-sorted_by}

name_order : IsStrictWeakOrder is_named_before
name_order =
    record {
      one_way = λ a b low. text_order.one_way a.name b.name low;
      chain = λ a b c low next. text_order.chain a.name b.name c.name low next;
    }

pub first_listed : (name : List ℕ) (bots : List BotRow) →
    slice_get (filter (is_after name) (sorted_by is_named_before bots)) 0 ≡ fold (lower is_named_before) None (filter (is_after name) bots)
first_listed name bots =
    first-sorted_by is_named_before name_order (is_after name) (λ a b low next. below-trans is_text_below text_order name a.name b.name low next) bots
