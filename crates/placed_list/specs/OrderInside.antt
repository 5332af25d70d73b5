-- What an order keeps, and what holds of it.
use Rattle.std.specs.Prelude.{◌≡◌, ◌*◌, ◌^◌, ◌<◌, length}
use Rattle.placed_list.specs.declared.order.Order.TheInside.{Inside}
use Rattle.placed_list.specs.declared.order.TheConstants.{BLOCK}
use Rattle.placed_list.specs.Plain.{OrderState}
use Rattle.placed_list.specs.Blocks.{places_in, AreFilled, HaveRoom}

abbrev pub order_of : Inside → OrderState
order_of order = record { items = places_in order.blocks.items; room = BLOCK * length order.blocks.items }

pub record AreBlocks (order : Inside) : Type 0 where
  pub count : order.len ≡ length (places_in order.blocks.items)
  pub filled : AreFilled order.len order.blocks.items
  pub room : HaveRoom order.blocks.items
  pub few : BLOCK * length order.blocks.items < 2 ^ 33
