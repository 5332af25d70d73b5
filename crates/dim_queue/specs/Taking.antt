-- Which bot may take a task of a queue.
use Rattle.std.specs.Prelude.{ℕ, Bool, false, ◌==◌, ◌&&◌, not, Option}
use Rattle.std.specs.Option.{option_map_or}
use Rattle.dimensions.specs.declared.dim_set.DimSet.{DimSet}
use Rattle.dimensions.specs.declared.bot_dims.BotDims.{BotDims}
use Rattle.dimensions.specs.Matching.{matches}
use Rattle.dim_queue.specs.declared.queue_set.QueueSet.{QueueSet}

-- a bot that asks for a task: its number and its dimensions
pub record Taker : Type 0 where
  pub no : ℕ
  pub dims : BotDims

abbrev pub taker : ℕ → BotDims → Taker
taker number dims = record { no = number; dims = dims }

-- these dimensions, and the bot that is kept out, where there is one
abbrev pub set_with : DimSet → Option ℕ → QueueSet
set_with dims but = record { dims = dims; but = but }

-- the queue is kept from the bot
abbrev pub is_kept_out : ℕ → QueueSet → Bool
is_kept_out number set = option_map_or (λ but. but == number) set.but false

-- the bot matches the dimensions, and the queue is not kept from it
abbrev pub may_take : Taker → QueueSet → Bool
may_take bot set = not (is_kept_out bot.no set) && matches bot.dims set.dims
