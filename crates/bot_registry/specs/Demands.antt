-- How many bots could run what a set of dimensions asks for, before, during and after an entry.
use Rattle.std.specs.Prelude.{◌≡◌, ℕ, Bool, true, false, ◌+◌, ◌-◌, ◌^◌, ◌<◌, ◌≤◌, List, Option, Some, None, vec_len, if◌then◌else◌}
use Rattle.std.specs.Bool.{OnTrue}
use Rattle.std.specs.List.{All, count_by}
use Rattle.std.specs.Option.{option_map_or, option_and_then}
use Rattle.std.specs.Cmp.Lexicographic.{pointwise}
use Rattle.bot_registry.specs.Types.{DimSet, BotDims, BotRow, EntryKind}
use Rattle.dimensions.specs.Alike.{same_pair}
use Rattle.dimensions.specs.Matching.{matches}
use Rattle.swarm_model.specs.declared.entry.EntryKind.TheVariants as kind
use Rattle.swarm_model.specs.Slices.{could_run}
use Rattle.swarm_model.specs.Effects.{bot_after}
use Rattle.bot_registry.specs.declared.demand.Demand.{Demand}
use Rattle.bot_registry.specs.declared.demand.Demands.{Demands}
use Rattle.bot_registry.specs.Acting.{row_of}

-- the count is that of the bots that are fit and match the set
abbrev pub IsCounted : List BotRow → Demand → Type 0
IsCounted rows demand = demand.count ≡ count_by (could_run demand.dims) rows

-- there are at most 1,024 sets, and one of their places is the next
pub record AreFew (demands : Demands) : Type 0 where
  pub sets : vec_len demands.sets ≤ 1024
  pub next : demands.next < 1024

-- what is known of the sets: they are few, and their counts are those of the rows
pub record AreCounted (rows : List BotRow) (demands : Demands) : Type 0 where
  pub few : AreFew demands
  pub counted : All (IsCounted rows) demands.sets.items

abbrev pub has_dims : DimSet → Demand → Bool
has_dims dims demand = pointwise same_pair demand.dims dims

-- ---- one bot more or less

-- a count that one bot of these dimensions more fits, or one less
abbrev pub CanRecount : BotDims → Bool → Demand → Type 0
CanRecount dims true demand = OnTrue (matches dims demand.dims) (demand.count + 1 < 2 ^ 32)
CanRecount dims false demand = OnTrue (matches dims demand.dims) (1 ≤ demand.count)

-- one bot more, or one less
abbrev pub count_after : Bool → ℕ → ℕ
count_after true count = count + 1
count_after false count = count - 1

-- the set, where a bot of these dimensions is one more or one less
abbrev pub recounted : BotDims → Bool → Demand → Demand
recounted dims more demand = if matches dims demand.dims then record demand { count = count_after more demand.count } else demand

-- ---- the bot that an entry changes

-- the number of the bot that an entry names
abbrev pub bot_of_entry : EntryKind → Option ℕ
bot_of_entry (kind.Dead b) = Some b
bot_of_entry (kind.Handshake b id session dims q) = Some b
bot_of_entry (kind.Poll b dims q hint) = Some b
bot_of_entry (kind.Claim b t claim) = Some b
bot_of_entry (kind.Contact b) = Some b
bot_of_entry (kind.Event b e text) = Some b
bot_of_entry (kind.Update b t try_no chunk last) = Some b
bot_of_entry (kind.Terminate b) = Some b
bot_of_entry entry = None

-- the row of that number
abbrev pub row_of_entry : EntryKind → List BotRow → Option BotRow
row_of_entry entry rows = option_and_then (row_of rows) (bot_of_entry entry)

-- one for a bot that is fit and matches the set
abbrev pub capable_one : DimSet → Option BotRow → ℕ
capable_one dims row = option_map_or (λ bot. if could_run dims bot then 1 else 0) row 0

-- one for a bot that matches the set
abbrev pub matching_one : DimSet → Option BotRow → ℕ
matching_one dims row = option_map_or (λ bot. if matches bot.dims dims then 1 else 0) row 0

-- the count is that of the rows without this one, or with it as a fit one where it is included
abbrev pub IsCountedBut : List BotRow → Option BotRow → Bool → Demand → Type 0
IsCountedBut rows row included demand =
    demand.count + capable_one demand.dims row ≡ count_by (could_run demand.dims) rows + (if included then matching_one demand.dims row else 0)

-- what is known of the sets while an entry changes a row
pub record AreCountedBut (rows : List BotRow) (row : Option BotRow) (included : Bool) (demands : Demands) : Type 0 where
  pub few : AreFew demands
  pub counted : All (IsCountedBut rows row included) demands.sets.items

-- the entry leaves the bot's dimensions
abbrev pub KeepsDims : EntryKind → BotRow → Type 0
KeepsDims entry bot = (moment : ℕ) → (bot_after moment entry bot).dims ≡ bot.dims

-- the count is so many, and one more where the bot is fit and matches the set
abbrev pub IsCountedWith : (DimSet → ℕ) → BotRow → Demand → Type 0
IsCountedWith others bot demand = demand.count ≡ others demand.dims + capable_one demand.dims (Some bot)

-- the count is large enough for the bot to be among those that are counted
abbrev pub MayInclude : BotRow → Demand → Type 0
MayInclude bot demand = capable_one demand.dims (Some bot) ≤ demand.count
