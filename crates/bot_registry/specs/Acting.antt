-- What an entry does to the rows, and what it needs of them.
use Rattle.std.specs.Prelude.{◌≡◌, ℕ, ◌+◌, ◌<◌, List, length, Option, None, MatchOption, slice_get, ⊤}
use Rattle.std.specs.List.{find}
use Rattle.bot_registry.specs.Types.{BotRow, EntryKind}
use Rattle.swarm_model.specs.declared.pool_state.PoolState.{PoolState}
use Rattle.swarm_model.specs.declared.entry.Entry.{Entry}
use Rattle.swarm_model.specs.declared.entry.EntryKind.TheVariants as kind
use Rattle.swarm_model.specs.Finding.{is_bot, is_called}
use Rattle.swarm_model.specs.Pages.{listed_bots}
use Rattle.swarm_model.specs.Effects.{after}
use Rattle.bot_registry.specs.Plain.{RegistryState}

-- the row of a number
abbrev pub row_of : List BotRow → ℕ → Option BotRow
row_of rows number = find (is_bot number) rows

-- the row of a name
abbrev pub row_named : List BotRow → List ℕ → Option BotRow
row_named rows name = find (is_called name) rows

-- the row is the first that a page after the name shows, of every pool that has these rows
abbrev pub IsNextAfter : List BotRow → List ℕ → Option BotRow → Type 0
IsNextAfter rows name row = (s : PoolState) → s.bots ≡ rows → row ≡ slice_get (listed_bots s name) 0

-- the rows after the entry are those of every pool that had the rows before it
abbrev pub IsAfter : List BotRow → Entry → List BotRow → Type 0
IsAfter old entry new = (s : PoolState) → s.bots ≡ old → new ≡ (after s entry).bots

-- a bot that comes for the first time has the next number and a new name, and may come
pub record IsNewBot (kept : RegistryState) (number : ℕ) (name : List ℕ) : Type 0 where
  pub next : number ≡ length kept.rows + 1
  pub fresh : row_named kept.rows name ≡ None
  pub few : length kept.rows < kept.most

-- the bot of the number has the name, or there is none, and it is new
abbrev pub Greets : RegistryState → ℕ → List ℕ → Type 0
Greets kept number name = MatchOption (row_of kept.rows number) (IsNewBot kept number name) (λ bot. bot.name ≡ name)

-- what an entry needs of the rows: a handshake greets, and any other needs nothing
abbrev pub Follows : RegistryState → EntryKind → Type 0
Follows kept (kind.Handshake b id session dims q) = Greets kept b id
Follows kept entry = ⊤
