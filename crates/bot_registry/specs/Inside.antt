-- What a registry keeps, and what holds of it.
use Rattle.std.specs.Prelude.{◌≡◌, ℕ, ◌+◌, ◌<◌, ◌≤◌, List, map, length, None, IfSome, MatchOption, ⊤, vec_len, vec_capacity}
use Rattle.bot_registry.specs.Types.{BotRow, EntryKind}
use Rattle.swarm_model.specs.declared.entry.EntryKind.TheVariants as kind
use Rattle.swarm_model.specs.Numbers.{AreNumbered}
use Rattle.swarm_model.specs.Effects.{no_of_bot}
use Rattle.bot_registry.specs.declared.registry.Registry.TheInside.{Inside}
use Rattle.bot_registry.specs.Plain.{RegistryState}
use Rattle.bot_registry.specs.Acting.{row_of, row_named}
use Rattle.bot_registry.specs.Names.{name_of, AreByName}
use Rattle.bot_registry.specs.Demands.{AreCounted}

abbrev pub kept_of : Inside → RegistryState
kept_of registry = record { rows = registry.rows.items; ready = registry.ready; most = registry.most }

-- each list has room for one bot more, where there may be one
pub record HasPlaces (rows most row_len row_room number_len number_room : ℕ) : Type 0 where
  pub row : rows < most → row_len < row_room
  pub number : rows < most → number_len < number_room

-- the rows are as few as there may be and numbered by their places, the numbers are known by name, the
-- sets are counted, and where an entry is ready, there is room for it
pub record IsKept (registry : Inside) : Type 0 where
  pub few : length registry.rows.items ≤ registry.most
  pub numbered : AreNumbered no_of_bot 1 registry.rows.items
  pub named : AreByName (map no_of_bot registry.rows.items) (map name_of registry.rows.items) registry.by_name.items
  pub demands : AreCounted registry.rows.items registry.demands
  pub prepared : IfSome registry.ready (λ parts.
      HasPlaces (length registry.rows.items) registry.most (vec_len registry.rows) (vec_capacity registry.rows) (vec_len registry.by_name) (vec_capacity registry.by_name))

-- a new bot has the next number and a new name, and there is room for its number
pub record IsNextBot (rows : List BotRow) (len capacity number : ℕ) (name : List ℕ) : Type 0 where
  pub next : number ≡ length rows + 1
  pub fresh : row_named rows name ≡ None
  pub room : len < capacity

-- a handshake names a bot that is there, or the next one
abbrev pub FollowsIn : List BotRow → ℕ → ℕ → EntryKind → Type 0
FollowsIn rows len capacity (kind.Handshake b id session dims q) = MatchOption (row_of rows b) (IsNextBot rows len capacity b id) (λ bot. bot.name ≡ id)
FollowsIn rows len capacity entry = ⊤
