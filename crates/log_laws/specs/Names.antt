-- The numbers and the names of bots, as a log goes on.
use Rattle.std.specs.Prelude.{◌≡◌, ◌↔◌, ℕ, List, Option, Some, None}
use Rattle.std.specs.Option.{option_map}
use Rattle.log_laws.specs.Types.{BotRow, PoolState, Entry}
use Rattle.swarm_model.specs.Finding.{bot_of, bot_named}
use Rattle.swarm_model.specs.History.{replay, IsCaused}
use Rattle.swarm_model.specs.Soundness.{IsSound}

-- the name of the bot of a number
abbrev pub name_of : PoolState → ℕ → Option (List ℕ)
name_of s number = option_map (λ (bot : BotRow). bot.name) (bot_of s number)

-- a log leaves a bot its number and its name
abbrev pub NamesLast : Type 0
NamesLast =
    (base : PoolState) (log : List Entry) (number : ℕ) (name : List ℕ) → IsSound base → IsCaused base log
    → name_of base number ≡ Some name → name_of (replay base log) number ≡ Some name

-- the bot of a name is the one whose number has the name
abbrev pub NamesTellNumbers : Type 0
NamesTellNumbers =
    (s : PoolState) (number : ℕ) (name : List ℕ) → IsSound s
    → (option_map (λ (bot : BotRow). bot.no) (bot_named s name) ≡ Some number) ↔ (name_of s number ≡ Some name)

-- a bot whose name the base has not is none of the base's
abbrev pub NewNamesAreNew : Type 0
NewNamesAreNew =
    (base : PoolState) (log : List Entry) (number : ℕ) (name : List ℕ) → IsSound base → IsCaused base log
    → bot_named base name ≡ None → name_of (replay base log) number ≡ Some name → bot_of base number ≡ None
