-- CleanUp: the runner moves the caches back, and the table takes them in and is trimmed.
use Rattle.std.specs.Prelude.{◌≡◌, ℕ, ◌-◌, ◌&&◌, nat_le, Bool, true, false, List, [], ◌∷◌, length, map, Option, Some, None, Result, Ok, Err, if◌then◌else◌}
use Rattle.std.specs.Map.{remove_entry}
use Rattle.std.specs.Str.{bytes_eq}
use Rattle.bot_turns.specs.Types.{Cache, Properties, StartFault, BotEvent, Hands}
use Rattle.sw_base.specs.declared.start_fault.StartFault.TheVariants as start
use Rattle.named_caches.specs.Caches.{Caches}
use Rattle.runners.specs.declared.cache.CachePath.{CachePath}
use Rattle.runners.specs.declared.call.RunnerCall.TheVariants as call
use Rattle.runners.specs.Calls.{RunnerState, Performs, Cleans}
use Rattle.bot_core.specs.declared.bot_event.BotEvent.TheVariants as event
use Rattle.bot_turns.specs.ServerTurns.{AreCacheNames, OfRun}

-- ---- the table

-- as many of the first as both limits allow
abbrev pub kept_entries : ℕ → ℕ → List (List ℕ × ℕ) → List (List ℕ × ℕ)
kept_entries most bytes [] = []
kept_entries most bytes (e ∷ es) = if nat_le 1 most && nat_le e.1 bytes then e ∷ kept_entries (most - 1) (bytes - e.1) es else []

-- those that were used the longest ago left it, until both limits held
abbrev pub trimmed : Caches → Caches
trimmed c = record c { entries = kept_entries c.most c.most_bytes c.entries }

-- the cache was put first, in place of one of its name, and the table was trimmed
abbrev pub with_cache : List ℕ → ℕ → Caches → Caches
with_cache name size c = trimmed (record c { entries = (name, size) ∷ remove_entry (bytes_eq name) c.entries })

-- the caches were given back one by one, with their sizes
abbrev pub with_caches : List Cache → List ℕ → Caches → Caches
with_caches [] sizes c = c
with_caches (cache ∷ caches) [] c = c
with_caches (cache ∷ caches) (size ∷ sizes) c = with_caches caches sizes (with_cache cache.name size c)

-- ---- the calls

abbrev pub cache_path : Cache → CachePath
cache_path c = record { name = c.name; path = c.path }

-- None: there was no memory
abbrev pub clean_event : Result (List ℕ) StartFault → Option BotEvent
clean_event (Ok sizes) = Some event.Cleaned
clean_event (Err start.Failed) = Some event.RunnerFailed
clean_event (Err start.Memory) = None

-- caches that couldn't be moved back are gone
abbrev pub after_clean : Result (List ℕ) StartFault → List Cache → Caches → Caches
after_clean (Ok sizes) caches c = with_caches caches sizes c
after_clean (Err fault) caches c = c

abbrev pub had_memory : Result (Unit {0}) StartFault → Bool
had_memory (Err start.Memory) = false
had_memory answer = true

-- the runner was told which caches to keep: those of the table. That it fails changes nothing
pub record KeepsTable (c : Caches) (before after : RunnerState) : Type 0 where
  pub caches : List (List ℕ)
  pub answer : Result (Unit {0}) StartFault
  pub names : AreCacheNames c caches
  pub keeps : Performs answer before after (call.Keep caches)
  pub memory : had_memory answer ≡ true

-- only where the caches were moved back
abbrev pub KeepsAfter : Result (List ℕ) StartFault → Caches → RunnerState → RunnerState → Type 0
KeepsAfter (Ok sizes) c before after = KeepsTable c before after
KeepsAfter (Err fault) c before after = after ≡ before

-- ---- the turn

pub record CleansRun (p : Properties) (h : Hands) (e : BotEvent) (before after : RunnerState) (h2 : Hands) : Type 0 where
  pub answer : Result (List ℕ) StartFault
  pub mid : RunnerState
  pub cleans : Cleans answer (length p.caches) before mid (call.Clean (map cache_path p.caches))
  pub event : clean_event answer ≡ Some e
  pub hands : h2 ≡ record h { caches = after_clean answer p.caches h.caches }
  pub keeps : KeepsAfter answer h2.caches mid after

abbrev pub IsCleanUpTurn : Hands → BotEvent → RunnerState → RunnerState → Hands → Type 0
IsCleanUpTurn h e before after h2 = OfRun h.run (λ run p. CleansRun p h e before after h2)
