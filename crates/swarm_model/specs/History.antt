-- Which logs a pool may have, and what they lead to.
use Rattle.std.specs.Prelude.{◌≡◌, ℕ, Bool, ◌+◌, ◌^◌, ◌≤◌, ◌&&◌, nat_lt, nat_le, min, max, IsTrue, List, [], ◌∷◌, length, map, Some, None, IsSomeAnd, ⊤}
use Rattle.std.specs.Bool.{MatchBool}
use Rattle.std.specs.List.{fold, sum_by, count_by}
use Rattle.swarm_model.specs.Types.{TaskState, Pending, Running, Expired, TimedOut, BotDied, Canceled, Completed, Killed, NoResource, PoolState, Entry}
use Rattle.swarm_model.specs.Finding.{has_state}
use Rattle.swarm_model.specs.Fits.{fits}
use Rattle.swarm_model.specs.Answers.{answer}
use Rattle.swarm_model.specs.Entries.{weight, is_deadline, asks, Asked}
use Rattle.swarm_model.specs.Effects.{after}
use Rattle.swarm_model.specs.Deadlines.{due_entry}
use Rattle.swarm_model.specs.StateWeight.{state_weight}

-- the pool after the entries
abbrev pub replay : PoolState → List Entry → PoolState
replay s entries = fold after s entries

-- the entry is that of the first deadline that has come at its moment
abbrev pub IsDue : PoolState → Entry → Type 0
IsDue s entry = due_entry s entry.moment entry.pass ≡ Some entry

-- nothing is due, the request may be asked, and its answer adds this very entry
pub record IsAnswered (s : PoolState) (entry : Entry) (asked : Asked) : Type 0 where
  pub nothing_due : due_entry s entry.moment entry.pass ≡ None
  pub may_ask : IsTrue (fits s.settings asked.request)
  pub gives : (answer s asked.who entry.moment entry.pass asked.request).entry ≡ Some entry

-- a deadline's entry is due; any other is answered to the request for which it stands
abbrev pub HasCause : PoolState → Entry → Type 0
HasCause s entry = MatchBool (is_deadline entry.kind) (IsDue s entry) (IsSomeAnd (asks s entry.kind) (IsAnswered s entry))

pub record MayFollow (s : PoolState) (entry : Entry) : Type 0 where
  pub not_before : s.last ≤ entry.moment
  pub not_late : entry.moment ≤ 2 ^ 40
  pub has_cause : HasCause s entry

-- each entry may follow those before it
abbrev pub IsCaused : PoolState → List Entry → Type 0
IsCaused s [] = ⊤
IsCaused s (entry ∷ entries) = MayFollow s entry × IsCaused (after s entry) entries

-- the log has no more entries, and together with the rows from which it begins no more weight, than the settings allow
pub record IsLegal (s : PoolState) (entries : List Entry) : Type 0 where
  pub caused : IsCaused s entries
  pub few : length entries ≤ s.settings.most_entries
  pub light : state_weight s + sum_by weight entries ≤ s.settings.most_weight

-- the log, which begins from these rows, has room for one entry more
abbrev pub has_room : PoolState → List Entry → Entry → Bool
has_room base log entry =
    nat_lt (length log) base.settings.most_entries && nat_le (state_weight base + sum_by weight log + weight entry) base.settings.most_weight

abbrev pub states : List TaskState
states = Pending ∷ Running ∷ Expired ∷ TimedOut ∷ BotDied ∷ Canceled ∷ Completed ∷ Killed ∷ NoResource ∷ []

abbrev pub count_in : PoolState → TaskState → ℕ
count_in s state = count_by (has_state state) s.tasks

-- how many tasks are in each state
abbrev pub tally : PoolState → List ℕ
tally s = map (count_in s) states

-- the moment of a call: never before the last entry's, and at most 2^40
abbrev pub moment_of : PoolState → ℕ → ℕ
moment_of s moment = max s.last (min moment (2 ^ 40))
