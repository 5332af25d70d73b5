-- Logs of pools, and where they begin.
use Rattle.std.specs.Prelude.{ℕ, List, [], ◌∷◌, None, codes}
use Rattle.model_examples.specs.Types.{PoolSettings, Pending, EntryKind}
use Rattle.swarm_model.specs.declared.entry.Entry.{Entry}
use Rattle.swarm_model.specs.declared.entry.EntryKind.TheVariants as kind
use Rattle.swarm_model.specs.Bases.{Base, empty_base}
use Rattle.swarm_model.specs.Effects.{opening}
use Rattle.swarm_model.specs.History.{replay}
use Rattle.swarm_model.specs.Examples.{settings, small_task}

abbrev pub at_1000 : EntryKind → Entry
at_1000 what = record { moment = 1000; pass = 0; kind = what }

abbrev pub accepts : ℕ → Entry
accepts task = at_1000 (kind.New task (codes "ana") (small_task 600) Pending 0 None)

-- one task waits, and one that waited is canceled
abbrev pub one_of_two_canceled : List Entry
one_of_two_canceled = accepts 1 ∷ accepts 2 ∷ at_1000 (kind.Cancel 2) ∷ []

-- two pools, where their logs begin, and the logs: nothing led to the first, and seven entries to the rows of the second
abbrev pub two_pools : List PoolSettings
two_pools = settings ∷ record settings { name = codes "lab" } ∷ []

abbrev pub two_starts : List Base
two_starts = empty_base settings ∷ record { rows = replay (opening settings) one_of_two_canceled; count = 7 } ∷ []

abbrev pub two_logs : List (List Entry)
two_logs = one_of_two_canceled ∷ [] ∷ []
