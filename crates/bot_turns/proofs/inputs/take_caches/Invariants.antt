use Rattle.std.proofs.Common.{◌≡◌, ◌++◌, drop}
use Rattle.bot_turns.specs.Inputs.{prepared_caches, without_caches}
use Rattle.bot_turns.proofs.inputs.take_caches.Given as goal

abbrev pub invariant-loop-cache : goal.invariant-loop-cache
invariant-loop-cache l =
    (l.prepared ++ prepared_caches (drop l.cache-index l.caches) l.table.entries ≡ prepared_caches l.caches l.initial.table.entries)
    × (without_caches (drop l.cache-index l.caches) l.table.entries ≡ without_caches l.caches l.initial.table.entries)
    × (l.table.most ≡ l.initial.table.most) × (l.table.most_bytes ≡ l.initial.table.most_bytes)
