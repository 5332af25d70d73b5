use Rattle.std.proofs.Common.{◌≡◌, length}
use Rattle.bot_turns.specs.CacheTurns.{kept_entries}
use Rattle.bot_turns.proofs.caches.trim.Given as goal

abbrev pub invariant-loop : goal.invariant-loop
invariant-loop l =
    (kept_entries l.table.most l.table.most_bytes l.table.entries ≡ kept_entries l.initial.table.most l.initial.table.most_bytes l.initial.table.entries)
    × (l.table.most ≡ l.initial.table.most) × (l.table.most_bytes ≡ l.initial.table.most_bytes)

abbrev pub decreases-loop : goal.decreases-loop
decreases-loop l = length l.table.entries
