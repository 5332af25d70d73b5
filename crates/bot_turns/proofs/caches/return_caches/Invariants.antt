use Rattle.std.proofs.Common.{◌≡◌, drop}
use Rattle.bot_turns.specs.CacheTurns.{with_caches}
use Rattle.bot_turns.proofs.caches.return_caches.Given as goal

abbrev pub invariant-loop-at : goal.invariant-loop-at
invariant-loop-at l = with_caches (drop l.at l.caches) (drop l.at l.sizes) l.table ≡ with_caches l.caches l.sizes l.initial.table
