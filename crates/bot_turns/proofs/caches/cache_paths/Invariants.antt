use Rattle.std.proofs.Common.{◌≡◌, map, take}
use Rattle.bot_turns.specs.CacheTurns.{cache_path}
use Rattle.bot_turns.proofs.caches.cache_paths.Given as goal

abbrev pub invariant-loop-cache : goal.invariant-loop-cache
invariant-loop-cache l = l.paths.items ≡ map cache_path (take l.cache-index l.caches)
