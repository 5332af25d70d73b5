use Rattle.std.proofs.Common.{◌≡◌, ◌+◌, ◌≤◌}
use Rattle.named_caches.specs.Caches.{bytes_of, by_bytes}
use Rattle.named_caches.proofs.cache_table.sizes_fit.Given as goal

abbrev pub invariant-loop-size : goal.invariant-loop-size
invariant-loop-size l = (l.sum + bytes_of (by_bytes l.size-iterator) ≡ bytes_of (by_bytes l.fn.caches.entries)) × (l.sum ≤ l.most)
