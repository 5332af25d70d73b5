use Rattle.std.proofs.Common.{◌≡◌, ◌++◌}
use Rattle.named_caches.specs.Caches.{names_of, by_bytes}
use Rattle.named_caches.proofs.cache_table.copy_names.Given as goal

abbrev pub invariant-loop-name : goal.invariant-loop-name
invariant-loop-name l = l.names ++ names_of (by_bytes l.name-iterator) ≡ names_of (by_bytes l.fn.caches.entries)
