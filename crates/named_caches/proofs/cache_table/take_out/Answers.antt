use Rattle.std.proofs.Common.{ℕ, String, Global, ◌∙◌, ap}
use Rattle.lru.specs.LruCache.{LruCache}
use Rattle.named_caches.specs.Caches.{by_bytes}
use Rattle.named_caches.proofs.Entries.{lookup_by_bytes, remove_by_bytes}
use Rattle.named_caches.proofs.cache_table.take_out.Goals as goal

pub returns-clause-size : goal.returns-clause-size
returns-clause-size c = c.pop.ensures.value ∙ lookup_by_bytes c.args.name.now c.args.caches.now.entries

pub returns-clause-rest : goal.returns-clause-rest
returns-clause-rest c =
    ap (λ (l : LruCache (String Global) ℕ). by_bytes l.entries) c.pop.ensures.entries ∙ remove_by_bytes c.args.name.now c.args.caches.now.entries
