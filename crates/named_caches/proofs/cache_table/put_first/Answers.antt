use Rattle.std.proofs.Common.{◌-◌, ◌≤◌, ◌∙◌, ap, length, arith, ℕ, String, Global}
use Rattle.lru.specs.LruCache.{LruCache}
use Rattle.named_caches.specs.Caches.{by_bytes}
use Rattle.named_caches.proofs.Entries.{put_by_bytes}
use Rattle.named_caches.proofs.cache_table.put_first.Goals as goal

pub returns-in-Ok-clause-ok : goal.returns-in-Ok-clause-ok
returns-in-Ok-clause-ok c =
    let fits : length c.args.caches.now.entries ≤ c.args.caches.now.cap - 1 = omega (arith, c.len-fits.ensures.len, c.len-fits.ensures.fits, c.requires.roomy) in
    ap (λ (l : LruCache (String Global) ℕ). by_bytes l.entries) c.in-Ok.ensures.entries ∙ put_by_bytes c.args.caches.now c.args.name c.args.size fits
