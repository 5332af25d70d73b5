use Rattle.std.proofs.Common.{◌≡◌, ℕ, List, [], ◌∷◌, ◌++◌, Some, String, Global, ◌∙◌, ap, sym}
use Rattle.lru.specs.LruCache.{LruCache, last_entry}
use Rattle.named_caches.specs.Caches.{by_bytes}
use Rattle.named_caches.proofs.Entries.{last_by_bytes}
use Rattle.named_caches.proofs.cache_table.take_last.Goals as goal

pub returns-clause-last : goal.returns-clause-last
returns-clause-last c =
    let old : List (String Global × ℕ) = c.args.caches.now.entries in
    let e : String Global × ℕ = (c.in_ok-name.name, c.in_ok-name.size) in
    let is : last_entry old ≡ Some e = sym c.pop_lru.ensures.value ∙ c.in_ok-name.was in
    last_by_bytes old e is
    ∙ ap (λ (l : LruCache (String Global) ℕ). by_bytes l.entries ++ (c.in_ok-name.name.bytes.items, c.in_ok-name.size) ∷ []) (sym c.pop_lru.ensures.entries)
    ∙ ap (λ (n : List ℕ). by_bytes c.pop_lru.new.self.entries ++ (n, c.in_ok-name.size) ∷ []) (sym c.from_string.ensures)
