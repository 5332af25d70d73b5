use Rattle.std.proofs.Common.{[], ◌∷◌, ◌++◌, map, Some, ap, ◌∙◌, rules}
use Rattle.std.proofs.lemmas.List.{map-append}
use Rattle.std.specs.String.{string_bytes}
use Rattle.sw_base.proofs.Taking.{share_taken}
use Rattle.sw_base.proofs.memory_listener.MemoryListenerListener.listen.Goals as goal

pub returns : goal.returns
returns c = record {
  number = c.in_ok-given.ensures.given.number;
  fresh = c.in_ok-given.ensures.given.fresh;
  shared = share_taken c.in_ok-given.ensures.given;
  listened = ap Some (ap (map string_bytes) (c.push_reserved.ensures.items ∙ ap (λ l. l ++ c.in_ok-name.name ∷ []) c.reserve-2.ensures.items)
      ∙ map-append string_bytes c.args.self.now.listened.items (c.in_ok-name.name ∷ [])
      ∙ ap (λ b. map string_bytes c.args.self.now.listened.items ++ b ∷ []) (search rules));
  out = search rules;
  faults = search rules;
  ended = search rules;
}
