-- A merged link is the note of a task under its hash.
use Rattle.std.proofs.Common.{◌≡◌, ℕ, List, ap, refl, ◌∙◌, Option, Some, None}
use Rattle.std.specs.Option.{option_map}
use Rattle.pool_index.specs.declared.source_link.SourceLink.{SourceLink}
use Rattle.pool_index.specs.SortedLinks.{Key, digest_key, link_of, taken_in}
use Rattle.pool_index.specs.Links.{IsMerged}
use Rattle.pool_index.specs.Sources.{key_of, newer, greater_of, AreWith}

greater : (source : SourceLink) (found : Option SourceLink) → (taken_in newer source found).task ≡ greater_of (option_map (λ link. link.task) found) source.task
greater source None = refl
greater source (Some link) = refl

pub are_with : (ready : Option SourceLink) (old new : List SourceLink) → IsMerged key_of newer ready old new → AreWith ready old new
are_with None old new h = h
are_with (Some source) old new h = record {
  own =
      ap (option_map (λ (link : SourceLink). link.task)) h.own
      ∙ ap (λ (n : ℕ). Some n) (greater source (link_of key_of old (key_of source)));
  others = λ hash differs. ap (option_map (λ (link : SourceLink). link.task)) (h.others (digest_key hash) (λ is. differs (ap (λ (k : Key). k.1) is)));
}
