-- A claim is told by its bot and its id as by its sort key.
use Rattle.std.proofs.Common.{ℕ, List, [], ◌∷◌, ap, get_or, Option, Some, None}
use Rattle.std.specs.Prelude.{IfSome}
use Rattle.pool_index.specs.declared.claim_link.ClaimLink.{ClaimLink}
use Rattle.pool_index.specs.SortedLinks.{Key, HasNoKey}
use Rattle.pool_index.specs.Claims.{key_of, sort_key, HasNone}

abbrev pub link_key : ClaimLink → Key
link_key link = sort_key (key_of link)

pub none_found : (links : List ClaimLink) (key : ℕ × List ℕ) → HasNoKey link_key links (sort_key key) → HasNone links key
none_found links key h = record { none = λ link among bot claim. h.none link among (λ i. (bot i ∷ [], claim i)) }

no_key : (links : List ClaimLink) (key : ℕ × List ℕ) → HasNone links key → HasNoKey link_key links (sort_key key)
no_key links key h = record { none = λ link among is. h.none link among (ap (λ (k : Key). get_or k.0 0 0) is) (ap (λ (k : Key). k.1) is) }

pub is_fresh : (ready : Option ClaimLink) (links : List ClaimLink) → IfSome ready (λ link. HasNone links (key_of link)) → IfSome ready (λ link. HasNoKey link_key links (link_key link))
is_fresh None links h = h
is_fresh (Some link) links h = no_key links (key_of link) h
