-- No body has a float.
use Rattle.std.proofs.Common.{◌≡◌, ℕ, List, [], ◌∷◌, ◌++◌, false, refl}
use Rattle.std.specs.Prelude.{ℤ, pos, negsuc, map, Option, Some, None}
use Rattle.serde_json.specs.Data.{Data, string}
use Rattle.serde_json.specs.View.{items_of}
use Rattle.serde_json.specs.Written.{has_float, items_have_float}
use Rattle.json_values.specs.Values.{signed}
use Rattle.bot_core.specs.declared.action.End.{End}
use Rattle.bot_dimensions.specs.Groups.{groups_of, groups_with_bot}
use Rattle.bot_requests.specs.declared.hands.Hands.{Hands}
use Rattle.bot_requests.specs.Dimensions.{caches_group, dimension_data, dimensions_data}
use Rattle.bot_requests.specs.Bodies.{handshake_data, poll_data, claim_data, file_data, output_members, update_data}

signed_is_plain : (z : ℤ) → has_float (signed z) ≡ false
signed_is_plain (pos n) = refl
signed_is_plain (negsuc n) = refl

items_are_plain : {A : Type 0} (show : A → Data) → ((a : A) → has_float (show a) ≡ false) → (list : List A) → items_have_float (items_of (map show list)) ≡ false
items_are_plain show h [] = refl
items_are_plain show h (a ∷ list) = rw (h a, items_are_plain show h list) refl

dimension_is_plain : (group : List ℕ × List (List ℕ)) → has_float (dimension_data group) ≡ false
dimension_is_plain group = rw (items_are_plain string (λ _. refl) group.1) refl

dimensions_are_plain : (pairs : List (List ℕ × List ℕ)) (caches : List (List ℕ)) (id pool : List ℕ) → has_float (dimensions_data pairs caches id pool) ≡ false
dimensions_are_plain pairs caches id pool = items_are_plain dimension_data dimension_is_plain (groups_with_bot id pool (groups_of pairs ++ caches_group caches))

pub handshake_is_plain : (h : Hands) (caches : List (List ℕ)) (first session : ℕ) → has_float (handshake_data h caches first session) ≡ false
unfolding handshake_data
handshake_is_plain h caches first session = rw (dimensions_are_plain h.dims caches h.id h.pool) refl

pub poll_is_plain : (h : Hands) (caches : List (List ℕ)) → has_float (poll_data h caches) ≡ false
unfolding poll_data
poll_is_plain h caches = rw (dimensions_are_plain h.dims caches h.id h.pool) refl

pub claim_is_plain : (h : Hands) (first session claim : ℕ) → has_float (claim_data h first session claim) ≡ false
unfolding claim_data
claim_is_plain h first session claim = refl

pub update_is_plain : (h : Hands) (run : List ℕ) (start size : ℕ) (last : Option End) → has_float (update_data h run start size last) ≡ false
unfolding update_data output_members
update_is_plain h run start size None = refl
update_is_plain h run start size (Some end) = rw (signed_is_plain end.exit_code, items_are_plain file_data (λ file. refl) h.files) refl
