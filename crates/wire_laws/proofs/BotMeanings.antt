-- What the server reads in a bot's requests for work.
use Rattle.std.proofs.Common.{◌≡◌, ℕ, nat_lt, true, ◌-◌, List, [], Some, Ok, refl, ap, ◌∙◌}
use Rattle.std.specs.Prelude.{codes}
use Rattle.std.specs.Str.{IsUtf8}
use Rattle.serde_json.specs.Data.{string}
use Rattle.dimensions.specs.BotRules.{pool_of_bot}
use Rattle.swarm_model.specs.declared.request.Request.TheVariants as ask
use Rattle.json_fields.specs.Fields.{present, text_in, required_text_in, list_in, items_in, object_item, text_item}
use Rattle.bot_requests.specs.declared.hands.Hands.{Hands}
use Rattle.bot_requests.specs.Dimensions.{dimension_data}
use Rattle.bot_requests.specs.Bodies.{session_name, claim_name, handshake_data, poll_data, claim_data}
use Rattle.bot_bodies.specs.BotFields.{bot_pair_in, bot_info_in, bot_info_by, dims_of as dims_by}
use Rattle.bot_bodies.specs.BotCalls.{handshake_in, poll_in, claim_in}
use Rattle.swarm_wire.specs.Asking.{asked_of, object_in, object_of, named_of}
use Rattle.swarm_model.specs.Fits.{is_name}
use Rattle.json_fields.specs.Readings.{◌>>=◌}
use Rattle.wire_laws.specs.Fitting.{IsLong, FitsPair}
use Rattle.wire_laws.specs.Meant.{groups, dims_of, FitsServer, HandshakesAreMeant, PollsAreMeant, ClaimsAreMeant}
use Rattle.wire_laws.proofs.Readable.{IsReadable, are_readable, reading-compact_text}
use Rattle.wire_laws.proofs.MemberLemmas.{object_item_is, reads_list}
use Rattle.wire_laws.proofs.Names.{name_is, session_is_name, claim_is_name, session_utf8, claim_utf8}

-- ---- what a bot says of itself

group_readable : (n : ℕ) → nat_lt 0 n ≡ true → nat_lt 0 (n - 1) ≡ true → (pair : List ℕ × List (List ℕ)) → FitsPair pair → IsReadable n (dimension_data pair)
group_readable n outer inner pair h = (outer, refl, (h.0, ((inner, are_readable string IsUtf8 (n - 1 - 1) (λ _ fits. fits) pair.1 h.1), tt)))

group_is : (pair : List ℕ × List (List ℕ)) → FitsPair pair → bot_pair_in (dimension_data pair) ≡ Ok pair
unfolding bot_pair_in text_in items_in present
group_is pair h = rw (reads_list string text_item IsUtf8 (λ text fits place. refl) (codes "value") pair.1 h.1) refl

info_by : (h : Hands) (caches : List (List ℕ)) → FitsServer h caches → bot_info_by h.id (record { pairs = groups h caches; quarantined = [] }) ≡ Ok (record { dims = dims_of h caches; quarantined = [] })
unfolding bot_info_by dims_by
info_by h caches fits = rw fits.unbroken refl

-- ---- Handshake

handshake_readable : (h : Hands) (caches : List (List ℕ)) (first session : ℕ) → FitsServer h caches → IsLong first → IsLong session → IsReadable 127 (handshake_data h caches first session)
unfolding handshake_data
handshake_readable h caches first session fits f s =
    (refl, refl, (fits.text, ((refl, are_readable dimension_data FitsPair 125 (group_readable 125 refl refl) (groups h caches) fits.texts), (session_utf8 first session f s, tt))))

handshake_info : (h : Hands) (caches : List (List ℕ)) (first session : ℕ) → FitsServer h caches → bot_info_in (handshake_data h caches first session) ≡ Ok (record { pairs = groups h caches; quarantined = [] })
unfolding bot_info_in text_in list_in present handshake_data
handshake_info h caches first session fits =
    rw (reads_list dimension_data (object_item bot_pair_in) FitsPair (λ pair ok. object_item_is bot_pair_in _ pair (group_is pair ok)) (codes "dimensions") (groups h caches) fits.texts) refl

handshake_names : (h : Hands) (caches : List (List ℕ)) (first session : ℕ)
    → (required_text_in (codes "bot_id") (handshake_data h caches first session) ≡ Ok h.id) × (required_text_in (codes "session") (handshake_data h caches first session) ≡ Ok (session_name first session))
unfolding required_text_in present handshake_data
handshake_names h caches first session = (refl, refl)

handshake_is : (h : Hands) (caches : List (List ℕ)) (first session : ℕ) → FitsServer h caches → IsLong first → IsLong session
    → handshake_in (handshake_data h caches first session) ≡ Ok (record { pool = pool_of_bot (dims_of h caches); request = ask.Handshake h.id (session_name first session) (dims_of h caches) [] })
unfolding handshake_in
handshake_is h caches first session fits f s =
    let names = handshake_names h caches first session in
    rw (
      names.0,
      names.1,
      handshake_info h caches first session fits,
      name_is h.id fits.id,
      name_is (session_name first session) (session_is_name first session f s),
      info_by h caches fits,
    ) refl

handshake_object : (h : Hands) (caches : List (List ℕ)) (first session : ℕ) → object_of (Some (handshake_data h caches first session)) ≡ Ok (handshake_data h caches first session)
unfolding handshake_data
handshake_object h caches first session = refl

pub handshake_is_meant : HandshakesAreMeant
unfolding asked_of object_in named_of
handshake_is_meant h caches first session fits f s = λ settings parts.
    ap (λ o. object_of o >>= (λ d. named_of settings.pools (handshake_in d))) (reading-compact_text (handshake_data h caches first session) (handshake_readable h caches first session fits f s))
    ∙ ap (λ o. o >>= (λ d. named_of settings.pools (handshake_in d))) (handshake_object h caches first session)
    ∙ ap (named_of settings.pools) (handshake_is h caches first session fits f s)

-- ---- Poll

poll_readable : (h : Hands) (caches : List (List ℕ)) → FitsServer h caches → IsReadable 127 (poll_data h caches)
unfolding poll_data
poll_readable h caches fits = (refl, refl, (fits.text, ((refl, are_readable dimension_data FitsPair 125 (group_readable 125 refl refl) (groups h caches) fits.texts), tt)))

poll_info : (h : Hands) (caches : List (List ℕ)) → FitsServer h caches → bot_info_in (poll_data h caches) ≡ Ok (record { pairs = groups h caches; quarantined = [] })
unfolding bot_info_in text_in list_in present poll_data
poll_info h caches fits =
    rw (reads_list dimension_data (object_item bot_pair_in) FitsPair (λ pair ok. object_item_is bot_pair_in _ pair (group_is pair ok)) (codes "dimensions") (groups h caches) fits.texts) refl

poll_name : (h : Hands) (caches : List (List ℕ)) → required_text_in (codes "bot_id") (poll_data h caches) ≡ Ok h.id
unfolding required_text_in present poll_data
poll_name h caches = refl

poll_is : (h : Hands) (caches : List (List ℕ)) → FitsServer h caches → poll_in (poll_data h caches) ≡ Ok (record { pool = pool_of_bot (dims_of h caches); request = ask.Poll h.id (dims_of h caches) [] })
unfolding poll_in
poll_is h caches fits = rw (poll_name h caches, poll_info h caches fits, name_is h.id fits.id, info_by h caches fits) refl

poll_object : (h : Hands) (caches : List (List ℕ)) → object_of (Some (poll_data h caches)) ≡ Ok (poll_data h caches)
unfolding poll_data
poll_object h caches = refl

pub poll_is_meant : PollsAreMeant
unfolding asked_of object_in named_of
poll_is_meant h caches fits = λ settings parts.
    ap (λ o. object_of o >>= (λ d. named_of settings.pools (poll_in d))) (reading-compact_text (poll_data h caches) (poll_readable h caches fits))
    ∙ ap (λ o. o >>= (λ d. named_of settings.pools (poll_in d))) (poll_object h caches)
    ∙ ap (named_of settings.pools) (poll_is h caches fits)

-- ---- Claim

claim_readable : (h : Hands) (first session claim : ℕ) → IsUtf8 h.id → IsUtf8 h.pool → IsLong first → IsLong session → IsLong claim → IsReadable 127 (claim_data h first session claim)
unfolding claim_data
claim_readable h first session claim id pool f s c = (refl, refl, (id, (claim_utf8 first session claim f s c, (pool, tt))))

claim_names : (h : Hands) (first session claim : ℕ)
    → (required_text_in (codes "pool") (claim_data h first session claim) ≡ Ok h.pool) × (required_text_in (codes "bot_id") (claim_data h first session claim) ≡ Ok h.id)
    × (required_text_in (codes "claim_id") (claim_data h first session claim) ≡ Ok (claim_name first session claim))
unfolding required_text_in present claim_data
claim_names h first session claim = (refl, refl, refl)

claim_is : (h : Hands) (first session claim : ℕ) → is_name h.id ≡ true → IsLong first → IsLong session → IsLong claim
    → claim_in (claim_data h first session claim) ≡ Ok (record { pool = h.pool; request = ask.Claim h.id (claim_name first session claim) })
unfolding claim_in
claim_is h first session claim id f s c =
    let names = claim_names h first session claim in
    rw (names.0, names.1, names.2, name_is h.id id, name_is (claim_name first session claim) (claim_is_name first session claim f s c)) refl

claim_object : (h : Hands) (first session claim : ℕ) → object_of (Some (claim_data h first session claim)) ≡ Ok (claim_data h first session claim)
unfolding claim_data
claim_object h first session claim = refl

pub claim_is_meant : ClaimsAreMeant
unfolding asked_of object_in named_of
claim_is_meant h first session claim id text pool f s c = λ settings parts.
    ap (λ o. object_of o >>= (λ d. named_of settings.pools (claim_in d))) (reading-compact_text (claim_data h first session claim) (claim_readable h first session claim text pool f s c))
    ∙ ap (λ o. o >>= (λ d. named_of settings.pools (claim_in d))) (claim_object h first session claim)
    ∙ ap (named_of settings.pools) (claim_is h first session claim id f s c)
