-- The claims that an index holds are those of the rows.
use Rattle.std.proofs.Common.{◌≡◌, ◌↔◌, ℕ, List, [], ◌∷◌, ◌++◌, refl, sym, ◌∙◌, subst, Option, Some, None, IfSome, MatchOption}
use Rattle.std.specs.Option.{option_map, option_and_then}
use Rattle.index_laws.specs.Types.{TaskRow, PoolState, EntryKind, ClaimLink}
use Rattle.swarm_model.specs.declared.entry.EntryKind.TheVariants as kind
use Rattle.swarm_model.specs.Finding.{task_of}
use Rattle.swarm_model.specs.Answers.{claimed, has_claim}
use Rattle.swarm_model.specs.Effects.{after}
use Rattle.swarm_model.specs.Soundness.{IsSound}
use Rattle.pool_laws.proofs.Lists.{Among, Found, find_is}
use Rattle.pool_laws.proofs.Preconditions.{Finds}
use Rattle.pool_laws.proofs.EntryPreconditions.{finds}
use Rattle.pool_laws.proofs.Rows.{find_task}
use Rattle.pool_laws.proofs.Claimed.{claim_keys, claim_found}
use Rattle.pool_index.specs.Claims.{HasClaim, HasNone, key_of, links_with}
use Rattle.index_laws.specs.Keys.{IsKnown}
use Rattle.index_laws.specs.TaskClaims.{Claimed, IsClaimOf, claim_to_come, claim_link, AreClaims, ClaimsFollow, ClaimsAreFresh, ClaimIsFound}
use Rattle.index_laws.proofs.Keys.{among_of, contains_of}
use Rattle.index_laws.proofs.KeysGrow.{claims_grow}
use Rattle.index_laws.proofs.KeyLinks.{links_follow}

-- ---- links

-- some link is that of the claim
abbrev pub Holds : List ClaimLink → Claimed → Type 0
Holds links c = Among (claim_link c) links

pub to_link : (links : List ClaimLink) (b : ℕ) (id : List ℕ) (n : ℕ) → HasClaim links (b, id) n → Holds links (b, id, n)
to_link links b id n h =
    let its : Claimed = (b, id, n) in
    let is : h.link ≡ claim_link its = λ i. let l : ClaimLink = record { bot = h.bot_is i; claim = h.claim_is i; task = h.task_is i } in l in
    subst (λ (l : ClaimLink). Among l links) is (among_of links h.link h.among)

pub of_link : (links : List ClaimLink) (b : ℕ) (id : List ℕ) (n : ℕ) → Holds links (b, id, n) → HasClaim links (b, id) n
of_link links b id n a = let its : Claimed = (b, id, n) in record { link = claim_link its; among = contains_of links (claim_link its) a; bot_is = refl; claim_is = refl; task_is = refl }

-- where a bot has no claim under an id, there is no link of one
none_holds : (links : List ClaimLink) (b : ℕ) (id : List ℕ) → HasNone links (b, id) → (n : ℕ) → Holds links (b, id, n) → ⊥
none_holds links b id h n a = let its : Claimed = (b, id, n) in h.none (claim_link its) (contains_of links (claim_link its) a) refl refl

pub none_from : (links : List ClaimLink) (b : ℕ) (id : List ℕ) → ((n : ℕ) → Holds links (b, id, n) → ⊥) → HasNone links (b, id)
none_from links b id h = record { none = λ link c e f. h link.task (to_link links b id link.task (record { link = link; among = c; bot_is = e; claim_is = f; task_is = refl })) }

-- the links with the one to come, by what comes
with_link : (come : Option Claimed) (old new : List ClaimLink) → new ≡ links_with (option_map claim_link come) old → MatchOption come (new ≡ old) (λ y. new ≡ old ++ claim_link y ∷ [])
with_link None old new e = e
with_link (Some y) old new e = e

-- what a link tells
abbrev pub claim_in_link : ClaimLink → Claimed
claim_in_link link = (link.bot, link.claim, link.task)

pub claims_follow : ClaimsFollow
claims_follow s e o follows old new are is = record { each = λ b id n. (λ h. (each (b, id, n)).0 (to_link new b id n h), λ k. of_link new b id n ((each (b, id, n)).1 k)) }
  where
    each : (c : Claimed) → Holds new c ↔ IsKnown IsClaimOf (after s e).tasks c
    each =
        links_follow claim_link claim_in_link (λ x. refl) (IsKnown IsClaimOf s.tasks) (IsKnown IsClaimOf (after s e).tasks) (claim_to_come e.kind) (claims_grow s e o follows) old new
        (λ c. (λ h. (are.each c.0 c.1 c.2).0 (of_link old c.0 c.1 c.2 h), λ k. to_link old c.0 c.1 c.2 ((are.each c.0 c.1 c.2).1 k)))
        (with_link (claim_to_come e.kind) old new is)

-- ---- rows

module _ (s : PoolState) (o : IsSound s) (links : List ClaimLink) (are : AreClaims links s.tasks) (b : ℕ) (id : List ℕ) where
  -- a link is that of the row that the bot claimed
  row_of_link : (n : ℕ) → HasClaim links (b, id) n → task_of s n ≡ claimed s b id
  row_of_link n h =
      let k : IsKnown IsClaimOf s.tasks (b, id, n) = (are.each b id n).0 h in
      let a : Among k.task s.tasks = among_of s.tasks k.task k.among in
      find_task s o k.task n a k.keyed.1 ∙ sym (claim_found s o b id k.task a k.keyed.0)

  -- and where there is none, the bot claimed none
  none_claimed : HasNone links (b, id) → claimed s b id ≡ None
  none_claimed none = by_found (claimed s b id) refl
    where
      by_found : (r : Option TaskRow) → claimed s b id ≡ r → r ≡ None
      by_found None g = refl
      by_found (Some x) g =
          (let f : Found (has_claim b id) s.tasks x = find_is (has_claim b id) s.tasks x g in
          let h : HasClaim links (b, id) x.no = (are.each b id x.no).1 (record { task = x; among = contains_of s.tasks x f.among; keyed = (claim_keys b id x f.passes, refl) }) in
          absurd (none_holds links b id none x.no (to_link links b id x.no h)))

  found_is : (found : Option ℕ) → MatchOption found (HasNone links (b, id)) (HasClaim links (b, id)) → option_and_then (task_of s) found ≡ claimed s b id
  found_is None none = sym (none_claimed none)
  found_is (Some n) h = row_of_link n h

  -- a claim that no row has has no link
  fresh_claim : claimed s b id ≡ None → HasNone links (b, id)
  fresh_claim g = none_from links b id (λ n a.
      let h : HasClaim links (b, id) n = of_link links b id n a in
      let k : IsKnown IsClaimOf s.tasks (b, id, n) = (are.each b id n).0 h in
      cc (g, claim_found s o b id k.task (among_of s.tasks k.task k.among) k.keyed.0))

pub claim_is_found : ClaimIsFound
claim_is_found s o links are b id found h = found_is s o links are b id found h

pub claims_are_fresh : ClaimsAreFresh
claims_are_fresh s e o follows links are = by_kind e.kind (finds s e follows)
  where
    by_kind : (k : EntryKind) → Finds s k → IfSome (option_map claim_link (claim_to_come k)) (λ link. HasNone links (key_of link))
    by_kind (kind.Claim b t id) f = fresh_claim s o links are b id (subst (λ (n : ℕ). claimed s n id ≡ None) f.named f.fresh)
    by_kind k f = tt
