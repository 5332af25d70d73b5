-- The claims of a pool's tasks.
use Rattle.std.specs.Prelude.{◌≡◌, ◌↔◌, ℕ, List, Option, Some, None, IfSome, MatchOption}
use Rattle.std.specs.Option.{option_map, option_and_then}
use Rattle.index_laws.specs.Types.{TaskRow, PoolState, Entry, EntryKind, ClaimLink}
use Rattle.swarm_model.specs.declared.entry.EntryKind.TheVariants as kind
use Rattle.swarm_model.specs.Finding.{task_of}
use Rattle.swarm_model.specs.Answers.{claimed}
use Rattle.swarm_model.specs.Effects.{after}
use Rattle.swarm_model.specs.History.{MayFollow}
use Rattle.swarm_model.specs.Soundness.{IsSound, HasKey}
use Rattle.pool_index.specs.Claims.{HasClaim, HasNone, key_of, links_with}
use Rattle.index_laws.specs.Keys.{IsKnown}

-- a bot, the id of its claim, and the number of the task
abbrev pub Claimed : Type 0
Claimed = ℕ × List ℕ × ℕ

-- the claim of a run of the task: of its last one, or of the one that was tried again
abbrev pub IsClaimOf : TaskRow → Claimed → Type 0
IsClaimOf task c = HasKey task (c.0, c.1) × (task.no ≡ c.2)

-- the claim that an entry makes
abbrev pub claim_to_come : EntryKind → Option Claimed
claim_to_come (kind.Claim b t claim) = Some (b, claim, t)
claim_to_come entry = None

-- the link of a claim
abbrev pub claim_link : Claimed → ClaimLink
claim_link c = record { bot = c.0; claim = c.1; task = c.2 }

-- the link that an entry adds
abbrev pub claim_link_to_come : EntryKind → Option ClaimLink
claim_link_to_come k = option_map claim_link (claim_to_come k)

-- the links are the claims of the rows
pub record AreClaims (links : List ClaimLink) (tasks : List TaskRow) : Type 0 where
  pub each : (b : ℕ) (id : List ℕ) (n : ℕ) → HasClaim links (b, id) n ↔ IsKnown IsClaimOf tasks (b, id, n)

-- after an entry only the claim that it makes has to be added
abbrev pub ClaimsFollow : Type 0
ClaimsFollow =
    (s : PoolState) (e : Entry) → IsSound s → MayFollow s e → (old new : List ClaimLink) → AreClaims old s.tasks → new ≡ links_with (claim_link_to_come e.kind) old →
    AreClaims new (after s e).tasks

-- the claim that an entry makes is a new one
abbrev pub ClaimsAreFresh : Type 0
ClaimsAreFresh =
    (s : PoolState) (e : Entry) → IsSound s → MayFollow s e → (links : List ClaimLink) → AreClaims links s.tasks →
    IfSome (claim_link_to_come e.kind) (λ link. HasNone links (key_of link))

-- the task that is found by a bot and an id is the one that the bot claimed under the id
abbrev pub ClaimIsFound : Type 0
ClaimIsFound =
    (s : PoolState) → IsSound s → (links : List ClaimLink) → AreClaims links s.tasks → (b : ℕ) (id : List ℕ) (found : Option ℕ) →
    MatchOption found (HasNone links (b, id)) (HasClaim links (b, id)) → option_and_then (task_of s) found ≡ claimed s b id
