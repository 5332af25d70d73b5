-- The tasks that bots claimed, found by bot and id.
use Rattle.std.specs.Prelude.{◌≡◌, ℕ, List, [], ◌∷◌}
use Rattle.std.specs.List.{Contains}
use Rattle.pool_index.specs.declared.claim_link.ClaimLink.{ClaimLink}
use Rattle.pool_index.specs.Links.{LinksState}
pub use Rattle.pool_index.specs.Links.{links_with}
use Rattle.pool_index.specs.SortedLinks.{Key}

-- all links in the order in which they came, and the one that is made ready
abbrev pub ClaimIndexState : Type 0
ClaimIndexState = LinksState ClaimLink

-- what a link is found by: the bot, and the id of its claim
abbrev pub key_of : ClaimLink → ℕ × List ℕ
key_of link = (link.bot, link.claim)

-- links are sorted by bot, then id: a bot's number counts as a text of one byte
abbrev pub sort_key : ℕ × List ℕ → Key
sort_key key = (key.0 ∷ [], key.1)

-- the bot claimed the task under the id
pub record HasClaim (links : List ClaimLink) (key : ℕ × List ℕ) (number : ℕ) : Type 0 where
  pub link : ClaimLink
  pub among : Contains links link
  pub bot_is : link.bot ≡ key.0
  pub claim_is : link.claim ≡ key.1
  pub task_is : link.task ≡ number

-- the bot claimed nothing under the id
pub record HasNone (links : List ClaimLink) (key : ℕ × List ℕ) : Type 0 where
  pub none : (link : ClaimLink) → Contains links link → link.bot ≡ key.0 → link.claim ≡ key.1 → ⊥
