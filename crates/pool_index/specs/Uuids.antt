-- The tasks that were sent under uuids, found by creator and uuid.
use Rattle.std.specs.Prelude.{◌≡◌, ℕ, List}
use Rattle.std.specs.List.{Contains}
use Rattle.pool_index.specs.declared.uuid_link.UuidLink.{UuidLink}
use Rattle.pool_index.specs.Links.{LinksState}
pub use Rattle.pool_index.specs.Links.{links_with}

-- all links in the order in which they came, and the one that is made ready
abbrev pub UuidIndexState : Type 0
UuidIndexState = LinksState UuidLink

-- what a link is found by: the creator, and the uuid
abbrev pub key_of : UuidLink → List ℕ × List ℕ
key_of link = (link.creator, link.uuid)

-- the creator sent the task under the uuid
pub record HasUuid (links : List UuidLink) (key : List ℕ × List ℕ) (number : ℕ) : Type 0 where
  pub link : UuidLink
  pub among : Contains links link
  pub creator_is : link.creator ≡ key.0
  pub uuid_is : link.uuid ≡ key.1
  pub task_is : link.task ≡ number

-- the creator sent nothing under the uuid
pub record HasNone (links : List UuidLink) (key : List ℕ × List ℕ) : Type 0 where
  pub none : (link : UuidLink) → Contains links link → link.creator ≡ key.0 → link.uuid ≡ key.1 → ⊥
