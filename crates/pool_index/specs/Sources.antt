-- The newest task of each hash whose outcome others may take.
use Rattle.std.specs.Prelude.{◌≡◌, ◌≢◌, ℕ, nat_lt, List, Option, Some, None, if◌then◌else◌}
use Rattle.std.specs.List.{find}
use Rattle.std.specs.Option.{option_map}
use Rattle.dimensions.specs.Alike.{same}
use Rattle.pool_index.specs.declared.source_link.SourceLink.{SourceLink}
use Rattle.pool_index.specs.Links.{LinksState}
use Rattle.pool_index.specs.SortedLinks.{Key, digest_key}

-- one link for each hash that was noted, and the one that is made ready
abbrev pub SourceIndexState : Type 0
SourceIndexState = LinksState SourceLink

-- the greatest number that was noted under a hash
abbrev pub newest_in : List SourceLink → List ℕ → Option ℕ
newest_in links hash = option_map (λ link. link.task) (find (λ link. same link.hash hash) links)

-- the greater of two numbers, where there is a first
abbrev pub greater_of : Option ℕ → ℕ → ℕ
greater_of None task = task
greater_of (Some newest) task = if nat_lt newest task then task else newest

-- the task of a link is noted under its hash, and other hashes stay
pub record IsNoted (source : SourceLink) (old new : List SourceLink) : Type 0 where
  pub own : newest_in new source.hash ≡ Some (greater_of (newest_in old source.hash) source.task)
  pub others : (hash : List ℕ) → hash ≢ source.hash → newest_in new hash ≡ newest_in old hash

-- what is ready is noted, if there is something
abbrev pub AreWith : Option SourceLink → List SourceLink → List SourceLink → Type 0
AreWith None old new = new ≡ old
AreWith (Some source) old new = IsNoted source old new

abbrev pub key_of : SourceLink → Key
key_of link = digest_key link.hash

-- the link of a hash, where another task is noted under it
abbrev pub newer : SourceLink → SourceLink → SourceLink
newer link other = record link { task = if nat_lt link.task other.task then other.task else link.task }
