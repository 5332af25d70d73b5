-- How many uses of each digest are counted.
use Rattle.std.specs.Prelude.{◌≡◌, ◌≢◌, ℕ, List, Option, IsSome}
use Rattle.std.specs.List.{find}
use Rattle.std.specs.Option.{option_map_or}
use Rattle.dimensions.specs.Alike.{same}
use Rattle.pool_index.specs.declared.use_link.UseLink.{UseLink}
use Rattle.pool_index.specs.SortedLinks.{Key, digest_key}

-- the link of a digest
abbrev pub use_of : List UseLink → List ℕ → Option UseLink
use_of links digest = find (λ link. same link.digest digest) links

-- how many uses of a digest are counted; of one that isn't listed, none
abbrev pub uses_of : List UseLink → List ℕ → ℕ
uses_of links digest = option_map_or (λ link. link.uses) (use_of links digest) 0

abbrev pub IsListed : List UseLink → List ℕ → Type 0
IsListed links digest = IsSome (use_of links digest)

-- the counts are the same
pub record SameUses (old new : List UseLink) : Type 0 where
  pub same_uses : (digest : List ℕ) → uses_of new digest ≡ uses_of old digest

-- a digest that was listed is still listed
pub record StaysListed (old new : List UseLink) : Type 0 where
  pub listed : (digest : List ℕ) → IsListed old digest → IsListed new digest

-- the digest has so many uses now, and others have as many as before
pub record HasUses (digest : List ℕ) (count : ℕ) (old new : List UseLink) : Type 0 where
  pub own : uses_of new digest ≡ count
  pub others : (other : List ℕ) → other ≢ digest → uses_of new other ≡ uses_of old other

abbrev pub key_of : UseLink → Key
key_of link = digest_key link.digest
