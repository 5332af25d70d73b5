-- Contents by their digests, sorted by them.
use Rattle.std.specs.Prelude.{ℕ, Bool, false, not, nat_eq, List, [], ◌∷◌, Option, None, Some, is_some, if◌then◌else◌}
use Rattle.std.specs.List.{find, filter}
use Rattle.std.specs.Option.{option_map, option_map_or, option_and_then}
use Rattle.std.specs.Ordering.{is_lt}
use Rattle.blob_rows.specs.declared.extent.Extent.{Extent}
use Rattle.blob_rows.specs.Digests.{same_digest, digest_cmp}

-- a name that is held, its digest: how many bytes it stands for, the number that it was given, the extent where the bytes lie,
-- and the bytes once they came
pub record Content : Type 0 where
  pub digest : List ℕ
  pub size : ℕ
  pub number : ℕ
  pub extent : Extent
  pub bytes : Option (List ℕ)

abbrev pub extent_of : Content → Extent
extent_of content = content.extent

-- ---- by digest

abbrev pub is_named : List ℕ → Content → Bool
is_named digest content = same_digest content.digest digest

abbrev pub content_of : List Content → List ℕ → Option Content
content_of held digest = find (is_named digest) held

abbrev pub is_held : List Content → List ℕ → Bool
is_held held digest = is_some (content_of held digest)

abbrev pub is_held_with_size : List Content → List ℕ → ℕ → Bool
is_held_with_size held digest size = option_map_or (λ content. nat_eq content.size size) (content_of held digest) false

-- the number of a name that is held
abbrev pub number_of : List Content → List ℕ → Option ℕ
number_of held digest = option_map (λ content. content.number) (content_of held digest)

-- the bytes that are held under a name
abbrev pub bytes_of : List Content → List ℕ → Option (List ℕ)
bytes_of held digest = option_and_then (λ content. content.bytes) (content_of held digest)

-- ---- a content more, one less, and one whose bytes came

-- a content whose bytes have not come
abbrev pub unfilled_content : List ℕ → ℕ → ℕ → Extent → Content
unfilled_content digest size number extent = record { digest = digest; size = size; number = number; extent = extent; bytes = None }

-- a content among those sorted by digest, in its place
abbrev pub with_content : Content → List Content → List Content
with_content content [] = content ∷ []
with_content content (first ∷ others) =
    if is_lt (digest_cmp content.digest first.digest) then content ∷ first ∷ others else first ∷ with_content content others

abbrev pub without_content : List ℕ → List Content → List Content
without_content digest held = filter (λ content. not (is_named digest content)) held

-- the content with these bytes, where it has this name
abbrev pub filled_with : List ℕ → List ℕ → Content → Content
filled_with digest bytes content = if is_named digest content then record content { bytes = Some bytes } else content
