-- The bytes of the blobs: those that are held, and those that come with requests and entries.
use Rattle.std.specs.Prelude.{◌≡◌, ℕ, ⊤, List, length, Option, Some, None, IfSome, is_none, option_map, if◌then◌else◌, false}
use Rattle.std.specs.Option.{option_and_then}
use Rattle.sha2.specs.Sha256.{sha256}
use Rattle.swarm_model.specs.Types.{Filled, PoolState, EntryKind, Request}
use Rattle.blob_rows.specs.declared.filled.Filled.TheVariants.{Done, Differs, Unknown}
use Rattle.dimensions.specs.Alike.{same}
use Rattle.dimensions.specs.Choosing.{when}
use Rattle.swarm_model.specs.declared.entry.EntryKind.TheVariants as kind
use Rattle.swarm_model.specs.declared.request.Request.TheVariants as ask
use Rattle.swarm_model.specs.Finding.{has_blob, blob_of, blob_numbered}
use Rattle.swarm_model.specs.Effects.{fresh_chunk, attempt_of}

-- the bytes that are held, by their digests
abbrev pub HeldBytes : Type 0
HeldBytes = List ℕ → Option (List ℕ)

abbrev pub nothing_held : HeldBytes
nothing_held digest = None

abbrev pub with_bytes : List ℕ → List ℕ → HeldBytes → HeldBytes
with_bytes digest bytes held other = if same other digest then Some bytes else held other

abbrev pub without_bytes : List ℕ → HeldBytes → HeldBytes
without_bytes digest held other = if same other digest then None else held other

-- ---- what entries do to it

-- the digest and the size of the bytes that come with an entry of this kind
abbrev pub brings : EntryKind → Option (List ℕ × ℕ)
brings (kind.Put digest size) = Some (digest, size)
brings (kind.Update b t try_no (Some chunk) last) = Some (chunk.digest, chunk.size)
brings entry = None

-- the digest of the blob that an entry places, where it was not present
abbrev pub new_digest : PoolState → EntryKind → Option (List ℕ)
new_digest s (kind.Put digest size) = when (is_none (blob_of s digest)) digest
new_digest s (kind.Update b t try_no chunk last) =
    option_and_then (λ c. when (is_none (blob_of s c.digest)) c.digest) (fresh_chunk (attempt_of s t) chunk)
new_digest s entry = None

-- the digest of the blob that an entry removes
abbrev pub removed_digest : PoolState → EntryKind → Option (List ℕ)
removed_digest s (kind.Blob n false) = option_map (λ blob. blob.digest) (blob_numbered s n)
removed_digest s entry = None

-- with the bytes, where they are there, and where there is a digest for them
abbrev pub with_new : Option (List ℕ) → Option (List ℕ) → HeldBytes → HeldBytes
with_new (Some digest) (Some bytes) held = with_bytes digest bytes held
with_new digest bytes held = held

abbrev pub without_removed : Option (List ℕ) → HeldBytes → HeldBytes
without_removed None held = held
without_removed (Some digest) held = without_bytes digest held

-- what is held after an entry, with which these bytes came
abbrev pub held_after : PoolState → EntryKind → Option (List ℕ) → HeldBytes → HeldBytes
held_after s entry bytes held = with_new (new_digest s entry) bytes (without_removed (removed_digest s entry) held)

-- ---- what comes with requests

-- the bytes that come with a request are those of the content that it puts, or of the chunk that it reports
abbrev pub Carries : Request → List ℕ → Type 0
Carries (ask.PutBlob named actual size) bytes = (actual ≡ sha256 bytes) × (size ≡ length bytes)
Carries (ask.Update bot task try_no chunk last) bytes = IfSome chunk (λ c. (c.digest ≡ sha256 bytes) × (c.size ≡ length bytes))
Carries request bytes = ⊤

-- ---- bytes that are brought by themselves

-- what becomes of bytes that are brought for a blob
abbrev pub filled : PoolState → List ℕ → List ℕ → Filled
filled s digest bytes =
    if same (sha256 bytes) digest
    then (if has_blob s digest (length bytes) then Done else Unknown)
    else Differs (sha256 bytes)

abbrev pub held_after_fill : Filled → List ℕ → List ℕ → HeldBytes → HeldBytes
held_after_fill Done digest bytes held = with_bytes digest bytes held
held_after_fill Unknown digest bytes held = held
held_after_fill (Differs actual) digest bytes held = held
