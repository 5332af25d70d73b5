-- The output of a run: chunks that follow each other, and the bytes of it between two places.
use Rattle.std.specs.Prelude.{◌≡◌, ℕ, Bool, ◌+◌, ◌-◌, max, min, nat_lt, List, [], ◌∷◌, length, map, take, drop, flat_map}
use Rattle.std.specs.List.{filter, All}
use Rattle.swarm_model.specs.declared.attempt.Chunk.{Chunk}
use Rattle.swarm_model.specs.declared.reply.Part.{Part}

-- the chunks follow each other from one place to another
abbrev pub AreInRow : ℕ → List Chunk → ℕ → Type 0
AreInRow from [] to = from ≡ to
AreInRow from (chunk ∷ chunks) to = (chunk.start ≡ from) × AreInRow (from + chunk.size) chunks to

-- a byte of the chunk lies between the two places
abbrev pub lies_within : ℕ → ℕ → Chunk → Bool
lies_within from to chunk = nat_lt (max from chunk.start) (min to (chunk.start + chunk.size))

abbrev pub chunks_within : ℕ → ℕ → List Chunk → List Chunk
chunks_within from to chunks = filter (lies_within from to) chunks

-- the bytes of the chunk that lie there
abbrev pub part_of : ℕ → ℕ → Chunk → Part
part_of from to chunk =
    record {
      digest = chunk.digest;
      from = max from chunk.start - chunk.start;
      to = min to (chunk.start + chunk.size) - chunk.start;
    }

-- the parts of the output that lie there, in their order
abbrev pub parts_within : ℕ → ℕ → List Chunk → List Part
parts_within from to chunks = map (part_of from to) (chunks_within from to chunks)

-- ---- the bytes themselves, by the contents of the digests

-- the content of each chunk has its size
abbrev pub HaveSizes : (List ℕ → List ℕ) → List Chunk → Type 0
HaveSizes content chunks = All (λ chunk. length (content chunk.digest) ≡ chunk.size) chunks

-- the contents of the chunks, one after the other
abbrev pub output_of : (List ℕ → List ℕ) → List Chunk → List ℕ
output_of content chunks = flat_map (λ chunk. content chunk.digest) chunks

abbrev pub part_bytes : (List ℕ → List ℕ) → Part → List ℕ
part_bytes content part = take (part.to - part.from) (drop part.from (content part.digest))

-- the parts are the bytes of the output from a place on, at most so many
abbrev pub AreBytesFrom : ℕ → ℕ → List Chunk → List Part → Type 0
AreBytesFrom offset most chunks parts =
    (content : List ℕ → List ℕ) → HaveSizes content chunks → flat_map (part_bytes content) parts ≡ take most (drop offset (output_of content chunks))
