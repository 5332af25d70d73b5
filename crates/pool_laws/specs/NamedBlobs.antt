-- The blobs whose bytes a reply needs.
use Rattle.std.specs.Prelude.{ℕ, ⊤, ◌≤◌, IsTrue, List}
use Rattle.std.specs.List.{All}
use Rattle.pool_laws.specs.Types.{PoolState, Request, Part, Reply}
use Rattle.swarm_model.specs.declared.reply.Reply.TheVariants as reply
use Rattle.swarm_model.specs.Answers.{answer}
use Rattle.swarm_model.specs.Finding.{has_blob}

-- a blob has the part's digest, and as many bytes as the part needs
abbrev pub HasPart : PoolState → Part → Type 0
HasPart s part = (size : ℕ) × IsTrue (has_blob s part.digest size) × (part.to ≤ size)

-- the pool has each blob that a reply names
abbrev pub HasNamed : PoolState → Reply → Type 0
HasNamed s (reply.Stdout state parts) = All (HasPart s) parts
HasNamed s (reply.Blob digest size) = IsTrue (has_blob s digest size)
HasNamed s answered = ⊤

-- a reply names only blobs that the pool has
abbrev pub NamedBlobsAreThere : Type 0
NamedBlobsAreThere = (s : PoolState) (who : List ℕ) (moment pass : ℕ) (request : Request) → HasNamed s (answer s who moment pass request).reply
