-- The pool has each blob that a reply names.
use Rattle.std.proofs.Common.{◌≡◌, ℕ, ◌==◌, List, find, false, Some, None, refl, ap, ◌∙◌, arith}
use Rattle.std.specs.List.{All}
use Rattle.std.specs.Option.{option_map_or}
use Rattle.std.proofs.lemmas.Bool.{eq-eqb, not-false}
use Rattle.std.proofs.lemmas.List.Elements.{All-map}
use Rattle.pool_laws.specs.Types.{BlobRow, Chunk, PoolState, Reply, Decision}
use Rattle.blob_rows.specs.BlobRows.{has_digest}
use Rattle.swarm_model.specs.declared.reply.Reply.TheVariants as reply
use Rattle.swarm_model.specs.Answers.{show_blob}
use Rattle.swarm_model.specs.Blobs.{lacks_chunk}
use Rattle.swarm_model.specs.Finding.{blob_of}
use Rattle.swarm_model.specs.Output.{chunks_within, parts_within, part_of}
use Rattle.pool_laws.specs.NamedBlobs.{HasPart, HasNamed, NamedBlobsAreThere}
use Rattle.pool_laws.proofs.Alike.{same_is}
use Rattle.pool_laws.proofs.Decisions.{ShowsNone, of_each}
use Rattle.pool_laws.proofs.Lists.{all, find_is, find_none}

module _ (s : PoolState) where
  abbrev Named : Decision → Type 0
  Named told = HasNamed s told.reply

  -- the blob that is found under a digest is there, with its size
  blob_named : (digest : List ℕ) (blob : BlobRow) → blob_of s digest ≡ Some blob → Named (show_blob blob)
  blob_named digest blob found =
      let is = same_is blob.digest digest (find_is (has_digest digest) s.blobs blob found).passes in
      ap (λ o. option_map_or (λ (b : BlobRow). b.size == blob.size) o false) (ap (blob_of s) is ∙ found) ∙ eq-eqb blob.size blob.size refl

  -- a part of a chunk whose blob is there has its blob
  part_named : (from to : ℕ) (chunk : Chunk) → lacks_chunk s chunk ≡ false → HasPart s (part_of from to chunk)
  part_named from to chunk has = (chunk.size, not-false _ has, omega arith)

  parts_named : (from to : ℕ) (chunks : List Chunk) → find (lacks_chunk s) (chunks_within from to chunks) ≡ None → All (HasPart s) (parts_within from to chunks)
  parts_named from to chunks none =
      let within = chunks_within from to chunks in
      All-map (HasPart s) (part_of from to) within
      (all (λ chunk. HasPart s (part_of from to chunk)) within (λ chunk among. part_named from to chunk (find_none (lacks_chunk s) within none chunk among)))

  -- other replies name none
  none_named : (answered : Reply) → ShowsNone answered → HasNamed s answered
  none_named (reply.Stdout state parts) none = absurd none
  none_named (reply.Blob digest size) none = absurd none
  none_named answered none = tt

pub named_blobs_are_there : NamedBlobsAreThere
named_blobs_are_there s who moment pass request =
    of_each s (Named s) (λ decision plain. none_named s decision.reply plain.0) who moment request (record {
      result = λ number try_no task asked is. tt;
      tasks = λ wanted limit below. tt;
      stdout = λ from to state chunks has. parts_named s from to chunks has;
      blob = λ digest blob is. blob_named s digest blob is;
      update = λ name number tried b t try_no chunk last attempt is. tt;
      put = λ named actual size is same. tt;
    })
