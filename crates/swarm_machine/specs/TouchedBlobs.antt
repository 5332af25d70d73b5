-- The blob that an entry may change.
use Rattle.std.specs.Prelude.{List, Option, None}
use Rattle.std.specs.Option.{option_map, option_and_then}
use Rattle.swarm_machine.specs.Types.{BlobRow, Chunk, Deadline, EntryKind}
use Rattle.blob_rows.specs.BlobRows.{blob_of, blob_numbered}
use Rattle.swarm_model.specs.declared.entry.EntryKind.TheVariants as kind
use Rattle.swarm_model.specs.Deadlines.{blob_end}
use Rattle.index_laws.specs.BlobDeadlines.{blob_of_chunk}

-- of these rows the one that an entry of this kind may change, whose chunk, where it went on from the output, is given
abbrev pub touched_with : Option Chunk → EntryKind → List BlobRow → Option BlobRow
touched_with fresh (kind.Blob n kept) rows = blob_numbered rows n
touched_with fresh (kind.Put digest size) rows = blob_of rows digest
touched_with fresh (kind.Update b t try_no chunk last) rows = option_and_then (blob_of_chunk rows) fresh
touched_with fresh entry rows = None

-- its deadline
abbrev pub blob_end_with : Option Chunk → EntryKind → List BlobRow → Option Deadline
blob_end_with fresh k rows = option_map blob_end (touched_with fresh k rows)
