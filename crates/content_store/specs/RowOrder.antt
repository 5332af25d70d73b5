-- The rows of blobs in the order of their numbers.
use Rattle.std.specs.Prelude.{◌<◌, List}
use Rattle.std.specs.List.{AllPairs}
use Rattle.blob_rows.specs.declared.blob_row.BlobRow.{BlobRow}

-- each row has a lower number than all that stand behind it
abbrev pub NumbersRise : List BlobRow → Type 0
NumbersRise rows = AllPairs (λ a b. a.no < b.no) rows
