-- Small stores, and what is held in them.
use Rattle.std.specs.Prelude.{ℕ, List, [], ◌∷◌, codes}
use Rattle.std.specs.List.{fold}
use Rattle.blob_rows.specs.Extents.{extent_at}
use Rattle.blob_rows.specs.BlobRows.{BlobRowsState}
use Rattle.content_store.specs.Contents.{Content, unfilled_content}
use Rattle.content_store.specs.Plain.{ContentStoreState, hold_result, held_after_hold}

-- the digest of 32 such bytes
abbrev pub name : ℕ → List ℕ
name byte = byte ∷ byte ∷ byte ∷ byte ∷ byte ∷ byte ∷ byte ∷ byte ∷ byte ∷ byte ∷ byte ∷ byte ∷ byte ∷ byte ∷ byte ∷ byte ∷ byte ∷ byte ∷ byte ∷ byte ∷ byte ∷ byte ∷ byte ∷ byte ∷ byte ∷ byte ∷ byte ∷ byte ∷ byte ∷ byte ∷ byte ∷ byte ∷ []

-- so many units and so many names, and nothing that is held
abbrev pub store_of : ℕ → ℕ → ContentStoreState
store_of units names = record { units = units; names = names; held = [] }

-- the store once it was asked to hold a name for so many bytes
abbrev pub holding : ContentStoreState → ℕ × ℕ → ContentStoreState
holding store asked =
    record store { held = held_after_hold (hold_result store (name asked.0) asked.1) (name asked.0) asked.1 asked.0 store.held }

abbrev pub holds : ContentStoreState → List (ℕ × ℕ) → ContentStoreState
holds store asked = fold holding store asked

-- one unit, and no blob yet
abbrev pub no_blobs : BlobRowsState
no_blobs = record { rows = []; placed = 0; units = 1 }

-- the two examples of SHA-256 in FIPS 180-4: 3 bytes and 56

abbrev pub short : List ℕ
short = codes "abc"

abbrev pub short_digest : List ℕ
short_digest =
    0xBA ∷ 0x78 ∷ 0x16 ∷ 0xBF ∷ 0x8F ∷ 0x01 ∷ 0xCF ∷ 0xEA ∷ 0x41 ∷ 0x41 ∷ 0x40 ∷
    0xDE ∷ 0x5D ∷ 0xAE ∷ 0x22 ∷ 0x23 ∷ 0xB0 ∷ 0x03 ∷ 0x61 ∷ 0xA3 ∷ 0x96 ∷ 0x17 ∷
    0x7A ∷ 0x9C ∷ 0xB4 ∷ 0x10 ∷ 0xFF ∷ 0x61 ∷ 0xF2 ∷ 0x00 ∷ 0x15 ∷ 0xAD ∷ []

abbrev pub long : List ℕ
long = codes "abcdbcdecdefdefgefghfghighijhijkijkljklmklmnlmnomnopnopq"

abbrev pub long_digest : List ℕ
long_digest =
    0x24 ∷ 0x8D ∷ 0x6A ∷ 0x61 ∷ 0xD2 ∷ 0x06 ∷ 0x38 ∷ 0xB8 ∷ 0xE5 ∷ 0xC0 ∷ 0x26 ∷
    0x93 ∷ 0x0C ∷ 0x3E ∷ 0x60 ∷ 0x39 ∷ 0xA3 ∷ 0x3C ∷ 0xE4 ∷ 0x59 ∷ 0x64 ∷ 0xFF ∷
    0x21 ∷ 0x67 ∷ 0xF6 ∷ 0xEC ∷ 0xED ∷ 0xD4 ∷ 0x19 ∷ 0xDB ∷ 0x06 ∷ 0xC1 ∷ []

-- the name of the short one is held, and its bytes have not come
abbrev pub awaited : List Content
awaited = unfilled_content short_digest 3 7 (extent_at 1 0) ∷ []
