-- `reading`, from what serde_json says of a text.
use Rattle.std.proofs.Common.{◌≡◌, ℕ, List, Bool, true, false, refl, sym}
use Rattle.std.specs.Prelude.{Option, Some, None, if◌then◌else◌}
use Rattle.std.specs.Str.{IsUtf8, is_utf8}
use Rattle.std.proofs.lemmas.Str.{IsUtf8-from_is_utf8, is_utf8-from_IsUtf8}
use Rattle.serde_json.specs.Data.{Data}
use Rattle.serde_json.specs.Read.{read}
use Rattle.json_fields.specs.Readings.{reading}

where_true : (t : Bool) (r : Option Data) (d : Data) → t ≡ true → r ≡ Some d → Some d ≡ (if t then r else None)
where_true true r d e h = sym h
where_true false r d e h = cc

unless_true : (t : Bool) (r : Option Data) → (t ≡ true → r ≡ None) → None ≡ (if t then r else None)
unless_true true r h = sym (h refl)
unless_true false r h = refl

-- a text that is UTF-8 and reads as d
pub reading_some : (b : List ℕ) (d : Data) → IsUtf8 b → read b ≡ Some d → Some d ≡ reading b
reading_some b d u h = where_true (is_utf8 b) (read b) d (is_utf8-from_IsUtf8 b u) h

-- a text that has no reading if it is UTF-8
pub reading_none : (b : List ℕ) → (IsUtf8 b → read b ≡ None) → None ≡ reading b
reading_none b h = unless_true (is_utf8 b) (read b) (λ e. h (IsUtf8-from_is_utf8 b e))
