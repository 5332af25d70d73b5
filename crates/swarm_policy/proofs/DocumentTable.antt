-- `table_of`, from what toml says of a text.
use Rattle.std.proofs.Common.{◌≡◌, ℕ, List, Bool, true, false, refl}
use Rattle.std.specs.Prelude.{Option, Some, None, if◌then◌else◌}
use Rattle.std.specs.Str.{IsUtf8, is_utf8}
use Rattle.std.proofs.lemmas.Str.{IsUtf8-from_is_utf8, is_utf8-from_IsUtf8}
use Rattle.toml.specs.Data.{Members}
use Rattle.toml.specs.Parse.{parse_document}
use Rattle.swarm_policy.specs.Documents.{table_of}

where_true : (t : Bool) (r : Option Members) (d : Members) → t ≡ true → r ≡ Some d → (if t then r else None) ≡ Some d
where_true true r d e h = h
where_true false r d e h = cc

unless_true : (t : Bool) (r : Option Members) → (t ≡ true → r ≡ None) → (if t then r else None) ≡ None
unless_true true r h = h refl
unless_true false r h = refl

-- a text that is UTF-8 and reads as d
pub table_some : (b : List ℕ) (d : Members) → IsUtf8 b → parse_document b ≡ Some d → table_of b ≡ Some d
table_some b d u h = where_true (is_utf8 b) (parse_document b) d (is_utf8-from_IsUtf8 b u) h

-- a text that has no reading if it is UTF-8
pub table_none : (b : List ℕ) → (IsUtf8 b → parse_document b ≡ None) → table_of b ≡ None
table_none b h = unless_true (is_utf8 b) (parse_document b) (λ e. h (IsUtf8-from_is_utf8 b e))
