-- A text is the line of an entry exactly where that entry is read of it.
use Rattle.std.proofs.Common.{◌≡◌, ℕ, ◌≤◌, List, true, false, Option, Some, None, Decides, refl, sym, ap, ◌∙◌, arith}
use Rattle.std.specs.Cmp.Lexicographic.{bytes_decides}
use Rattle.std.proofs.lemmas.Option.{cond_some}
use Rattle.serde_json.specs.Data.{depth}
use Rattle.serde_json.specs.Read.{read, max_depth}
use Rattle.serde_json.specs.Written.{has_float}
use Rattle.dimensions.specs.Alike.{same}
use Rattle.swarm_model.specs.declared.entry.Entry.{Entry}
use Rattle.line_parts.specs.Finding.{◌>>=◌}
use Rattle.entry_lines.specs.Kinds.{entry_data, entry_in, HoldsEntry}
use Rattle.entry_lines.proofs.KindLaws.{entry_reads_back, entry_has_no_float, entry_is_shallow}
use Rattle.entry_lines.specs.Lines.{line, if_line, entry_of_line, LinesAreDistinct, LinesReadBack}
use Rattle.line_parts.proofs.ReadTexts.{read-compact_text}
use Rattle.entry_lines.proofs.ReadKinds.{entry_reads}

pub is_plain : (e : Entry) → has_float (entry_data e) ≡ false
is_plain e = entry_has_no_float e.moment e.pass e.kind

is_shallow : (e : Entry) → depth (entry_data e) ≤ max_depth
is_shallow e = omega (arith, entry_is_shallow e.moment e.pass e.kind)

same_self : (text : List ℕ) → same text text ≡ true
same_self text = (bytes_decides text text).1 refl

read-line : (e : Entry) → HoldsEntry e → read (line e) ≡ Some (entry_data e)
unfolding line
read-line e h = read-compact_text (entry_data e) (entry_reads e h) (is_shallow e)

-- of the line of an entry that entry is read
pub lines_read_back : LinesReadBack
unfolding entry_of_line
lines_read_back e h = rw (read-line e h, entry_reads_back e h, same_self (line e)) refl

pub text_reads_back : (e : Entry) → HoldsEntry e → (text : List ℕ) → text ≡ line e → entry_of_line text ≡ Some e
text_reads_back e h text is = ap entry_of_line is ∙ lines_read_back e h

bind_some : {A B : Type 0} (o : Option A) (f : A → Option B) (y : B) → (o >>= f) ≡ Some y → (x : A) × (o ≡ Some x) × (f x ≡ Some y)
bind_some None f y e = absurd (cc)
bind_some (Some x) f y e = (x, refl, e)

-- a text of which an entry is read is the line of that entry
pub lines_are_distinct : LinesAreDistinct
unfolding entry_of_line
lines_are_distinct text e h =
    let value = bind_some (read text) _ e h in
    let entry = bind_some (entry_in value.0) (if_line text) e value.2 in
    let found = cond_some (same (line entry.0) text) entry.0 e entry.2 in
    ap line (sym found.1) ∙ (bytes_decides (line entry.0) text).0 found.0

-- so a text is the line of an entry exactly where it is the same as that line
pub lines_decide : (e : Entry) (text t : List ℕ) → entry_of_line t ≡ Some e → Decides (same t text) (entry_of_line text ≡ Some e)
lines_decide e text t back = (
  λ h. ap entry_of_line (sym ((bytes_decides t text).0 h)) ∙ back,
  λ h. (bytes_decides t text).1 (sym (lines_are_distinct t e back) ∙ lines_are_distinct text e h),
)
