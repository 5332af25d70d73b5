-- A row is read of its line, and a text of which a row is read is the line of that row.
use Rattle.std.proofs.Common.{◌≡◌, ℕ, ◌≤◌, List, true, false, Option, Some, None, refl, sym, ap, ◌∙◌, subst, arith}
use Rattle.std.specs.Cmp.Lexicographic.{bytes_decides}
use Rattle.std.proofs.lemmas.Option.{cond_some}
use Rattle.serde_json.specs.Data.{Data, depth}
use Rattle.serde_json.specs.Read.{read, max_depth}
use Rattle.serde_json.specs.Written.{has_float, compact_text}
use Rattle.dimensions.specs.Alike.{same}
use Rattle.line_parts.specs.Finding.{◌>>=◌}
use Rattle.base_lines.specs.declared.base_row.BaseRow.{BaseRow}
use Rattle.base_lines.specs.declared.base_row.BaseRow.TheVariants as row
use Rattle.base_lines.specs.Rows.{bot_data}
use Rattle.base_lines.specs.Lines.{row_data, HoldsRow, row_in, row_line, if_line, row_of_line, as_told, ReadsBack, LinesAreDistinct}
use Rattle.base_lines.proofs.RowLaws.{row_reads_back, row_has_no_float, row_is_shallow}

pub is_plain : (x : BaseRow) → has_float (row_data x) ≡ false
is_plain x = row_has_no_float x

is_shallow : (x : BaseRow) → depth (row_data x) ≤ max_depth
is_shallow x = omega (arith, row_is_shallow x)

-- what a line leaves out changes no line
line_as_told : (x : BaseRow) → row_line (as_told x) ≡ row_line x
unfolding row_line bot_data
line_as_told (row.Pool pool) = refl
line_as_told (row.Task task) = refl
line_as_told (row.Bot bot) = refl
line_as_told (row.Blob blob) = refl

same_line : (x : BaseRow) → same (row_line (as_told x)) (row_line x) ≡ true
same_line x = (bytes_decides (row_line (as_told x)) (row_line x)).1 (line_as_told x)

-- a row whose line was read as its value is read of its line
pub reads_back : (x : BaseRow) → HoldsRow x → (text : List ℕ) → text ≡ row_line x → (depth (row_data x) ≤ max_depth → read text ≡ Some (row_data x)) → ReadsBack x
unfolding row_of_line
reads_back x h text is reads computed =
    let value : read (row_line x) ≡ Some (row_data x) = ap read (sym is) ∙ reads (is_shallow x) in
    rw (value, row_reads_back x h computed, same_line x) refl

-- the same of a value that is the row's
pub reads_back_of : (x : BaseRow) (d : Data) → HoldsRow x → d ≡ row_data x → (text : List ℕ) → (has_float d ≡ false → text ≡ compact_text d) → (depth d ≤ max_depth → read text ≡ Some d) → ReadsBack x
unfolding row_line
reads_back_of x d h is text written reads =
    let plain : has_float d ≡ false = ap has_float is ∙ is_plain x in
    let shallow : depth d ≤ max_depth = subst (λ (e : Data). depth e ≤ max_depth) (sym is) (is_shallow x) in
    reads_back x h text (written plain ∙ ap compact_text is) (λ _. reads shallow ∙ ap (λ (e : Data). Some e) is)

bind_some : {A B : Type 0} (o : Option A) (f : A → Option B) (y : B) → (o >>= f) ≡ Some y → (x : A) × (o ≡ Some x) × (f x ≡ Some y)
bind_some None f y e = absurd (cc)
bind_some (Some x) f y e = (x, refl, e)

-- a text of which a row is read is the line of that row
pub lines_are_distinct : LinesAreDistinct
unfolding row_of_line
lines_are_distinct text x h =
    let value = bind_some (read text) _ x h in
    let found_row = bind_some (row_in value.0) (if_line text) x value.2 in
    let found = cond_some (same (row_line found_row.0) text) found_row.0 x found_row.2 in
    ap row_line (sym found.1) ∙ (bytes_decides (row_line found_row.0) text).0 found.0
