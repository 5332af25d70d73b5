-- The lines of rows, one row after another.
use Rattle.std.proofs.Common.{◌≡◌, ℕ, ◌+◌, ◌<◌, ◌≤◌, List, [], ◌∷◌, ◌++◌, map, length, take, get_or, slice_get, Some, None, sym, ap, ◌∙◌, subst, inl, inr}
use Rattle.std.proofs.lemmas.List.{append-nil, append_assoc, map-append, take_all, take_more}
use Rattle.std.proofs.lemmas.List.Elements.{All-nil, All-more}
use Rattle.std.proofs.lemmas.Option.{none-some, slice_get_cases, slice_get_within, get_or_from_slice_get}
use Rattle.base_lines.specs.Types.{Text, PoolState}
use Rattle.base_lines.specs.declared.base_row.BaseRow.{BaseRow}
use Rattle.base_lines.specs.declared.base_row.BaseRow.TheVariants as row
use Rattle.base_lines.specs.Lines.{row_line, ReadsBack}
use Rattle.base_lines.specs.Reading.{pool_of, task_line, bot_line, blob_line, base_lines, AddsLines}

module _ {R : Type 0} (told : R → BaseRow) (rows : List R) (old : List Text) where
  abbrev line : R → List ℕ
  line x = row_line (told x)

  abbrev Told : R → Type 0
  Told x = ReadsBack (told x)

  -- before the first row
  pub none_added : (lines : List Text) → lines ≡ old → AddsLines told (take 0 rows) old lines
  none_added lines same = record { lines = same ∙ sym (append-nil old); read_back = All-nil Told }

  -- the row at a place
  pub one_added : (i : ℕ) (x : R) (lines more : List Text) (text : List ℕ) → slice_get rows i ≡ Some x → AddsLines told (take i rows) old lines →
      more ≡ lines ++ text ∷ [] → text ≡ row_line (told x) → ReadsBack (told x) → AddsLines told (take (i + 1) rows) old more
  one_added i x lines more text there done added is reads =
      let low : i < length rows = slice_get_within rows i x there in
      let same : get_or rows i x ≡ x = get_or_from_slice_get rows i x x there in
      let next : take (i + 1) rows ≡ take i rows ++ x ∷ [] = take_more rows i x low ∙ ap (λ (y : R). take i rows ++ y ∷ []) same in
      record {
        lines =
            added
            ∙ ap (λ (l : List Text). l ++ text ∷ []) done.lines
            ∙ append_assoc old (map line (take i rows)) (text ∷ [])
            ∙ ap (λ (t : List ℕ). old ++ (map line (take i rows) ++ t ∷ [])) is
            ∙ ap (λ (l : List Text). old ++ l) (sym (map-append line (take i rows) (x ∷ [])))
            ∙ ap (λ (l : List R). old ++ map line l) (sym next);
        read_back = All-more Told rows i x low done.read_back (subst Told (sym same) reads);
      }

  -- behind the last row
  pub all_added : (i : ℕ) (lines : List Text) → length rows ≤ i → AddsLines told (take i rows) old lines → AddsLines told rows old lines
  all_added i lines past done = subst (λ (l : List R). AddsLines told l old lines) (take_all i rows past) done

  -- at a place where no row is
  pub none_left : (i : ℕ) (lines : List Text) → slice_get rows i ≡ None → AddsLines told (take i rows) old lines → AddsLines told rows old lines
  none_left i lines none done = elim (slice_get_cases rows i).1 [
    | inl some ↦ absurd (none-some some.0 (sym none ∙ some.2))
    | inr past ↦ all_added i lines past.0 done
  ]

-- the lines of a pool are those of its rows, kind by kind
pub all_written : (s : PoolState) (text : List ℕ) (first second third last : List Text) → first ≡ text ∷ [] → text ≡ row_line (row.Pool (pool_of s)) →
    AddsLines row.Task s.tasks first second → AddsLines row.Bot s.bots second third → AddsLines row.Blob s.blobs third last → last ≡ base_lines s
all_written s text first second third last one is tasks bots blobs =
    let begun : first ≡ row_line (row.Pool (pool_of s)) ∷ [] = one ∙ ap (λ (t : List ℕ). t ∷ []) is in
    let told : second ≡ row_line (row.Pool (pool_of s)) ∷ map task_line s.tasks = tasks.lines ∙ ap (λ (l : List Text). l ++ map task_line s.tasks) begun in
    let more : third ≡ row_line (row.Pool (pool_of s)) ∷ (map task_line s.tasks ++ map bot_line s.bots) = bots.lines ∙ ap (λ (l : List Text). l ++ map bot_line s.bots) told in
    blobs.lines
    ∙ ap (λ (l : List Text). l ++ map blob_line s.blobs) more
    ∙ ap (λ (l : List Text). row_line (row.Pool (pool_of s)) ∷ l) (append_assoc (map task_line s.tasks) (map bot_line s.bots) (map blob_line s.blobs))
