-- The lines of a base that were read so far, and what they tell.
use Rattle.std.proofs.Common.{◌≡◌, ℕ, ◌+◌, ◌<◌, ◌≤◌, inl, inr, List, ◌∷◌, length, drop, get_or, slice_get, Option, Some, None, IfSome, Result, Ok, Err, sym, ap, ◌∙◌, subst, arith}
use Rattle.std.specs.Option.{option_map_or}
use Rattle.std.proofs.lemmas.List.{drop_more, drop_all}
use Rattle.std.proofs.lemmas.Option.{none-some, slice_get_cases, slice_get_within, get_or_from_slice_get}
use Rattle.pool_loading.specs.Types.{Text, PoolSettings, PoolState, BaseRows}
use Rattle.swarm_keeper.specs.Tables.{Tables}
use Rattle.swarm_model.specs.BaseRules.{IsBase}
use Rattle.base_lines.specs.Reading.{with_line, read_from, read_lines, lines_in, AreRead, base_of, rows_of, TellThePool}
use Rattle.base_lines.proofs.Rising.{numbers_rise}
use Rattle.pool_loading.specs.declared.store_part.StorePart.{StorePart}
use Rattle.pool_loading.specs.declared.store_part.StorePart.TheVariants as part
use Rattle.pool_loading.specs.Records.{rows_told, base_in, HasNoBase}
use Rattle.pool_loading.specs.Bases.{AreOfFirst, AreReadTo, AreOfAll, IsNoneOfItsPlace}
use Rattle.pool_loading.specs.Lines.{IsRefusedOf}

-- what the rows and the lines from a place on tell, where the next line is told
abbrev from_next : ℕ → List Text → Option BaseRows → Result BaseRows ℕ
from_next place texts next = option_map_or (λ more. read_from (place + 1) more texts) next (Err place)

module _ (lines : List Text) (rows : BaseRows) (first : AreOfFirst rows lines) where
  -- the line at the next place
  at_next : (text : List ℕ) (next : Option BaseRows) → slice_get lines (lines_in rows) ≡ Some text → with_line rows text ≡ next →
      read_lines lines ≡ from_next (lines_in rows) (drop (lines_in rows + 1) lines) next
  at_next text next there is =
      let low : lines_in rows < length lines = slice_get_within lines (lines_in rows) text there in
      let same : get_or lines (lines_in rows) text ≡ text = get_or_from_slice_get lines (lines_in rows) text text there in
      let left : drop (lines_in rows) lines ≡ text ∷ drop (lines_in rows + 1) lines =
      drop_more lines (lines_in rows) text low ∙ ap (λ (t : List ℕ). t ∷ drop (lines_in rows + 1) lines) same in
      first.rest
      ∙ ap (read_from (lines_in rows) rows) left
      ∙ ap (from_next (lines_in rows) (drop (lines_in rows + 1) lines)) is

  -- it is the line of a row that comes next
  more_read : (text : List ℕ) (more : BaseRows) → slice_get lines (lines_in rows) ≡ Some text → with_line rows text ≡ Some more → lines_in more ≡ lines_in rows + 1 → AreOfFirst more lines
  more_read text more there is counted =
      let low : lines_in rows < length lines = slice_get_within lines (lines_in rows) text there in
      record {
        within = omega (arith, low, counted);
        rest = at_next text (Some more) there is ∙ ap (λ (n : ℕ). read_from n more (drop n lines)) (sym counted);
      }

  -- it is none
  line_refused : (text : List ℕ) → slice_get lines (lines_in rows) ≡ Some text → with_line rows text ≡ None → read_lines lines ≡ Err (lines_in rows)
  line_refused text there is = at_next text None there is

  -- there is none
  past_all : slice_get lines (lines_in rows) ≡ None → length lines ≤ lines_in rows
  past_all none = elim (slice_get_cases lines (lines_in rows)).1 [
    | inl some ↦ absurd (none-some some.0 (sym none ∙ some.2))
    | inr past ↦ past.0
  ]

  all_told : slice_get lines (lines_in rows) ≡ None → read_lines lines ≡ Ok rows
  all_told none = first.rest ∙ ap (read_from (lines_in rows) rows) (drop_all (lines_in rows) lines (past_all none))

  all_counted : slice_get lines (lines_in rows) ≡ None → lines_in rows ≡ length lines
  all_counted none = let within = first.within in let past = past_all none in omega (arith, within, past)

-- one line more was read
pub read_more : (tables : Option Tables) (rows more : BaseRows) (text : List ℕ) (place : ℕ) → AreReadTo tables rows → place ≡ lines_in rows → IfSome tables (λ t. Some text ≡ slice_get t.base place) →
    with_line rows text ≡ Some more → lines_in more ≡ lines_in rows + 1 → (AreRead rows → AreRead more) → AreReadTo tables more
read_more tables rows more text place r at there is counted keeps = record { read = keeps r.read; first = by_tables tables r.first there }
  where
    by_tables : (o : Option Tables) → IfSome o (λ t. AreOfFirst rows t.base) → IfSome o (λ t. Some text ≡ slice_get t.base place) → IfSome o (λ t. AreOfFirst more t.base)
    by_tables None first here = tt
    by_tables (Some t) first here = more_read t.base rows first text more (subst (λ (n : ℕ). slice_get t.base n ≡ Some text) at (sym here)) is counted

-- all were read
pub read_all : (tables : Option Tables) (rows : BaseRows) (place : ℕ) → AreReadTo tables rows → place ≡ lines_in rows → IfSome tables (λ t. None ≡ slice_get t.base place) → IfSome tables (AreOfAll rows)
read_all None rows place r at none = tt
read_all (Some t) rows place r at none =
    let here : slice_get t.base (lines_in rows) ≡ None = subst (λ (n : ℕ). slice_get t.base n ≡ None) at (sym none) in
    record { told = all_told t.base rows r.first here; counted = all_counted t.base rows r.first here }

-- the next line is none of its place
pub read_refused : (tables : Option Tables) (rows : BaseRows) (text : List ℕ) (which : StorePart) (place at : ℕ) → AreReadTo tables rows → place ≡ lines_in rows →
    IfSome tables (λ t. Some text ≡ slice_get t.base place) → (which ≡ part.Base) × (at ≡ place) × (with_line rows text ≡ None) → (which ≡ part.Base) × IsNoneOfItsPlace tables at
read_refused tables rows text which place at r is there h = (h.0, by_tables tables r.first there)
  where
    by_tables : (o : Option Tables) → IfSome o (λ t. AreOfFirst rows t.base) → IfSome o (λ t. Some text ≡ slice_get t.base place) → IsNoneOfItsPlace o at
    by_tables None first here = tt
    by_tables (Some t) first here =
        subst (λ (n : ℕ). read_lines t.base ≡ Err n) (sym (h.1 ∙ is)) (line_refused t.base rows first text (subst (λ (n : ℕ). slice_get t.base n ≡ Some text) is (sym here)) h.2)

-- ---- the base of the records

-- a line is refused
pub refused_line : (settings : PoolSettings) (tables : Option Tables) (which : StorePart) (at : ℕ) → (which ≡ part.Base) × IsNoneOfItsPlace tables at → IsRefusedOf settings tables which at
refused_line settings None which at h = tt
refused_line settings (Some t) which at h = rw h.0 (inl h.1)

module _ (settings : PoolSettings) (tables : Option Tables) (rows : BaseRows) (count : ℕ) (all : IfSome tables (AreOfAll rows)) (counts : IfSome tables (λ t. count ≡ t.count)) where
  -- the rows that all lines tell are no base
  pub refused_base : (which : StorePart) (at : ℕ) → (which ≡ part.Base) × (at ≡ lines_in rows) × (IsBase settings count (base_of settings rows) → ⊥) → IsRefusedOf settings tables which at
  refused_base which at h = by_tables tables all counts
    where
      by_tables : (o : Option Tables) → IfSome o (AreOfAll rows) → IfSome o (λ t. count ≡ t.count) → IsRefusedOf settings o which at
      by_tables None a n = tt
      by_tables (Some t) a n =
          (let none : HasNoBase settings t =
          record { rows = base_of settings rows; told = ap (rows_told settings) a.told; no_base = λ b. h.2 (subst (λ (k : ℕ). IsBase settings k (base_of settings rows)) (sym n) b) } in
          rw h.0 (inr (h.1 ∙ a.counted, none)))

-- of the lines that are written of a base it is read again
pub base_is_told : (settings : PoolSettings) (count : ℕ) (s : PoolState) (lines : List Text) → IsBase settings count s → TellThePool s lines → base_in settings lines ≡ Some s
base_is_told settings count s lines is_base tell =
    let told = tell is_base.sound (numbers_rise s is_base.rows) in
    ap (rows_told settings) told.0 ∙ ap (λ (x : PoolState). Some x) (ap (λ (p : PoolSettings). base_of p (rows_of s)) (sym is_base.own) ∙ told.1)
