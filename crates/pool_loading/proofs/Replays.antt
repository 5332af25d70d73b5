-- The lines that were taken up so far, behind the base.
use Rattle.std.proofs.Common.{◌≡◌, ℕ, inl, List, [], ◌∷◌, ◌++◌, length, map, take, Option, Some, None, IfSome, refl, sym, ap₂, ◌∙◌, subst}
use Rattle.std.specs.Prelude.{slice_get}
use Rattle.std.proofs.lemmas.Option.{none-some, same_Some}
use Rattle.swarm_keeper.specs.Tables.{Tables}
use Rattle.pool_loading.specs.Types.{Entry, PoolSettings}
use Rattle.swarm_model.specs.Bases.{Base}
use Rattle.swarm_model.specs.MachineState.{MachineState}
use Rattle.entry_lines.specs.Lines.{entry_of_line}
use Rattle.pool_loading.specs.declared.store_part.StorePart.{StorePart}
use Rattle.pool_loading.specs.declared.store_part.StorePart.TheVariants as part
use Rattle.pool_loading.specs.Records.{AreLinesOf, AreRefusedAt, IsFirstRefused}
use Rattle.pool_loading.specs.Lines.{AddsLine, AreAll, AreFirst, BeginsFrom, IsRefusedOf, IsReplay, Refuses}

-- one more line is read
more : (lines : List (List ℕ)) (log : List Entry) (line : List ℕ) (e : Entry)
    → AreLinesOf (take (length log) lines) log → slice_get lines (length log) ≡ Some line → entry_of_line line ≡ Some e
    → AreLinesOf (take (length (log ++ e ∷ [])) lines) (log ++ e ∷ [])
more [] [] line e read there is = absurd (none-some line there)
more [] (x ∷ log) line e read there is = absurd (none-some line there)
more (l ∷ lines) [] line e read there is = let same = same_Some l line there in rw (same, is) refl
more (l ∷ lines) (x ∷ log) line e read there is =
    let head : entry_of_line l ≡ Some x = cc in
    let tail : map entry_of_line (take (length log) lines) ≡ map Some log = cc in
    ap₂ (λ a rest. a ∷ rest) head (more lines log line e tail there is)

-- where no line is left, all are read
all_read : (lines : List (List ℕ)) (log : List Entry) → AreLinesOf (take (length log) lines) log → slice_get lines (length log) ≡ None → AreLinesOf lines log
all_read [] [] read none = refl
all_read [] (x ∷ log) read none = absurd (cc)
all_read (l ∷ lines) [] read none = absurd (none-some l (sym none))
all_read (l ∷ lines) (x ∷ log) read none =
    let head : entry_of_line l ≡ Some x = cc in
    let tail : map entry_of_line (take (length log) lines) ≡ map Some log = cc in
    ap₂ (λ a rest. a ∷ rest) head (all_read lines log tail none)

-- what one line more keeps
module _ (settings : PoolSettings) (old new : MachineState) (line : List ℕ) (adds : AddsLine line old new) where
  more_lines : (tables : Option Tables) → IfSome tables (AreFirst old.log) → IfSome tables (λ t. Some line ≡ slice_get t.lines (length old.log)) → IfSome tables (AreFirst new.log)
  more_lines None lines there = tt
  more_lines (Some t) lines there = subst (λ (log : List Entry). AreFirst log t) (sym adds.log) (more t.lines old.log line adds.entry lines (sym there) adds.reads)

  pub replay_more : (tables : Option Tables) → IsReplay settings tables old → IfSome tables (λ t. Some line ≡ slice_get t.lines (length old.log)) → IsReplay settings tables new
  replay_more tables r there = record {
    history = adds.history;
    settings_are = adds.settings ∙ r.settings_are;
    nothing = adds.nothing;
    begins = subst (λ (start : Base). IfSome tables (BeginsFrom settings start)) (sym adds.start) r.begins;
    lines = more_lines tables r.lines there;
  }

-- all is taken up
pub replay_all : (settings : PoolSettings) (tables : Option Tables) (kept : MachineState) → IsReplay settings tables kept
    → IfSome tables (λ t. None ≡ slice_get t.lines (length kept.log)) → AreAll tables kept.log
replay_all settings None kept r none = tt
replay_all settings (Some t) kept r none = all_read t.lines kept.log r.lines (sym none)

first_refused : (settings : PoolSettings) (t : Tables) (kept : MachineState) (line : List ℕ) → IsReplay settings (Some t) kept
    → Some line ≡ slice_get t.lines (length kept.log) → Refuses line kept → AreRefusedAt settings t part.Lines (length kept.log)
first_refused settings t kept line r there refuses =
    let first : IsFirstRefused kept.start.rows t.lines (length kept.log) =
    record { log = kept.log; read = r.lines; legal = r.history.legal; line = line; there = sym there; refused = refuses } in
    (kept.start.rows, r.begins.base, inl first)

-- the next line is refused
pub replay_refused : (settings : PoolSettings) (tables : Option Tables) (kept : MachineState) (line : List ℕ) (which : StorePart) (place at : ℕ) → IsReplay settings tables kept
    → place ≡ length kept.log → IfSome tables (λ t. Some line ≡ slice_get t.lines place)
    → (which ≡ part.Lines) × (at ≡ place) × Refuses line kept → IsRefusedOf settings tables which at
replay_refused settings None kept line which place at r is there h = tt
replay_refused settings (Some t) kept line which place at r is there h =
    let counted : at ≡ length kept.log = h.1 ∙ is in
    let here : Some line ≡ slice_get t.lines (length kept.log) = subst (λ (n : ℕ). Some line ≡ slice_get t.lines n) is there in
    rw (h.0, counted) (first_refused settings t kept line r here h.2)
