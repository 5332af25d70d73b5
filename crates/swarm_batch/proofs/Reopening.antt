-- A file and the progress of its batch are read as that batch.
use Rattle.std.proofs.Common.{◌≡◌, inl, inr, ℕ, List, [], ◌++◌, length, Option, None, Result, Ok, Err, refl, sym, ap, ◌∙◌, subst, append-nil, arith}
use Rattle.std.specs.List.{flat_map}
use Rattle.std.proofs.lemmas.Option.{none-some}
use Rattle.swarm_batch.specs.declared.faults.BatchRule.{BatchRule}
use Rattle.swarm_batch.specs.declared.faults.BatchFault.{BatchFault}
use Rattle.swarm_batch.specs.declared.faults.BatchFault.TheVariants as fault
use Rattle.swarm_batch.specs.declared.lines.Cut.{Cut}
use Rattle.swarm_batch.specs.declared.mark.Mark.{Mark}
use Rattle.swarm_batch.specs.Lines.{ended}
use Rattle.swarm_batch.specs.Broken.{first_broken, or_in}
use Rattle.swarm_batch.specs.Reading.{count_rule, file_rule, BreaksFile}
use Rattle.swarm_batch.specs.Marks.{progress_text}
use Rattle.swarm_batch.specs.Batches.{BatchValue, AreMarks}
use Rattle.swarm_batch.specs.Progress.{TellsProgress}
use Rattle.swarm_batch.specs.Reopened.{IsBatchOf}
use Rattle.swarm_batch.specs.Laws.{IsOrMemory, BatchIsReadAgain}
use Rattle.swarm_batch.proofs.Cuts.{same_cut}
use Rattle.swarm_batch.proofs.Telling.{progress_is_read}

same_lines : (text name : List ℕ) (b d : BatchValue) → IsBatchOf text name b → IsBatchOf text name d → b.lines ≡ d.lines
same_lines text name b d h g = (same_cut b.lines d.lines [] [] h.apart g.apart refl refl (ap (λ (t : List ℕ). t ++ []) (sym h.whole ∙ g.whole))).0

same_but_marks : (text name : List ℕ) (b d : BatchValue) → IsBatchOf text name b → IsBatchOf text name d → d ≡ record b { marks = d.marks }
same_but_marks text name b d h g =
    let lines = same_lines text name b d h g in
    let head = h.head ∙ sym g.head in
    let named = h.named ∙ sym g.named in
    ap (λ (x : List ℕ). record { head = x; name = d.name; lines = d.lines; marks = d.marks }) (sym head)
    ∙ ap (λ (x : List ℕ). record { head = b.head; name = x; lines = d.lines; marks = d.marks }) (sym named)
    ∙ ap (λ (x : List (List ℕ)). record { head = b.head; name = b.name; lines = x; marks = d.marks }) (sym lines)

-- no rule of the file is broken
unbroken : (text name : List ℕ) (b : BatchValue) (line : ℕ) (rule : BatchRule) → IsBatchOf text name b → BreaksFile text line rule → ⊥
unbroken text name b line rule h broken = none-some (line, rule) (sym none ∙ broken.2)
  where
    cut : Cut
    cut = broken.0

    same : (b.lines ≡ cut.lines) × ([] ≡ cut.rest)
    same = same_cut b.lines cut.lines [] cut.rest h.apart broken.1.lines refl broken.1.rest (append-nil (flat_map ended b.lines) ∙ sym h.whole ∙ broken.1.whole)

    counted : count_rule (length text) cut ≡ None
    counted = (let empty : length cut.rest ≡ 0 = ap length (sym same.1) in let count = ap length same.0 in grind (arith, h.size, h.some, h.few, empty, count))

    none : file_rule (length text) cut ≡ None
    none = ap (λ (o : Option BatchRule). or_in o 0 (first_broken 1 cut.lines)) counted ∙ ap (first_broken 1) (sym same.0) ∙ h.unbroken

tells : (text name : List ℕ) (b d : BatchValue) (result : Result (List Mark) BatchFault) → IsBatchOf text name b → IsBatchOf text name d → AreMarks (length b.lines) b.marks
    → TellsProgress (length d.lines) d.head (progress_text b.head b.marks) result → IsOrMemory b.marks result
tells text name b d result h g are t =
    let lines = ap length (same_lines text name b d h g) in
    let head = g.head ∙ sym h.head in
    progress_is_read (length b.lines) b.head b.marks result h.few are
    (subst (λ (n : ℕ). TellsProgress n b.head (progress_text b.head b.marks) result) (sym lines) (subst (λ (x : List ℕ). TellsProgress (length d.lines) x (progress_text b.head b.marks) result) head t))

pub batch_is_read_again : BatchIsReadAgain
batch_is_read_again text name b (Ok d) h are read = by_marks (tells text name b d (Ok d.marks) h read.0 are read.1)
  where
    by_marks : IsOrMemory b.marks (Ok d.marks) → IsOrMemory b (Ok d)
    by_marks (inl e) = inl (let same = same_but_marks text name b d h read.0 in let marks : d.marks ≡ b.marks = cc in ap (λ (x : BatchValue). Ok x) (same ∙ ap (λ (ms : List Mark). record b { marks = ms }) marks))
    by_marks (inr e) = elim (not_memory e) [ ]
      where
        not_memory : Ok d.marks ≡ Err fault.Memory → ⊥
        not_memory e = cc
batch_is_read_again text name b (Err fault.Memory) h are read = inr refl
batch_is_read_again text name b (Err (fault.Broken line rule)) h are (inl broken) = elim (unbroken text name b line rule h broken) [ ]
batch_is_read_again text name b (Err (fault.Broken line rule)) h are (inr read) = by_marks (tells text name b read.0 (Err (fault.Broken line rule)) h read.1 are read.2)
  where
    by_marks : IsOrMemory b.marks (Err (fault.Broken line rule)) → IsOrMemory b (Err (fault.Broken line rule))
    by_marks (inl e) = elim (not_ok e) [ ]
      where
        not_ok : Err (fault.Broken line rule) ≡ Ok b.marks → ⊥
        not_ok e = cc
    by_marks (inr e) = inr (let is : fault.Broken line rule ≡ fault.Memory = cc in ap (λ (x : BatchFault). Err x) is)
