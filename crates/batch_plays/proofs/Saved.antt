-- What is saved of a batch is read again.
use Rattle.std.proofs.Common.{◌≡◌, ◌⊎◌, inl, inr, ℕ, ◌≤◌, Bool, true, false, List, [], ◌∷◌, ◌++◌, length, Option, Some, None, Result, Ok, Err, refl, ap, sym, ◌∙◌, subst, true≢false}
use Rattle.std.specs.Prelude.{⊤, IsSomeAnd, if◌then◌else◌}
use Rattle.std.specs.Option.{option_map_or}
use Rattle.batch_plays.specs.Types.{Told, Mark}
use Rattle.swarm_batch.specs.declared.faults.BatchFault.{BatchFault}
use Rattle.swarm_batch.specs.declared.faults.BatchFault.TheVariants as fault
use Rattle.swarm_batch.specs.declared.faults.BatchRule.{BatchRule}
use Rattle.swarm_batch.specs.declared.mark.Marked.{Marked}
use Rattle.swarm_batch.specs.declared.mark.Marked.TheVariants as marked_as
use Rattle.swarm_batch.specs.Batches.{BatchValue, AreMarks}
use Rattle.swarm_batch.specs.Laws.{IsOrMemory}
use Rattle.swarm_batch.specs.Progress.{TellsProgress}
use Rattle.swarm_batch.specs.Reopened.{IsReadAgain}
use Rattle.swarm_batch.specs.Told.{told_mark, is_again, Marks}
use Rattle.swarm_batch.proofs.Telling.{progress_is_read}
use Rattle.batch_plays.specs.declared.saved_batch.SavedBatch.{SavedBatch}
use Rattle.batch_plays.specs.Saving.{IsProgress, AreProgress, saved_as, saved_mark, marked, text_at}

-- what is saved is never refused
pub never_broken : (lines : ℕ) (head text : List ℕ) (line : ℕ) (rule : BatchRule) → lines ≤ 4096 → IsProgress lines head text → TellsProgress lines head text (Err (fault.Broken line rule)) → ⊥
never_broken lines head text line rule few p tells =
    by_case (progress_is_read lines head p.marks (Err (fault.Broken line rule)) few p.are (subst (λ (t : List ℕ). TellsProgress lines head t (Err (fault.Broken line rule))) p.written tells))
  where
    by_case : IsOrMemory p.marks (Err (fault.Broken line rule)) → ⊥
    by_case (inl h) = cc
    by_case (inr h) = cc

-- the progress of a batch is either text
pub progress_at : (saved : Bool) (files : SavedBatch) → AreProgress files → IsProgress (length files.batch.lines) files.batch.head (text_at saved files)
progress_at true files p = p.saved
progress_at false files p = p.before

-- a batch that was read again has the same lines
pub read_again_ready : (saved : Bool) (old : SavedBatch) (b : BatchValue) → AreProgress old → IsReadAgain (Some (text_at saved old)) old.batch b (Ok tt) → AreProgress (record old { batch = b; saved = text_at saved old })
read_again_ready saved old b p h =
    subst (λ (x : BatchValue). AreProgress (record old { batch = x; saved = text_at saved old })) (sym h.1)
    (record { few = p.few; saved = progress_at saved old p; before = p.before })

-- so what is read again is never refused
pub reads_well : (saved : Bool) (files : SavedBatch) (text : List ℕ) (b : BatchValue) (r : Result ⊤ BatchFault) (f : BatchFault) (line : ℕ) (rule : BatchRule) →
    AreProgress files → text ≡ text_at saved files → IsReadAgain (Some text) files.batch b r → r ≡ Err f → f ≡ fault.Broken line rule → ⊥
reads_well saved files text b r f line rule p text_is h r_is f_is =
    let k : IsReadAgain (Some (text_at saved files)) files.batch b (Err (fault.Broken line rule)) =
    subst (λ (x : Result ⊤ BatchFault). IsReadAgain (Some (text_at saved files)) files.batch b x) (r_is ∙ ap (λ (y : BatchFault). Err y) f_is)
    (subst (λ (t : List ℕ). IsReadAgain (Some t) files.batch b r) text_is h) in
    never_broken (length files.batch.lines) files.batch.head (text_at saved files) line rule p.few (progress_at saved files p) k.0

-- ---- a line is marked

-- the line is done
done_as : (old : SavedBatch) (b : BatchValue) (again : Bool) (o : Option Mark) → again ≡ false → IsSomeAnd o (λ m. b ≡ record old.batch { marks = old.batch.marks ++ m ∷ [] }) →
    saved_as old b ≡ (if again then old else option_map_or (saved_mark old) o old)
done_as old b true o h k = absurd (true≢false h)
done_as old b false None h k = absurd k
done_as old b false (Some m) h k = ap (saved_as old) k

pub marked_done : (old : SavedBatch) (b : BatchValue) (t : Told) → Marks t old.batch b marked_as.Done → saved_as old b ≡ marked old t
marked_done old b t h = done_as old b (is_again t) (told_mark t) h.0 h.1

again_as : (old : SavedBatch) (again : Bool) (o : Option Mark) → again ≡ true → old ≡ (if again then old else option_map_or (saved_mark old) o old)
again_as old true o h = refl
again_as old false o h = absurd (true≢false (sym h))

-- it is to be sent again
pub marked_again : (old : SavedBatch) (b : BatchValue) (t : Told) → Marks t old.batch b marked_as.Again → record old { batch = b } ≡ marked old t
marked_again old b t h = ap (λ (x : BatchValue). record old { batch = x }) h.1 ∙ again_as old (is_again t) (told_mark t) h.0

none_as : (old : SavedBatch) (again : Bool) (o : Option Mark) → o ≡ None → old ≡ (if again then old else option_map_or (saved_mark old) o old)
none_as old true o h = refl
none_as old false None h = refl
none_as old false (Some m) h = absurd (cc (h))

-- it tells no mark
pub marked_none : (old : SavedBatch) (t : Told) → told_mark t ≡ None → old ≡ marked old t
marked_none old t h = none_as old (is_again t) (told_mark t) h

-- what is saved of a marked batch is its progress
pub saved_ready : (old : SavedBatch) (b : BatchValue) (t : Told) → AreProgress old → Marks t old.batch b marked_as.Done → AreMarks (length b.lines) b.marks → AreProgress (saved_as old b)
saved_ready old b t p h good = by_mark (told_mark t) h.1
  where
    lines : (o : Option Mark) → IsSomeAnd o (λ m. b ≡ record old.batch { marks = old.batch.marks ++ m ∷ [] }) → length b.lines ≡ length old.batch.lines
    lines None k = absurd k
    lines (Some m) k = ap (λ (x : BatchValue). length x.lines) k

    head : (o : Option Mark) → IsSomeAnd o (λ m. b ≡ record old.batch { marks = old.batch.marks ++ m ∷ [] }) → b.head ≡ old.batch.head
    head None k = absurd k
    head (Some m) k = ap (λ (x : BatchValue). x.head) k

    by_mark : (o : Option Mark) → IsSomeAnd o (λ m. b ≡ record old.batch { marks = old.batch.marks ++ m ∷ [] }) → AreProgress (saved_as old b)
    by_mark o k = record {
      few = subst (λ (n : ℕ). n ≤ 4096) (sym (lines o k)) p.few;
      saved = record { marks = b.marks; are = good; written = refl };
      before = subst (λ (n : ℕ). IsProgress n b.head old.saved) (sym (lines o k)) (subst (λ (h : List ℕ). IsProgress (length old.batch.lines) h old.saved) (sym (head o k)) p.saved);
    }
