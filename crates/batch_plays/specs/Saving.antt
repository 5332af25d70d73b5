-- A batch with what is saved of it.
use Rattle.std.specs.Prelude.{◌≡◌, ◌⊎◌, ℕ, ◌≤◌, Bool, true, false, List, [], ◌∷◌, ◌++◌, length, Option, Some, None, Ok, if◌then◌else◌}
use Rattle.std.specs.Option.{option_map_or}
use Rattle.batch_plays.specs.Types.{Told, Mark}
use Rattle.swarm_batch.specs.Batches.{BatchValue, AreMarks}
use Rattle.swarm_batch.specs.Marks.{progress_text}
use Rattle.swarm_batch.specs.Reopened.{IsReadAgain}
use Rattle.swarm_batch.specs.Told.{is_again, told_mark}
use Rattle.batch_plays.specs.declared.saved_batch.SavedBatch.{SavedBatch}

-- ---- what is saved

-- the text is the progress of marks of so many lines
pub record IsProgress (lines : ℕ) (head text : List ℕ) : Type 0 where
  pub marks : List Mark
  pub are : AreMarks lines marks
  pub written : text ≡ progress_text head marks

-- what is saved, and what was before, is a progress of the batch
pub record AreProgress (files : SavedBatch) : Type 0 where
  pub few : length files.batch.lines ≤ 4096
  pub saved : IsProgress (length files.batch.lines) files.batch.head files.saved
  pub before : IsProgress (length files.batch.lines) files.batch.head files.before

-- ---- a line is marked

abbrev pub with_mark : BatchValue → Mark → BatchValue
with_mark b m = record b { marks = b.marks ++ m ∷ [] }

-- the progress of this batch is saved
abbrev pub saved_as : SavedBatch → BatchValue → SavedBatch
saved_as old b = record { batch = b; saved = progress_text b.head b.marks; before = old.saved }

abbrev pub saved_mark : SavedBatch → Mark → SavedBatch
saved_mark old m = saved_as old (with_mark old.batch m)

-- the line that comes next is marked by what it was told, and the progress is saved; where it is to be sent again, or tells no mark, nothing changes
abbrev pub marked : SavedBatch → Told → SavedBatch
marked old told = if is_again told then old else option_map_or (saved_mark old) (told_mark told) old

-- nothing changed, or the line is marked and nothing is saved
abbrev pub IsUnsaved : SavedBatch → Told → SavedBatch → Type 0
IsUnsaved old told new = (new ≡ old) ⊎ (new ≡ record old { batch = (marked old told).batch })

-- ---- the batch is read again

-- the progress that was saved last, or the one before
abbrev pub text_at : Bool → SavedBatch → List ℕ
text_at true files = files.saved
text_at false files = files.before

-- the batch takes the marks that it tells, and it counts as saved
pub record ReadsAgain (saved : Bool) (old new : SavedBatch) : Type 0 where
  pub reads : IsReadAgain (Some (text_at saved old)) old.batch new.batch (Ok tt)
  pub is : new ≡ record old { batch = new.batch; saved = text_at saved old }
