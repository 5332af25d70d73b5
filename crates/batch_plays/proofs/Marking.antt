-- The marks that replies make.
use Rattle.std.proofs.Common.{◌≡◌, ℕ, ◌+◌, ◌≤◌, ◌<◌, not, Bool, true, false, List, length, Option, Some, None, refl, ap, sym, ◌∙◌, subst, arith}
use Rattle.std.specs.Prelude.{⊤, nat_lt, if◌then◌else◌}
use Rattle.std.proofs.lemmas.Bool.{ltb-true, ltb-false}
use Rattle.std.proofs.lemmas.Option.{same_Some}
use Rattle.refusal_codes.specs.Codes.{is_transient_code}
use Rattle.batch_plays.specs.Types.{TaskState, Reply, Told, Mark}
use Rattle.swarm_model.specs.declared.reply.Reply.TheVariants as reply
use Rattle.reply_bodies.specs.Refusals.{code_of}
use Rattle.server_calls.specs.declared.told.Told.TheVariants as told
use Rattle.swarm_batch.specs.declared.mark.Mark.TheVariants as mark
use Rattle.swarm_batch.specs.Batches.{BatchValue, next_line}
use Rattle.swarm_batch.specs.Marks.{is_task, is_mark}
use Rattle.swarm_batch.specs.Told.{reply_mark, told_mark, is_again}
use Rattle.batch_plays.specs.Asking.{told_of}

-- ---- the line that comes next

pub record IsNext (b : BatchValue) (line : ℕ) : Type 0 where
  pub number : line ≡ length b.marks + 1
  pub within : length b.marks < length b.lines

pub next_is : (b : BatchValue) (line : ℕ) → next_line b ≡ Some line → IsNext b line
next_is b line e = by_test (nat_lt (length b.marks) (length b.lines)) refl e
  where
    by_test : (t : Bool) → nat_lt (length b.marks) (length b.lines) ≡ t → (if t then Some (length b.marks + 1) else None) ≡ Some line → IsNext b line
    by_test true is h = record { number = sym (same_Some _ _ h); within = ltb-true (length b.marks) (length b.lines) is }
    by_test false is h = absurd (cc (h))

pub none_next : (b : BatchValue) → next_line b ≡ None → length b.lines ≤ length b.marks
none_next b e = by_test (nat_lt (length b.marks) (length b.lines)) refl e
  where
    by_test : (t : Bool) → nat_lt (length b.marks) (length b.lines) ≡ t → (if t then Some (length b.marks + 1) else None) ≡ None → length b.lines ≤ length b.marks
    by_test true is h = absurd (cc (h))
    by_test false is h = ltb-false (length b.marks) (length b.lines) is

-- ---- marks

-- the reply tells a task of this number in the only pool
pub record TellsTask (r : Reply) (place t : ℕ) : Type 0 where
  pub place_is : place ≡ 0
  pub state : TaskState
  pub is : r ≡ reply.New t state

abbrev pub MarkIs : Reply → Mark → Type 0
MarkIs r (mark.Task place t) = TellsTask r place t
MarkIs r (mark.Refused code) = ⊤

pub mark_told : (r : Reply) (m : Mark) → told_mark (told_of r) ≡ Some m → MarkIs r m
mark_told (reply.New t state) m e = by_test (is_task 0 t) e
  where
    by_test : (b : Bool) → (if b then Some (mark.Task 0 t) else None) ≡ Some m → MarkIs (reply.New t state) m
    by_test true h = subst (MarkIs (reply.New t state)) (same_Some (mark.Task 0 t) m h) (record { place_is = refl; state = state; is = refl })
    by_test false h = absurd (cc (h))
mark_told (reply.No why) m e = subst (MarkIs (reply.No why)) (same_Some (mark.Refused (code_of why)) m e) tt
mark_told r m e = absurd (cc (e))

reply_good : (place : ℕ) (r : Reply) (m : Mark) → reply_mark place r ≡ Some m → is_mark m ≡ true
reply_good place (reply.New t state) m e = by_test (is_task place t) refl e
  where
    by_test : (b : Bool) → is_task place t ≡ b → (if b then Some (mark.Task place t) else None) ≡ Some m → is_mark m ≡ true
    by_test true is h = subst (λ (x : Mark). is_mark x ≡ true) (same_Some (mark.Task place t) m h) is
    by_test false is h = absurd (cc (h))
reply_good place r m e = absurd (cc (e))

-- a line that is not to be sent again has a good mark
pub mark_good : (t : Told) (m : Mark) → is_again t ≡ false → told_mark t ≡ Some m → is_mark m ≡ true
mark_good (told.Good place answered bytes) m a e = reply_good place answered m e
mark_good (told.No code body) m a e = subst (λ (x : Mark). is_mark x ≡ true) (same_Some (mark.Refused code) m e) (ap not a)
