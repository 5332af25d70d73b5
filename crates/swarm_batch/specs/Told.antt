-- What a reply to a line tells of it.
use Rattle.std.specs.Prelude.{◌≡◌, ℕ, Bool, false, [], ◌∷◌, ◌++◌, Option, Some, None, if◌then◌else◌, IsTrue, IsFalse, IsSomeAnd}
use Rattle.refusal_codes.specs.Codes.{is_transient_code}
use Rattle.swarm_model.specs.declared.reply.Reply.{Reply}
use Rattle.swarm_model.specs.declared.reply.Reply.TheVariants as reply
use Rattle.server_calls.specs.declared.told.Told.{Told}
use Rattle.server_calls.specs.declared.told.Told.TheVariants as told
use Rattle.swarm_batch.specs.declared.mark.Mark.{Mark}
use Rattle.swarm_batch.specs.declared.mark.Mark.TheVariants as mark
use Rattle.swarm_batch.specs.declared.mark.Marked.{Marked}
use Rattle.swarm_batch.specs.declared.mark.Marked.TheVariants as marked
use Rattle.swarm_batch.specs.Marks.{is_task}
use Rattle.swarm_batch.specs.Batches.{BatchValue}

abbrev pub reply_mark : ℕ → Reply → Option Mark
reply_mark place (reply.New task state) = if is_task place task then Some (mark.Task place task) else None
reply_mark place other = None

-- the mark that a reply makes: the task that it tells, or its refusal; what tells neither makes none
abbrev pub told_mark : Told → Option Mark
told_mark (told.Good place answered bytes) = reply_mark place answered
told_mark (told.No code body) = Some (mark.Refused code)

-- the line is to be sent again
abbrev pub is_again : Told → Bool
is_again (told.Good place answered bytes) = false
is_again (told.No code body) = is_transient_code code

-- the line that came next is marked; where it is to be sent again, nothing changes
abbrev pub Marks : Told → BatchValue → BatchValue → Marked → Type 0
Marks told old new marked.Done = IsFalse (is_again told) × IsSomeAnd (told_mark told) (λ m. new ≡ record old { marks = old.marks ++ m ∷ [] })
Marks told old new marked.Again = IsTrue (is_again told) × (new ≡ old)
