-- Of the lines of a base its rows are read, and the rows are the pool's.
use Rattle.std.proofs.Common.{◌≡◌, ℕ, ◌+◌, ◌==◌, true, List, [], ◌∷◌, ◌++◌, map, length, length-append, append_assoc, refl, sym, ap, ◌∙◌, subst, Some, arith}
use Rattle.std.specs.Prelude.{Result, Ok}
use Rattle.std.specs.List.{All}
use Rattle.std.proofs.lemmas.Bool.{eq-eqb, lt-ltb}
use Rattle.std.proofs.lemmas.List.{append-nil}
use Rattle.std.proofs.lemmas.List.Elements.{All-head, All-tail, All-weaker}
use Rattle.std.proofs.lemmas.Option.{IfSome_then}
use Rattle.std.proofs.lemmas.Simd.{map-map}
use Rattle.base_lines.specs.Types.{Text, BlobRow, TaskRow, BotRow, PoolState}
use Rattle.swarm_model.specs.Numbers.{AreNumbered}
use Rattle.swarm_model.specs.Effects.{no_of_task, no_of_bot, idle_bot}
use Rattle.swarm_model.specs.Soundness.{IsSound, IsSoundTask}
use Rattle.base_lines.specs.declared.base_row.PoolLine.{PoolLine}
use Rattle.base_lines.specs.declared.base_row.BaseRow.{BaseRow}
use Rattle.base_lines.specs.declared.base_row.BaseRow.TheVariants as row
use Rattle.base_lines.specs.declared.base_rows.BaseRows.{BaseRows}
use Rattle.base_lines.specs.Computed.{with_run}
use Rattle.base_lines.specs.Lines.{row_line, as_told, IsToldByItsLine, ReadsBack, HasMeasuredRuns}
use Rattle.base_lines.specs.Reading.{pool_of, task_line, bot_line, blob_line, base_lines, nothing_read, comes_next, with_row, with_line, read_from, read_lines, base_of, RiseFrom, newest_of, rows_of, TellThePool}
use Rattle.base_lines.proofs.Computed.{runs_again}
use Rattle.base_lines.proofs.Lengths.{measured}

-- a line whose row comes next is read
next_line : (rows : BaseRows) (x : BaseRow) → IsToldByItsLine x → comes_next rows (as_told x) ≡ true → with_line rows (row_line x) ≡ Some (with_row rows (as_told x))
next_line rows x told next = rw (told, next) refl

read_next : (place : ℕ) (rows more : BaseRows) (text : List ℕ) (texts : List Text) → with_line rows text ≡ Some more → read_from place rows (text ∷ texts) ≡ read_from (place + 1) more texts
read_next place rows more text texts e = rw e refl

abbrev all_of : BaseRows → Result BaseRows ℕ
all_of rows = Ok rows

abbrev ToldTask : TaskRow → Type 0
ToldTask task = IsToldByItsLine (row.Task task)

abbrev ToldBot : BotRow → Type 0
ToldBot bot = IsToldByItsLine (row.Bot bot)

abbrev ToldBlob : BlobRow → Type 0
ToldBlob blob = IsToldByItsLine (row.Blob blob)

module _ (pool : PoolLine) where
  abbrev at : List TaskRow → List BotRow → List BlobRow → ℕ → BaseRows
  at tasks bots blobs newest = record { pool = Some pool; tasks = tasks; bots = bots; blobs = blobs; newest = newest }

  blobs_read : (place : ℕ) (tasks : List TaskRow) (bots : List BotRow) (done blobs : List BlobRow) (newest : ℕ) → All ToldBlob blobs → RiseFrom newest blobs →
      read_from place (at tasks bots done newest) (map blob_line blobs) ≡ Ok (at tasks bots (done ++ blobs) (newest_of newest blobs))
  blobs_read place tasks bots done [] newest told rise = ap (λ (l : List BlobRow). all_of (at tasks bots l newest)) (sym (append-nil done))
  blobs_read place tasks bots done (b ∷ blobs) newest told rise =
      let rows = at tasks bots done newest in
      let next = next_line rows (row.Blob b) (All-head ToldBlob b blobs told) (lt-ltb newest b.no rise.0) in
      read_next place rows (with_row rows (row.Blob b)) (blob_line b) (map blob_line blobs) next
      ∙ blobs_read (place + 1) tasks bots (done ++ b ∷ []) blobs b.no (All-tail ToldBlob b blobs told) rise.1
      ∙ ap (λ (l : List BlobRow). all_of (at tasks bots l (newest_of b.no blobs))) (append_assoc done (b ∷ []) blobs)

  bots_read : (place : ℕ) (tasks : List TaskRow) (done bots : List BotRow) (blobs : List BlobRow) → All ToldBot bots → All ToldBlob blobs → AreNumbered no_of_bot (length done + 1) bots → RiseFrom 0 blobs →
      read_from place (at tasks done [] 0) (map bot_line bots ++ map blob_line blobs) ≡ Ok (at tasks (done ++ map idle_bot bots) blobs (newest_of 0 blobs))
  bots_read place tasks done [] blobs bots_told told numbered rise =
      blobs_read place tasks done [] blobs 0 told rise ∙ ap (λ (l : List BotRow). all_of (at tasks l blobs (newest_of 0 blobs))) (sym (append-nil done))
  bots_read place tasks done (b ∷ bots) blobs bots_told told numbered rise =
      let rows = at tasks done [] 0 in
      let number : (b.no == length done + 1) ≡ true = eq-eqb b.no (length done + 1) numbered.0 in
      let next = next_line rows (row.Bot b) (All-head ToldBot b bots bots_told) (rw number refl) in
      let counted : length done + 1 + 1 ≡ length (done ++ idle_bot b ∷ []) + 1 = (let both = length-append done (idle_bot b ∷ []) in omega (arith, both)) in
      read_next place rows (with_row rows (as_told (row.Bot b))) (bot_line b) (map bot_line bots ++ map blob_line blobs) next
      ∙ bots_read (place + 1) tasks (done ++ idle_bot b ∷ []) bots blobs (All-tail ToldBot b bots bots_told) told (subst (λ (n : ℕ). AreNumbered no_of_bot n bots) counted numbered.1) rise
      ∙ ap (λ (l : List BotRow). all_of (at tasks l blobs (newest_of 0 blobs))) (append_assoc done (idle_bot b ∷ []) (map idle_bot bots))

  tasks_read : (place : ℕ) (done tasks : List TaskRow) (bots : List BotRow) (blobs : List BlobRow) → All ToldTask tasks → All ToldBot bots → All ToldBlob blobs →
      AreNumbered no_of_task (length done + 1) tasks → AreNumbered no_of_bot 1 bots → RiseFrom 0 blobs →
      read_from place (at done [] [] 0) (map task_line tasks ++ (map bot_line bots ++ map blob_line blobs)) ≡ Ok (at (done ++ tasks) (map idle_bot bots) blobs (newest_of 0 blobs))
  tasks_read place done [] bots blobs tasks_told bots_told told counted numbered rise =
      bots_read place done [] bots blobs bots_told told numbered rise ∙ ap (λ (l : List TaskRow). all_of (at l (map idle_bot bots) blobs (newest_of 0 blobs))) (sym (append-nil done))
  tasks_read place done (t ∷ tasks) bots blobs tasks_told bots_told told counted numbered rise =
      let rows = at done [] [] 0 in
      let number : (t.no == length done + 1) ≡ true = eq-eqb t.no (length done + 1) counted.0 in
      let next = next_line rows (row.Task t) (All-head ToldTask t tasks tasks_told) (rw number refl) in
      let more : length done + 1 + 1 ≡ length (done ++ t ∷ []) + 1 = (let both = length-append done (t ∷ []) in omega (arith, both)) in
      read_next place rows (with_row rows (row.Task t)) (task_line t) (map task_line tasks ++ (map bot_line bots ++ map blob_line blobs)) next
      ∙ tasks_read (place + 1) (done ++ t ∷ []) tasks bots blobs (All-tail ToldTask t tasks tasks_told) bots_told told (subst (λ (n : ℕ). AreNumbered no_of_task n tasks) more counted.1) numbered rise
      ∙ ap (λ (l : List TaskRow). all_of (at l (map idle_bot bots) blobs (newest_of 0 blobs))) (append_assoc done (t ∷ []) tasks)

lines_read : (s : PoolState) → IsToldByItsLine (row.Pool (pool_of s)) → All ToldTask s.tasks → All ToldBot s.bots → All ToldBlob s.blobs →
    AreNumbered no_of_task 1 s.tasks → AreNumbered no_of_bot 1 s.bots → RiseFrom 0 s.blobs → read_lines (base_lines s) ≡ Ok (rows_of s)
lines_read s first tasks_told bots_told told counted numbered rise =
    let next = next_line nothing_read (row.Pool (pool_of s)) first refl in
    read_next 0 nothing_read (with_row nothing_read (row.Pool (pool_of s))) (row_line (row.Pool (pool_of s))) (map task_line s.tasks ++ (map bot_line s.bots ++ map blob_line s.blobs)) next
    ∙ tasks_read (pool_of s) 1 [] s.tasks s.bots s.blobs tasks_told bots_told told counted numbered rise

-- ---- what lines leave out

task_is_computed : (s : PoolState) (task : TaskRow) → IsSoundTask s task → HasMeasuredRuns task
task_is_computed s task sound = (IfSome_then task.attempt sound.output measured, IfSome_then task.retried sound.retried (λ lost h. measured lost.attempt h.output))

tasks_are_computed : (s : PoolState) → IsSound s → All HasMeasuredRuns s.tasks
tasks_are_computed s o = All-weaker (IsSoundTask s) HasMeasuredRuns (task_is_computed s) s.tasks o.tasks

-- the rows that the lines tell are the pool's
is_the_pool : (s : PoolState) → IsSound s → base_of s.settings (rows_of s) ≡ s
is_the_pool s o =
    let runs : map (with_run s.tasks) (map idle_bot s.bots) ≡ s.bots = map-map (with_run s.tasks) idle_bot s.bots ∙ runs_again s o in
    λ i. record s { bots = runs i }

pub tell_the_pool : (s : PoolState) → ReadsBack (row.Pool (pool_of s)) → All (λ task. ReadsBack (row.Task task)) s.tasks → All (λ bot. ReadsBack (row.Bot bot)) s.bots → All (λ blob. ReadsBack (row.Blob blob)) s.blobs →
    (lines : List Text) → lines ≡ base_lines s → TellThePool s lines
tell_the_pool s pool tasks bots blobs lines is sound rise =
    let computed = tasks_are_computed s sound in
    let read =
    lines_read s (pool tt) (λ k d low. tasks k d low (computed k d low)) (λ k d low. bots k d low tt) (λ k d low. blobs k d low (sound.blobs k d low).units) sound.tasks_numbered sound.bots_numbered rise in
    (ap read_lines is ∙ read, is_the_pool s sound)
