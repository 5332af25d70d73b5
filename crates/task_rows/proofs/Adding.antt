-- The rows after a row is added.
use Rattle.std.proofs.Common.{◌≡◌, ℕ, List, [], ◌∷◌, ◌++◌, map, map-id, sym, ap, ◌∙◌}
use Rattle.swarm_model.specs.declared.task_row.TaskRow.{TaskRow}
use Rattle.swarm_model.specs.declared.entry.Entry.{Entry}
use Rattle.swarm_model.specs.declared.entry.EntryKind.{EntryKind}
use Rattle.swarm_model.specs.declared.entry.EntryKind.TheVariants as kind
use Rattle.swarm_model.specs.Effects.{added_tasks}
use Rattle.task_rows.specs.Acting.{AddsRow, IsAfter}

adds_kind : (rows : List TaskRow) (number moment pass : ℕ) (k : EntryKind) (row : TaskRow) → AddsRow number k → added_tasks moment k ≡ row ∷ [] →
    IsAfter rows (record { moment = moment; pass = pass; kind = k }) (rows ++ row ∷ [])
adds_kind rows number moment pass (kind.New t who request state slice from) row is added s of =
    sym (ap (λ (tail : List TaskRow). map (λ task. task) s.tasks ++ tail) added ∙ ap (λ (xs : List TaskRow). xs ++ row ∷ []) (map-id s.tasks ∙ of))
adds_kind rows number moment pass k row is added s of = absurd is

-- the row of a new task comes behind the others, which stay
pub adds : (rows : List TaskRow) (number : ℕ) (entry : Entry) (row : TaskRow) → AddsRow number entry.kind → added_tasks entry.moment entry.kind ≡ row ∷ [] → IsAfter rows entry (rows ++ row ∷ [])
adds rows number entry row = adds_kind rows number entry.moment entry.pass entry.kind row
