-- A task stands at the place before its number.
use Rattle.std.proofs.Common.{◌≡◌, ◌<◌, ◌≤◌, ℕ, ◌+◌, ◌-◌, refl, sym, ap, ◌∙◌, find, length, arith}
use Rattle.std.proofs.lemmas.Option.{slice_get_read, slice_get_past}
use Rattle.swarm_model.specs.Effects.{no_of_task}
use Rattle.swarm_model.specs.Finding.{is_task}
use Rattle.row_changes.proofs.Numbered.{none_at_zero}
use Rattle.common_rows.proofs.NumberedTasks.{find_number}
use Rattle.common_rows.proofs.pages.task_of.Goals as goal

pub returns-then-number-eq0-clause-value : goal.returns-then-number-eq0-clause-value
returns-then-number-eq0-clause-value g c =
    let rows = c.args.tasks.now.rows in
    let zero : c.args.number ≡ 0 = omega (arith, c.if-number-eq0.true) in
    sym (ap (λ (n : ℕ). find (is_task n) rows) zero ∙ none_at_zero no_of_task rows c.requires.numbered)

pub returns-then-place-count-clause-value : goal.returns-then-place-count-clause-value
returns-then-place-count-clause-value g c =
    let rows = c.args.tasks.now.rows in
    let place = c.args.number - 1 in
    let next : c.args.number ≡ place + 1 = omega (arith, c.if-number-eq0.false) in
    let low : place < length rows = omega (arith, c.if-place-count.true, c.count.ensures) in
    sym (find_number rows c.args.number place c.requires.numbered next ∙ slice_get_read rows (length rows) place c.task_at.result.now refl low c.task_at.ensures.is)

pub returns-else-place-count-clause-value : goal.returns-else-place-count-clause-value
returns-else-place-count-clause-value g c =
    let rows = c.args.tasks.now.rows in
    let place = c.args.number - 1 in
    let next : c.args.number ≡ place + 1 = omega (arith, c.if-number-eq0.false) in
    let past : length rows ≤ place = omega (arith, c.if-place-count.false, c.count.ensures) in
    sym (find_number rows c.args.number place c.requires.numbered next ∙ slice_get_past rows place past)
