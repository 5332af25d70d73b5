-- The row stands at its place, and keeps its number.
use Rattle.std.proofs.Common.{refl, sym}
use Rattle.swarm_model.specs.Effects.{no_of_task, lengthened}
use Rattle.row_changes.specs.Rows.{StandsAt}
use Rattle.row_changes.proofs.Numbered.{found, changed, changed_none, still_numbered}
use Rattle.row_changes.proofs.output.lengthen_at.Goals as goal

pub lengthen-requires-clause-room : goal.lengthen-requires-clause-room
lengthen-requires-clause-room c =
    let stands : StandsAt c.args.rows.now.items c.args.no c.in-Some.place = rw (← c.deref.ensures.value) c.in-Some.ensures in
    let is = found no_of_task c.args.rows.now.items c.args.no c.in-Some.place c.index_mut.result.now c.requires.numbered stands c.index_mut.ensures.value in
    rw is at c.requires.room

pub lengthen-requires-clause-short : goal.lengthen-requires-clause-short
lengthen-requires-clause-short c =
    let stands : StandsAt c.args.rows.now.items c.args.no c.in-Some.place = rw (← c.deref.ensures.value) c.in-Some.ensures in
    let is = found no_of_task c.args.rows.now.items c.args.no c.in-Some.place c.index_mut.result.now c.requires.numbered stands c.index_mut.ensures.value in
    rw is at c.requires.short

pub returns-in-Some-clause-rows : goal.returns-in-Some-clause-rows
returns-in-Some-clause-rows c =
    let stands : StandsAt c.args.rows.now.items c.args.no c.in-Some.place = rw (← c.deref.ensures.value) c.in-Some.ensures in
    rw c.lengthen.ensures (sym (changed no_of_task c.args.rows.now.items c.args.no c.in-Some.place (lengthened c.args.chunk) c.index_mut.result.now c.requires.numbered stands c.index_mut.ensures.value))

pub returns-in-Some-clause-numbered : goal.returns-in-Some-clause-numbered
returns-in-Some-clause-numbered c =
    let stands : StandsAt c.args.rows.now.items c.args.no c.in-Some.place = rw (← c.deref.ensures.value) c.in-Some.ensures in
    let is = changed no_of_task c.args.rows.now.items c.args.no c.in-Some.place (lengthened c.args.chunk) c.index_mut.result.now c.requires.numbered stands c.index_mut.ensures.value in
    rw (c.lengthen.ensures, ← is) (still_numbered no_of_task c.args.no (lengthened c.args.chunk) c.args.rows.now.items (λ task. refl) c.requires.numbered)

pub returns-in_default-clause-rows : goal.returns-in_default-clause-rows
returns-in_default-clause-rows c =
    sym (changed_none no_of_task c.args.rows.now.items c.args.no (lengthened c.args.chunk) (rw c.deref.ensures.value at c.in_default.ensures))
