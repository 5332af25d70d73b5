-- The uses are those of the rows after the entry.
use Rattle.std.proofs.Common.{◌≡◌, ℕ, Option, Some, None, sym, ap, ◌∙◌, subst}
use Rattle.swarm_machine.specs.Types.{Chunk, Entry, PoolState, TaskRow}
use Rattle.swarm_model.specs.Effects.{after}
use Rattle.pool_index.specs.Uses.{uses_of}
use Rattle.index_laws.specs.StateCounts.{touched_row}
use Rattle.index_laws.specs.TaskUses.{row_after}
use Rattle.index_laws.specs.Touched.{touched_task}
use Rattle.common_rows.specs.Rows.{state_of}
use Rattle.swarm_machine.specs.Uses.{IsChunkOf}
use Rattle.swarm_machine.specs.UsesBehind.{AreUses}
use Rattle.swarm_machine.proofs.UsesFollow.{fresh_is_chunk, room_for_brought, counts_with_brought, counts_no_row, counts_row_not_ended, can_remove_uses, counts_row_ended}
use Rattle.swarm_machine.proofs.uses.follow_uses.Goals as goal

-- the touched row after the entry, as it is read
row_is : (s : PoolState) (e : Entry) (now : PoolState) (touched : Option ℕ) → now ≡ after s e → touched ≡ touched_task s e.kind → (row : Option TaskRow) → row ≡ touched_row now touched → row_after s e ≡ row
row_is s e now touched is task row read =
    sym (read ∙ ap (λ (p : PoolState). touched_row p touched) is ∙ ap (λ (t : Option ℕ). touched_row (after s e) t) task)

pub add_uses-requires-clause-fresh : goal.add_uses-requires-clause-fresh
add_uses-requires-clause-fresh c =
    let b = c.requires in
    subst (λ (fresh : Option Chunk). IsChunkOf c.args.entry.now.kind fresh) (sym b.fresh) (fresh_is_chunk b.before c.args.entry.now.kind)

pub add_uses-requires-clause-small : goal.add_uses-requires-clause-small
add_uses-requires-clause-small c =
    let b = c.requires in
    room_for_brought b.before c.args.entry.now.kind c.args.touched.fresh b.fresh (uses_of c.args.uses.now) b.uses_of_rows.counted b.few

pub remove_uses-requires : goal.remove_uses-requires
remove_uses-requires c =
    let b = c.requires in
    let e = c.args.entry.now in
    let gained = counts_with_brought b.before e.kind c.args.touched.fresh b.fresh (uses_of c.args.uses.now) (uses_of c.add_uses.new.uses) c.add_uses.ensures in
    let row = row_is b.before e (state_of c.args.rows.now) c.args.touched.task b.is_after b.task (Some c.in-Some.task.now) c.in-Some.ensures in
    can_remove_uses b.before e b.sound b.follows (uses_of c.args.uses.now) (uses_of c.add_uses.new.uses) b.uses_of_rows.counted gained c.in-Some.task.now row (sym c.is_final.ensures ∙ c.if-is_final.true)

pub returns-in-None : goal.returns-in-None
returns-in-None c =
    let b = c.requires in
    let e = c.args.entry.now in
    let gained = counts_with_brought b.before e.kind c.args.touched.fresh b.fresh (uses_of c.args.uses.now) (uses_of c.add_uses.new.uses) c.add_uses.ensures in
    let row = row_is b.before e (state_of c.args.rows.now) c.args.touched.task b.is_after b.task None c.in-None.ensures in
    subst (AreUses c.add_uses.new.uses) (sym b.is_after)
    (record { counted = counts_no_row b.before e b.sound b.follows (uses_of c.args.uses.now) (uses_of c.add_uses.new.uses) b.uses_of_rows.counted gained row })

pub returns-then-is_final : goal.returns-then-is_final
returns-then-is_final c =
    let b = c.requires in
    let e = c.args.entry.now in
    let gained = counts_with_brought b.before e.kind c.args.touched.fresh b.fresh (uses_of c.args.uses.now) (uses_of c.add_uses.new.uses) c.add_uses.ensures in
    let row = row_is b.before e (state_of c.args.rows.now) c.args.touched.task b.is_after b.task (Some c.in-Some.task.now) c.in-Some.ensures in
    subst (AreUses c.remove_uses.new.uses) (sym b.is_after)
    (record {
      counted = counts_row_ended b.before e b.sound b.follows (uses_of c.args.uses.now) (uses_of c.add_uses.new.uses) b.uses_of_rows.counted gained c.in-Some.task.now row
          (sym c.is_final.ensures ∙ c.if-is_final.true) (uses_of c.remove_uses.new.uses) c.remove_uses.ensures;
    })

pub returns-else-is_final : goal.returns-else-is_final
returns-else-is_final c =
    let b = c.requires in
    let e = c.args.entry.now in
    let gained = counts_with_brought b.before e.kind c.args.touched.fresh b.fresh (uses_of c.args.uses.now) (uses_of c.add_uses.new.uses) c.add_uses.ensures in
    let row = row_is b.before e (state_of c.args.rows.now) c.args.touched.task b.is_after b.task (Some c.in-Some.task.now) c.in-Some.ensures in
    subst (AreUses c.add_uses.new.uses) (sym b.is_after)
    (record {
      counted = counts_row_not_ended b.before e b.sound b.follows (uses_of c.args.uses.now) (uses_of c.add_uses.new.uses) b.uses_of_rows.counted gained c.in-Some.task.now row
          (sym c.is_final.ensures ∙ c.if-is_final.false);
    })
