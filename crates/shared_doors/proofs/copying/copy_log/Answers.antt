-- One entry more is copied.
use Rattle.std.proofs.Common.{◌≡◌, ◌+◌, Some, arith, sym, ◌∙◌}
use Rattle.std.specs.Prelude.{slice_get}
use Rattle.swarm_model.specs.declared.entry.Entry.{Entry}
use Rattle.swarm_model.specs.MachineState.{MachineState}
use Rattle.shared_doors.proofs.Copies.{copied_more, entry_at}
use Rattle.shared_doors.proofs.copying.copy_log.Goals as goal

pub loop-place-preserved : goal.loop-place-preserved
loop-place-preserved g c =
    let kept : MachineState = g.M.Machine.kept c.args.machine.now in
    let i = c.loop-place.invariant in
    let at = c.args.from + c.loop-place.place in
    let entry : Entry = c.in-Some.entry.now in
    let there : slice_get kept.log at ≡ Some entry = sym (entry_at kept.start kept.log at c.requires.first) ∙ sym c.in-Some.ensures in
    record {
      copied =
          copied_more kept.log c.args.from c.loop-place.place entry c.in_ok-copy_entry.field-0 c.loop-place.entries.items c.push_reserved.new.self.items
          there c.in_ok-copy_entry.ensures i.copied c.push_reserved.ensures.items;
      count = omega (arith, i.count, c.push_reserved.ensures.len);
      room = omega (arith, i.room, c.push_reserved.ensures.capacity);
    }
