use Rattle.std.proofs.Common.{◌≡◌, take}
use Rattle.std.specs.List.{flat_map}
use Rattle.swarm_batch.specs.Lines.{ended}
use Rattle.swarm_batch.specs.Marks.{mark_lines}
use Rattle.swarm_batch.specs.Batches.{AreMarks}
use Rattle.swarm_batch.proofs.progress.marks_of.Given as goal

abbrev pub invariant-loop-text : goal.invariant-loop-text
invariant-loop-text l = AreMarks l.most l.marks × (mark_lines 1 l.marks ≡ flat_map ended (take l.text-index l.cut.lines))
