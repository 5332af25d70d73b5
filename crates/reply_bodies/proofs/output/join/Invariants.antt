use Rattle.std.proofs.Common.{◌≡◌, ◌++◌}
use Rattle.reply_bodies.specs.Bodies.{joined}
use Rattle.reply_bodies.proofs.output.join.Given as goal

abbrev pub invariant-loop-part : goal.invariant-loop-part
invariant-loop-part l = joined l.fn.parts l.fn.pieces ≡ l.bytes.items ++ joined l.part-iterator.a.rest.now l.part-iterator.b.rest.now
