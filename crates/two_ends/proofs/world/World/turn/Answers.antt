-- A turn keeps what stands of a world.
use Rattle.two_ends.specs.Ends.{world_of}
use Rattle.two_ends.proofs.Standings.{newest_once, stands_after}
use Rattle.two_ends.proofs.world.World.turn.Goals as goal

pub take_turn-requires-clause-once : goal.take_turn-requires-clause-once
take_turn-requires-clause-once g c = newest_once (world_of (g.M.Machine.kept c.self.inside.machine) c.self.inside.end) c.self.invariant.stands

pub invariant_of-self : goal.invariant_of-self
invariant_of-self g c = record {
  stands =
      stands_after (world_of (g.M.Machine.kept c.self.inside.machine) c.self.inside.end) (world_of (g.M.Machine.kept c.take_turn.new.machine) c.take_turn.new.end) c.args.turn.now c.take_turn.result
      c.self.invariant.stands c.take_turn.ensures.turned c.take_turn.ensures.part;
  filled = c.take_turn.ensures.filled;
  action = c.take_turn.ensures.action;
}
