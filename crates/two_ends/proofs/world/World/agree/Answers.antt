-- What stands of the world gives both sentences.
use Rattle.std.proofs.Common.{subst}
use Rattle.bot_worlds.specs.TwoEnds.{OutputIsPrefix, StartsOnce}
use Rattle.bot_worlds.proofs.Standing.{stands_output, stands_starts}
use Rattle.two_ends.specs.Ends.{world_of}
use Rattle.two_ends.proofs.world.World.agree.Goals as goal

pub returns-clause-output : goal.returns-clause-output
returns-clause-output g c = subst OutputIsPrefix c.self.view_is (stands_output (world_of (g.M.Machine.kept c.self.inside.machine) c.self.inside.end) c.self.invariant.stands)

pub returns-clause-starts : goal.returns-clause-starts
returns-clause-starts g c = subst StartsOnce c.self.view_is (stands_starts (world_of (g.M.Machine.kept c.self.inside.machine) c.self.inside.end) c.self.invariant.stands)
