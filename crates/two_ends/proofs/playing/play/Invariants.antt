use Rattle.std.specs.Prelude.{take}
use Rattle.bot_worlds.specs.Turns.{Played}
use Rattle.two_ends.proofs.playing.play.Given as goal

abbrev pub invariant-loop-turn : goal.invariant-loop-turn
invariant-loop-turn g l = Played l.fn.world (take l.turn-index l.fn.turns) l.world
