-- The first turns were played.
use Rattle.std.proofs.Common.{◌≡◌, take}
use Rattle.batch_plays.specs.Turns.{Played}
use Rattle.batch_plays.specs.World.{world_of, IsReady}
use Rattle.batch_plays.proofs.play.play_batch.Given as goal

abbrev pub invariant-loop-turn : goal.invariant-loop-turn
invariant-loop-turn g l = record {
  ready : IsReady l.settings (g.M.Machine.kept l.machine) l.files;
  start : (g.M.Machine.kept l.machine).start ≡ (g.M.Machine.kept l.initial.machine).start;
  played : Played l.settings l.who (world_of (g.M.Machine.kept l.initial.machine) l.initial.files) (take l.turn-index l.turns) (world_of (g.M.Machine.kept l.machine) l.files);
}
