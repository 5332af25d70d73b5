use Rattle.std.proofs.Common.{◌≡◌, take, map}
use Rattle.std.specs.List.{fold}
use Rattle.swarm_model.specs.Deadlines.{sooner, blob_end}
use Rattle.swarm_plain.proofs.deadlines.blobs_ends.Given as goal

abbrev pub invariant-loop-at : goal.invariant-loop-at
invariant-loop-at l = l.soonest ≡ fold sooner l.fn.best (map blob_end (take l.at l.blobs.rows))
