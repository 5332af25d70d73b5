use Rattle.std.proofs.Common.{◌≡◌, take, None}
use Rattle.std.specs.List.{fold}
use Rattle.swarm_model.specs.Reuse.{newer, is_source}
use Rattle.swarm_plain.proofs.sources.newest_source.Given as goal

abbrev pub invariant-loop-place : goal.invariant-loop-place
invariant-loop-place l =
    fold (newer (is_source l.age l.moment l.digest)) None (take l.place l.tasks) ≡
    fold (newer (is_source l.age l.moment l.digest)) None l.tasks
