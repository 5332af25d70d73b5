-- Reports with files.
use Rattle.std.specs.Prelude.{ℕ, pos, [], ◌∷◌, Some, None, codes}
use Rattle.swarm_model.specs.declared.request.Request.{Request}
use Rattle.swarm_model.specs.declared.request.Request.TheVariants as ask
use Rattle.swarm_model.specs.Examples.{exited_with}
use Rattle.task_props.specs.Examples.{small_hash}

-- a report of an end, with one file of this size
abbrev pub leaves_file : ℕ → Request
leaves_file size =
    ask.Update (codes "b1") 1 1 None (Some (record (exited_with (pos 0)) { files = (record { path = codes "out"; digest = small_hash; size = size }) ∷ [] }))
