-- Slices and files of small tasks.
use Rattle.std.specs.Prelude.{ℕ, true, pos, [], ◌∷◌, codes}
use Rattle.task_props.specs.declared.properties.Properties.{Properties}
use Rattle.task_props.specs.declared.slice.Slice.{Slice}
use Rattle.task_props.specs.Examples.{small}
use Rattle.task_checks.specs.declared.raw_task.RawFile.{RawFile}

-- a slice that waits
abbrev pub slice_of : ℕ → Properties → Slice
slice_of secs properties = record { expiration_secs = secs; wait_for_capacity = true; properties = properties }

-- the small task, on other bots
abbrev pub on_linux : Properties
on_linux = record small { dimensions = (codes "os", codes "Linux") ∷ (codes "pool", codes "default") ∷ [] }

-- a file as it is read of a body
abbrev pub main_file : RawFile
main_file =
    record {
      path = codes "src/main.c";
      digest = codes "5891b5b522d5df086d0ff0b110fbd9d21bb4fc7163af34d08286a2e846f6be03";
      size = pos 6;
    }
