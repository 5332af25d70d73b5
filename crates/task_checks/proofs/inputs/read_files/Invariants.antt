use Rattle.std.proofs.Common.{◌≡◌, map}
use Rattle.task_checks.specs.Reading.{file_of}
use Rattle.task_checks.proofs.inputs.read_files.Given as goal

abbrev pub invariant-loop-file : goal.invariant-loop-file
invariant-loop-file l = l.files.items ≡ map file_of l.yielded
