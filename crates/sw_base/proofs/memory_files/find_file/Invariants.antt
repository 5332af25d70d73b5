use Rattle.std.proofs.Common.{◌≡◌, drop}
use Rattle.sw_base.specs.Files.{file_at}
use Rattle.sw_base.proofs.memory_files.find_file.Given as goal

abbrev pub invariant-loop-name : goal.invariant-loop-name
invariant-loop-name l = file_at l.files l.path ≡ file_at (drop l.name-index l.files) l.path
