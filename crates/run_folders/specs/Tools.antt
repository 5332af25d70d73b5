-- How the programs of the system are run.
use Rattle.std.specs.Prelude.{◌≡◌, ℕ, List, ◌∷◌, codes}
use Rattle.std.specs.Process.{command_program, command_args}
use Rattle.std.specs.declared.process.Command.{Command}

-- it runs a program with its arguments, and kills it after 300 seconds
pub record IsTool {A : Type 0} (words : List (List ℕ)) (tool : Command A) : Type 0 where
  pub program : command_program tool ≡ codes "timeout"
  pub args : command_args tool ≡ codes "-s" ∷ codes "KILL" ∷ codes "300" ∷ words
