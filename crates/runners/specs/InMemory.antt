-- A runner in memory.
use Rattle.std.specs.Prelude.{ℕ, List, [], ◌∷◌, Option, Some, None}
use Rattle.runners.specs.declared.answer.RunnerAnswer.{RunnerAnswer}
use Rattle.runners.specs.declared.answer.RunnerAnswer.TheVariants as answer

-- the answers that are left: what is left of an output stands before the others
abbrev pub with_output : List ℕ → List RunnerAnswer → List RunnerAnswer
with_output [] answers = answers
with_output (b ∷ bytes) answers = answer.Output (b ∷ bytes) ∷ answers

-- an answer that is taken by another call than a look
abbrev pub unless_output : RunnerAnswer → List RunnerAnswer → RunnerAnswer × List RunnerAnswer
unless_output (answer.Output bytes) rest = (answer.Failure, rest)
unless_output a rest = (a, rest)

-- the answer that tells what was found
abbrev pub file_answer : Option (Option (List ℕ)) → RunnerAnswer
file_answer None = answer.Failure
file_answer (Some None) = answer.NoFile
file_answer (Some (Some bytes)) = answer.File bytes
