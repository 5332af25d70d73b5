-- Which answer a call takes off the answers that are left, and what is left then.
use Rattle.std.specs.Prelude.{ℕ, nat_lt, ◌==◌, List, [], ◌∷◌, length, take, drop, if◌then◌else◌}
use Rattle.runners.specs.declared.answer.RunnerAnswer.{RunnerAnswer}
use Rattle.runners.specs.declared.answer.RunnerAnswer.TheVariants as answer
use Rattle.runners.specs.declared.call.RunnerCall.{RunnerCall}
use Rattle.runners.specs.declared.call.RunnerCall.TheVariants as call

-- An answer is taken from a list of which it was the first. What doesn't fit the call is a failure.

-- by `open`, `prepare`, `start`, `signal` and `keep`
abbrev pub as_done : RunnerAnswer → List RunnerAnswer → RunnerAnswer × List RunnerAnswer
as_done answer.Done rest = (answer.Done, rest)
as_done a rest = (answer.Failure, rest)

-- what a look with so much room shows of an output, of which the rest stays first; an empty output is quiet
abbrev pub next_output : ℕ → List ℕ → List RunnerAnswer → RunnerAnswer × List RunnerAnswer
next_output room bytes rest =
    if nat_lt 0 (length bytes)
    then (if nat_lt 0 room
    then (answer.Output (take room bytes), (if nat_lt room (length bytes) then answer.Output (drop room bytes) ∷ rest else rest))
    else (answer.Quiet, answer.Output bytes ∷ rest))
    else (answer.Quiet, rest)

-- by `look`, with so much room
abbrev pub as_look : ℕ → RunnerAnswer → List RunnerAnswer → RunnerAnswer × List RunnerAnswer
as_look room (answer.Output bytes) rest = next_output room bytes rest
as_look room answer.Quiet rest = (answer.Quiet, rest)
as_look room (answer.Ended code) rest = (answer.Ended code, rest)
as_look room a rest = (answer.Failure, rest)

-- by `collect`
abbrev pub as_file : RunnerAnswer → List RunnerAnswer → RunnerAnswer × List RunnerAnswer
as_file (answer.File bytes) rest = (answer.File bytes, rest)
as_file answer.NoFile rest = (answer.NoFile, rest)
as_file a rest = (answer.Failure, rest)

-- by `clean`, of so many caches
abbrev pub as_sizes : ℕ → RunnerAnswer → List RunnerAnswer → RunnerAnswer × List RunnerAnswer
as_sizes caches (answer.Cleaned sizes) rest = (if length sizes == caches then answer.Cleaned sizes else answer.Failure, rest)
as_sizes caches a rest = (answer.Failure, rest)

abbrev pub as_answer : RunnerCall → RunnerAnswer → List RunnerAnswer → RunnerAnswer × List RunnerAnswer
as_answer (call.Open bot) a rest = as_done a rest
as_answer (call.Prepare run inputs caches) a rest = as_done a rest
as_answer (call.Start command env) a rest = as_done a rest
as_answer (call.Look room) a rest = as_look room a rest
as_answer (call.Signal signal) a rest = as_done a rest
as_answer (call.Collect path most) a rest = as_file a rest
as_answer (call.Clean caches) a rest = as_sizes (length caches) a rest
as_answer (call.Keep names) a rest = as_done a rest

-- the first answer as it is taken; where none is left, the call fails
abbrev pub first_taken : (RunnerAnswer → List RunnerAnswer → RunnerAnswer × List RunnerAnswer) → List RunnerAnswer → RunnerAnswer × List RunnerAnswer
first_taken taken [] = (answer.Failure, [])
first_taken taken (a ∷ rest) = taken a rest

-- the answer to a call, and what is left
abbrev pub answer_for : RunnerCall → List RunnerAnswer → RunnerAnswer × List RunnerAnswer
answer_for call left = first_taken (as_answer call) left
