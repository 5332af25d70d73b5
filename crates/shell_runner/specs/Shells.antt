-- What a shell tells, and what its operations do to that.
use Rattle.std.specs.Prelude.{◌≡◌, ℕ, ◌≤◌, ◌<◌, Bool, true, false, IsTrue, List, [], ◌∷◌, ◌++◌, length, Option, Some, None, Result, Ok, Err, IfSome, ◌⊎◌}
use Rattle.std.specs.IoError.{error_kind}
use Rattle.std.specs.declared.io.Error.{Error}
use Rattle.std.specs.declared.io.ErrorKind.{ErrorKind}
use Rattle.std.specs.declared.io.ErrorKind.TheVariants.{OutOfMemory}
use Rattle.sw_base.specs.Faults.{Rose}
use Rattle.sw_base.specs.declared.start_fault.StartFault.{StartFault}
use Rattle.sw_base.specs.declared.start_fault.StartFault.TheVariants as start
use Rattle.runners.specs.declared.answer.Look.{Look}
use Rattle.runners.specs.declared.answer.RunnerAnswer.{RunnerAnswer}
use Rattle.runners.specs.declared.answer.RunnerAnswer.TheVariants as answer
use Rattle.runners.specs.declared.call.RunnerCall.{RunnerCall}
use Rattle.runners.specs.declared.call.RunnerCall.TheVariants as call
use Rattle.runners.specs.Answers.{answer_for}
use Rattle.runners.specs.Calls.{RunnerState, look_answer, FitsRoom}

-- the calls that a shell was asked to carry out and the answers that are left, where it tells them
pub record ShellState : Type 0 where
  pub calls : Option (List RunnerCall)
  pub answers : Option (List RunnerAnswer)

-- a shell that tells nothing
abbrev pub untold : ShellState
untold = record { calls = None; answers = None }

-- what a runner tells over a shell, with its own count of faults
abbrev pub told_by : ShellState → ℕ → RunnerState
told_by s faults = record { calls = s.calls; answers = s.answers; faults = faults }

-- where the shell tells, the call is the last of its calls, and its answer was taken off those that were left
pub record Answers (before after : ShellState) (call : RunnerCall) (a : RunnerAnswer) : Type 0 where
  pub calls : IfSome before.calls (λ made. after.calls ≡ Some (made ++ call ∷ []))
  pub answers : IfSome before.answers (λ left. (rest : List RunnerAnswer) × (answer_for call left ≡ (a, rest)) × (after.answers ≡ Some rest))

-- the kind of an error that is want of memory
abbrev pub is_memory : ErrorKind → Bool
is_memory OutOfMemory = true
is_memory _ = false

-- the call has this error: its answer was a failure, or it isn't told; it isn't told where there was no memory
pub record Fails (error : Error) (before after : ShellState) (call : RunnerCall) : Type 0 where
  pub told : Answers before after call answer.Failure ⊎ (after ≡ before)
  pub memory : IsTrue (is_memory (error_kind error)) → after ≡ before

-- a call that answers nothing more
abbrev pub Carries : Result (Unit {0}) Error → ShellState → ShellState → RunnerCall → Type 0
Carries (Ok done) before after call = Answers before after call answer.Done
Carries (Err error) before after call = Fails error before after call

-- a look; `into` is the buffer after it
abbrev pub Shows : Result Look Error → List ℕ → ShellState → ShellState → Type 0
Shows (Ok l) into before after = FitsRoom l (length into) × Answers before after (call.Look (length into)) (look_answer l into)
Shows (Err error) into before after = Fails error before after (call.Look (length into))

-- a signal, which is sent or not, where there is nothing to send it to
abbrev pub Sends : Result Bool Error → ShellState → ShellState → RunnerCall → Type 0
Sends (Ok true) before after call = Answers before after call answer.Done
Sends (Ok false) before after call = Answers before after call answer.Failure ⊎ (after ≡ before)
Sends (Err error) before after call = Fails error before after call

-- these are the bytes of a file, where they are no more than `most`; otherwise it has more than that too
pub record IsRead (bytes : List ℕ) (most : ℕ) (before after : ShellState) (call : RunnerCall) : Type 0 where
  pub whole : length bytes ≤ most → Answers before after call (answer.File bytes)
  pub long : most < length bytes → (file : List ℕ) × (most < length file) × Answers before after call (answer.File file)

-- a file that is read up to one byte more than `most`
abbrev pub ReadsFile : Result (Option (List ℕ)) Error → ℕ → ShellState → ShellState → RunnerCall → Type 0
ReadsFile (Ok (Some bytes)) most before after call = IsRead bytes most before after call
ReadsFile (Ok None) most before after call = Answers before after call answer.NoFile
ReadsFile (Err error) most before after call = Fails error before after call

-- a run is cleared away, of so many caches
abbrev pub ClearsAway : Result (List ℕ) Error → ℕ → ShellState → ShellState → RunnerCall → Type 0
ClearsAway (Ok sizes) caches before after call = (length sizes ≡ caches) × Answers before after call (answer.Cleaned sizes)
ClearsAway (Err error) caches before after call = Fails error before after call

-- what a runner answers for an error, with its counts of faults before and after that
abbrev pub IsFault : StartFault → Error → ℕ → ℕ → Type 0
IsFault start.Memory error before after = IsTrue (is_memory (error_kind error)) × (after ≡ before)
IsFault start.Failed error before after = Rose before after
