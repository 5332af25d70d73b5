-- What a runner tells, and what its calls do to that.
use Rattle.std.specs.Prelude.{◌≡◌, ℕ, ◌≤◌, ◌<◌, List, [], ◌∷◌, ◌++◌, length, take, Option, Some, None, Result, Ok, Err, IfSome, ◌⊎◌}
use Rattle.sw_base.specs.Faults.{Rose}
use Rattle.sw_base.specs.declared.failed.Failed.{Failed}
use Rattle.sw_base.specs.declared.start_fault.StartFault.{StartFault}
use Rattle.sw_base.specs.declared.start_fault.StartFault.TheVariants as start
use Rattle.runners.specs.declared.answer.Look.{Look}
use Rattle.runners.specs.declared.answer.Look.TheVariants as look
use Rattle.runners.specs.declared.answer.RunnerAnswer.{RunnerAnswer}
use Rattle.runners.specs.declared.answer.RunnerAnswer.TheVariants as answer
use Rattle.runners.specs.declared.call.RunnerCall.{RunnerCall}
use Rattle.runners.specs.declared.call.RunnerCall.TheVariants as call
use Rattle.runners.specs.declared.collect_fault.CollectFault.{CollectFault}
use Rattle.runners.specs.declared.collect_fault.CollectFault.TheVariants as fault
use Rattle.runners.specs.Answers.{answer_for}

-- the calls made on a runner and the answers that are left, where it tells them, and how many of its calls failed
pub record RunnerState : Type 0 where
  pub calls : Option (List RunnerCall)
  pub answers : Option (List RunnerAnswer)
  pub faults : ℕ

-- where the runner tells, the call is the last of its calls, and its answer was taken off those that were left
pub record TakesAnswer (before after : RunnerState) (call : RunnerCall) (a : RunnerAnswer) : Type 0 where
  pub calls : IfSome before.calls (λ made. after.calls ≡ Some (made ++ call ∷ []))
  pub answers : IfSome before.answers (λ left. (rest : List RunnerAnswer) × (answer_for call left ≡ (a, rest)) × (after.answers ≡ Some rest))

-- the call had this answer and didn't fail
pub record Succeeds (before after : RunnerState) (call : RunnerCall) (a : RunnerAnswer) : Type 0 where
  pub answer : TakesAnswer before after call a
  pub faults : after.faults ≡ before.faults

-- all that is told is as it was
pub record TellsSame (before after : RunnerState) : Type 0 where
  pub calls : after.calls ≡ before.calls
  pub answers : after.answers ≡ before.answers

-- the call failed, and the count rose: its answer was a failure, or there was no memory to tell the call
pub record FailsCall (before after : RunnerState) (call : RunnerCall) : Type 0 where
  pub rose : Rose before.faults after.faults
  pub told : TakesAnswer before after call answer.Failure ⊎ TellsSame before after

-- there was no memory, and nothing was done
pub record LacksMemory (before after : RunnerState) : Type 0 where
  pub same : TellsSame before after
  pub faults : after.faults ≡ before.faults

abbrev pub HasFault : StartFault → RunnerState → RunnerState → RunnerCall → Type 0
HasFault start.Memory before after call = LacksMemory before after
HasFault start.Failed before after call = FailsCall before after call

-- `open`, `prepare`, `start` and `keep`
abbrev pub Performs : Result (Unit {0}) StartFault → RunnerState → RunnerState → RunnerCall → Type 0
Performs (Ok done) before after call = Succeeds before after call answer.Done
Performs (Err fault) before after call = HasFault fault before after call

-- `signal`
abbrev pub Signals : Result (Unit {0}) Failed → RunnerState → RunnerState → RunnerCall → Type 0
Signals (Ok done) before after call = Succeeds before after call answer.Done
Signals (Err failed) before after call = FailsCall before after call

-- the answer that a look tells, with its bytes at the front of the buffer
abbrev pub look_answer : Look → List ℕ → RunnerAnswer
look_answer (look.Output n) into = answer.Output (take n into)
look_answer look.Quiet into = answer.Quiet
look_answer (look.Ended code) into = answer.Ended code

-- an output has at least one byte, and at most as many as there is room
abbrev pub FitsRoom : Look → ℕ → Type 0
FitsRoom (look.Output n) room = (1 ≤ n) × (n ≤ room)
FitsRoom l room = Unit {0}

-- `look`; `into` is the buffer after it
abbrev pub Looks : Result Look Failed → List ℕ → RunnerState → RunnerState → Type 0
Looks (Ok l) into before after = FitsRoom l (length into) × Succeeds before after (call.Look (length into)) (look_answer l into)
Looks (Err failed) into before after = FailsCall before after (call.Look (length into))

-- the file has more than `most` bytes
abbrev pub IsTooLong : ℕ → RunnerState → RunnerState → RunnerCall → Type 0
IsTooLong most before after call = (bytes : List ℕ) × (most < length bytes) × Succeeds before after call (answer.File bytes)

abbrev pub CollectsNone : CollectFault → ℕ → RunnerState → RunnerState → RunnerCall → Type 0
CollectsNone fault.Memory most before after call = LacksMemory before after
CollectsNone fault.Failed most before after call = FailsCall before after call
CollectsNone fault.TooLong most before after call = IsTooLong most before after call

-- `collect`
abbrev pub CollectsFile : Result (Option (List ℕ)) CollectFault → ℕ → RunnerState → RunnerState → RunnerCall → Type 0
CollectsFile (Ok (Some bytes)) most before after call = (length bytes ≤ most) × Succeeds before after call (answer.File bytes)
CollectsFile (Ok None) most before after call = Succeeds before after call answer.NoFile
CollectsFile (Err fault) most before after call = CollectsNone fault most before after call

-- `clean`, of so many caches
abbrev pub Cleans : Result (List ℕ) StartFault → ℕ → RunnerState → RunnerState → RunnerCall → Type 0
Cleans (Ok sizes) caches before after call = (length sizes ≡ caches) × Succeeds before after call (answer.Cleaned sizes)
Cleans (Err fault) caches before after call = HasFault fault before after call
