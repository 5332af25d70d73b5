-- What a bot leaves on its runner where it ends for want of memory.
use Rattle.std.specs.Prelude.{ℕ, List, [], Result, IsSome}
use Rattle.sw_base.specs.declared.start_fault.StartFault.{StartFault}
use Rattle.runners.specs.declared.call.RunnerCall.TheVariants as call
use Rattle.runners.specs.Calls.{RunnerState, Cleans}

-- a runner that tells its calls tells them still
abbrev pub StillTells : RunnerState → RunnerState → Type 0
StillTells before after = IsSome before.calls → IsSome after.calls

-- the last call was a clean of no caches, whatever came of it
pub record EndsClean (before after : RunnerState) : Type 0 where
  pub mid : RunnerState
  pub answer : Result (List ℕ) StartFault
  pub tells : StillTells before mid
  pub cleans : Cleans answer 0 mid after (call.Clean [])
