-- From what a shell did to what the runner over it tells.
use Rattle.std.proofs.Common.{◌≡◌, ℕ, List, Result, inl, inr, ◌⊎◌, ap, subst}
use Rattle.std.specs.declared.io.Error.{Error}
use Rattle.sw_base.specs.Faults.{Rose}
use Rattle.sw_base.specs.declared.start_fault.StartFault.{StartFault}
use Rattle.sw_base.specs.declared.start_fault.StartFault.TheVariants as start
use Rattle.runners.specs.declared.answer.RunnerAnswer.{RunnerAnswer}
use Rattle.runners.specs.declared.answer.RunnerAnswer.TheVariants as answer
use Rattle.runners.specs.declared.call.RunnerCall.{RunnerCall}
use Rattle.runners.specs.Calls.{TakesAnswer, TellsSame, Succeeds, FailsCall, HasFault}
use Rattle.shell_runner.specs.Shells.{ShellState, told_by, Answers, Fails, Carries, ClearsAway, IsFault}

takes : {s t : ShellState} (n m : ℕ) {call : RunnerCall} {a : RunnerAnswer} → Answers s t call a → TakesAnswer (told_by s n) (told_by t m) call a
takes n m h = record { calls = h.calls; answers = h.answers }

same : {s t : ShellState} (n m : ℕ) → t ≡ s → TellsSame (told_by s n) (told_by t m)
same n m e = record { calls = ap (λ x. x.calls) e; answers = ap (λ x. x.answers) e }

pub succeeds : {s t : ShellState} {n m : ℕ} {call : RunnerCall} {a : RunnerAnswer} → Answers s t call a → m ≡ n → Succeeds (told_by s n) (told_by t m) call a
succeeds {n = n} {m = m} h e = record { answer = takes n m h; faults = e }

-- its answer was a failure, or it isn't told
pub misses : {s t : ShellState} {n m : ℕ} {call : RunnerCall} → Answers s t call answer.Failure ⊎ (t ≡ s) → Rose n m → FailsCall (told_by s n) (told_by t m) call
misses {n = n} {m = m} h rose = record { rose = rose; told = elim h [ inl a ↦ inl (takes n m a) | inr e ↦ inr (same n m e) ] }

pub fails : (fault : StartFault) {error : Error} {s t : ShellState} {call : RunnerCall} (n m : ℕ) → Fails error s t call → IsFault fault error n m → HasFault fault (told_by s n) (told_by t m) call
fails start.Memory n m h is = record { same = same n m (h.memory is.0); faults = is.1 }
fails start.Failed n m h rose = misses h.told rose

-- nothing was told yet
pub goes_on : (r : Result (Unit {0}) Error) {s t : ShellState} (u : ShellState) (call : RunnerCall) → t ≡ s → Carries r t u call → Carries r s u call
goes_on r u call e h = subst (λ x. Carries r x u call) e h

pub clears_on : (r : Result (List ℕ) Error) {s t : ShellState} (u : ShellState) (caches : ℕ) (call : RunnerCall) → t ≡ s → ClearsAway r caches t u call → ClearsAway r caches s u call
clears_on r u caches call e h = subst (λ x. ClearsAway r caches x u call) e h

-- its shell wasn't asked
pub refused : {error : Error} {s t : ShellState} {call : RunnerCall} → t ≡ s → Fails error s t call
refused e = record { told = inr e; memory = λ _. e }
