-- What a shell that tells nothing has done.
use Rattle.std.proofs.Common.{◌≡◌, ℕ, List, length, Bool, true, false, Option, Some, None, Result, Ok, Err, IfOk, inr, refl}
use Rattle.std.specs.declared.io.Error.{Error}
use Rattle.runners.specs.declared.answer.Look.{Look}
use Rattle.runners.specs.declared.answer.RunnerAnswer.{RunnerAnswer}
use Rattle.runners.specs.declared.call.RunnerCall.{RunnerCall}
use Rattle.runners.specs.Calls.{FitsRoom}
use Rattle.shell_runner.specs.Shells.{untold, Answers, Fails, Carries, Shows, Sends, ReadsFile, ClearsAway}

answers : {call : RunnerCall} {a : RunnerAnswer} → Answers untold untold call a
answers = record { calls = tt; answers = tt }

fails : {error : Error} {call : RunnerCall} → Fails error untold untold call
fails = record { told = inr refl; memory = λ _. refl }

pub carries : (r : Result (Unit {0}) Error) (call : RunnerCall) → Carries r untold untold call
carries (Ok done) call = answers
carries (Err error) call = fails

pub shows : (r : Result Look Error) (into : List ℕ) → IfOk r (λ l. FitsRoom l (length into)) → Shows r into untold untold
shows (Ok l) into fits = (fits, answers)
shows (Err error) into fits = fails

pub sends : (r : Result Bool Error) (call : RunnerCall) → Sends r untold untold call
sends (Ok true) call = answers
sends (Ok false) call = inr refl
sends (Err error) call = fails

pub reads : (r : Result (Option (List ℕ)) Error) (most : ℕ) (call : RunnerCall) → ReadsFile r most untold untold call
reads (Ok (Some bytes)) most call = record { whole = λ _. answers; long = λ more. (bytes, more, answers) }
reads (Ok None) most call = answers
reads (Err error) most call = fails

pub clears : (r : Result (List ℕ) Error) (caches : ℕ) (call : RunnerCall) → IfOk r (λ sizes. length sizes ≡ caches) → ClearsAway r caches untold untold call
clears (Ok sizes) caches call fits = (fits, answers)
clears (Err error) caches call fits = fails
