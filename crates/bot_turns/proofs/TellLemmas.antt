-- A runner tells its calls after each of them, where it told them before.
use Rattle.std.proofs.Common.{◌≡◌, ℕ, List, [], ◌∷◌, ◌++◌, Option, Some, None, IfSome, Result, Ok, Err, inl, inr, refl, sym, subst}
use Rattle.std.specs.Prelude.{IsSome}
use Rattle.bot_turns.specs.Types.{Failed, StartFault, Look, CollectFault}
use Rattle.sw_base.specs.declared.start_fault.StartFault.TheVariants as start
use Rattle.runners.specs.declared.answer.RunnerAnswer.{RunnerAnswer}
use Rattle.runners.specs.declared.call.RunnerCall.{RunnerCall}
use Rattle.runners.specs.declared.call.RunnerCall.TheVariants as call
use Rattle.runners.specs.declared.collect_fault.CollectFault.TheVariants as fault
use Rattle.runners.specs.Calls.{RunnerState, TakesAnswer, Succeeds, TellsSame, FailsCall, LacksMemory, HasFault, Performs, Signals, Looks, IsTooLong, CollectsFile, Cleans}
use Rattle.bot_turns.specs.ChildTurns.{IsSignalTurn}
use Rattle.bot_turns.specs.Ends.{StillTells}

pub tells_on : (a b c : RunnerState) → StillTells a b → StillTells b c → StillTells a c
tells_on a b c f g = λ i. g (f i)

some_told : (o p : Option (List RunnerCall)) (x : RunnerCall) → IfSome o (λ made. p ≡ Some (made ++ x ∷ [])) → IsSome o → IsSome p
some_told None p x h i = absurd (cc)
some_told (Some made) p x h i = subst (λ (q : Option (List RunnerCall)). IsSome q) (sym h) refl

takes_tells : (a b : RunnerState) (x : RunnerCall) (y : RunnerAnswer) → TakesAnswer a b x y → StillTells a b
takes_tells a b x y t = some_told a.calls b.calls x t.calls

same_tells : (a b : RunnerState) → TellsSame a b → StillTells a b
same_tells a b t = λ i. subst (λ (q : Option (List RunnerCall)). IsSome q) (sym t.calls) i

fails_tells : (a b : RunnerState) (x : RunnerCall) → FailsCall a b x → StillTells a b
fails_tells a b x f = elim f.told [ inl t ↦ takes_tells a b x _ t | inr s ↦ same_tells a b s ]

fault_tells : (f : StartFault) (a b : RunnerState) (x : RunnerCall) → HasFault f a b x → StillTells a b
fault_tells start.Memory a b x h = same_tells a b h.same
fault_tells start.Failed a b x h = fails_tells a b x h

pub performs_tells : (r : Result (Unit {0}) StartFault) (a b : RunnerState) (x : RunnerCall) → Performs r a b x → StillTells a b
performs_tells (Ok done) a b x h = takes_tells a b x _ h.answer
performs_tells (Err f) a b x h = fault_tells f a b x h

pub signals_tells : (r : Result (Unit {0}) Failed) (a b : RunnerState) (x : RunnerCall) → Signals r a b x → StillTells a b
signals_tells (Ok done) a b x h = takes_tells a b x _ h.answer
signals_tells (Err f) a b x h = fails_tells a b x h

pub looks_tells : (r : Result Look Failed) (into : List ℕ) (a b : RunnerState) → Looks r into a b → StillTells a b
looks_tells (Ok l) into a b h = takes_tells a b _ _ h.1.answer
looks_tells (Err f) into a b h = fails_tells a b _ h

pub collects_tells : (r : Result (Option (List ℕ)) CollectFault) (most : ℕ) (a b : RunnerState) (x : RunnerCall) → CollectsFile r most a b x → StillTells a b
collects_tells (Ok (Some bytes)) most a b x h = takes_tells a b x _ h.1.answer
collects_tells (Ok None) most a b x h = takes_tells a b x _ h.answer
collects_tells (Err fault.Memory) most a b x h = same_tells a b h.same
collects_tells (Err fault.Failed) most a b x h = fails_tells a b x h
collects_tells (Err fault.TooLong) most a b x h = takes_tells a b x _ h.2.answer

pub cleans_tells : (r : Result (List ℕ) StartFault) (n : ℕ) (a b : RunnerState) (x : RunnerCall) → Cleans r n a b x → StillTells a b
cleans_tells (Ok sizes) n a b x h = takes_tells a b x _ h.1.answer
cleans_tells (Err f) n a b x h = fault_tells f a b x h
