-- What a listener tells, and what its calls do.
use Rattle.std.specs.Prelude.{◌≡◌, ◌≢◌, ℕ, ◌≤◌, List, [], ◌∷◌, ◌++◌, map, drop, length, All, zero, suc, Option, Some, IfSome, option_map}
use Rattle.sw_base.specs.Faults.{Rose}
use Rattle.sw_base.specs.Told.{Gains, Adds}
use Rattle.sw_base.specs.Acceptors.{AcceptorState, untouched}
use Rattle.sw_base.specs.declared.start_fault.StartFault.{StartFault}
use Rattle.sw_base.specs.declared.start_fault.StartFault.TheVariants.{Memory, Failed}

-- The acceptors that are still to be given, as they will be, the addresses at which it listened, and the
-- acceptors that were shut, as they were; how many were given that weren't shut: each where it is told. And how often a listen failed, or an
-- acceptor that was shut had failed.
pub record ListenerState : Type 0 where
  pub waiting : Option (List AcceptorState)
  pub listened : Option (List (List ℕ))
  pub ended : Option (List AcceptorState)
  pub out : Option ℕ
  pub faults : ℕ

-- the first that waits; past the last, one to which nothing comes
abbrev pub first_of : List AcceptorState → AcceptorState
first_of [] = untouched []
first_of (a ∷ waiting) = a

-- the first n that wait
abbrev pub first_ones : ℕ → List AcceptorState → List AcceptorState
first_ones zero waiting = []
first_ones (suc n) waiting = first_of waiting ∷ first_ones n (drop 1 waiting)

-- an acceptor as it is given: nothing was served, none is out, and none failed
pub record IsGiven (acceptor : AcceptorState) : Type 0 where
  pub served : acceptor.served ≡ option_map (λ served. []) acceptor.served
  pub out : acceptor.out ≡ option_map (λ n. 0) acceptor.out
  pub faults : acceptor.faults ≡ 0

-- where it is told who waits, n of them were given in order, and the rest still waits
pub record IsShare (waiting : Option (List AcceptorState)) (n : ℕ) (given : List AcceptorState) (rest : Option (List AcceptorState)) : Type 0 where
  pub given_are : IfSome waiting (λ all. given ≡ first_ones n all)
  pub rest_is : rest ≡ option_map (drop n) waiting

-- it listens at the address, and gives one acceptor for each of n workers
pub record Gives {T : Type 0} (look : T → AcceptorState) (given : List T) (address : List ℕ) (before after : ListenerState) (n : ℕ) : Type 0 where
  pub number : length given ≡ n
  pub fresh : All (λ a. IsGiven (look a)) given
  pub shared : IsShare before.waiting n (map look given) after.waiting
  pub listened : Gains before.listened after.listened (address ∷ [])
  pub out : Adds before.out after.out n
  pub faults : after.faults ≡ before.faults
  pub ended : after.ended ≡ before.ended

-- nothing changed but the count, which rose where the cause isn't memory
pub record FailsToListen (fault : StartFault) (before after : ListenerState) : Type 0 where
  pub rose : fault ≡ Failed → Rose before.faults after.faults
  pub same : fault ≡ Memory → after.faults ≡ before.faults
  pub never_falls : before.faults ≤ after.faults
  pub waiting : after.waiting ≡ before.waiting
  pub listened : after.listened ≡ before.listened
  pub out : after.out ≡ before.out
  pub ended : after.ended ≡ before.ended

-- an acceptor was shut, and is told last; the count rose exactly where the acceptor's isn't 0
pub record Shuts (acceptor : AcceptorState) (before after : ListenerState) : Type 0 where
  pub ended : Gains before.ended after.ended (acceptor ∷ [])
  pub out : Adds after.out before.out 1
  pub waiting : after.waiting ≡ before.waiting
  pub listened : after.listened ≡ before.listened
  pub rose : acceptor.faults ≢ 0 → Rose before.faults after.faults
  pub same : acceptor.faults ≡ 0 → after.faults ≡ before.faults
  pub never_falls : before.faults ≤ after.faults

-- a listener in memory that has no acceptors yet
abbrev pub quiet : ListenerState
quiet = record { waiting = Some []; listened = Some []; ended = Some []; out = Some 0; faults = 0 }

-- with one more acceptor to be given, last
abbrev pub with_waiting : ListenerState → AcceptorState → ListenerState
with_waiting s a = record s { waiting = option_map (λ all. all ++ a ∷ []) s.waiting }

-- the first n of those that wait were taken
pub record IsTaken {T : Type 0} (look : T → AcceptorState) (waiting rest : List T) (n : ℕ) (given : List T) : Type 0 where
  pub number : length given ≡ n
  pub given_are : map look given ≡ first_ones n (map look waiting)
  pub rest_is : rest ≡ drop n waiting
  pub fresh : All (λ a. IsGiven (look a)) given
  pub still : All (λ a. IsGiven (look a)) rest
