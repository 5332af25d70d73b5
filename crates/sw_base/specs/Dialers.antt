-- What a dialer tells, and what its calls do.
use Rattle.std.specs.Prelude.{◌≡◌, ℕ, ◌≤◌, List, [], ◌∷◌, ◌++◌, drop, Option, Some, IfSome, option_map}
use Rattle.sw_base.specs.Faults.{Rose}
use Rattle.sw_base.specs.Link.{LinkState, HasFailed, opened}
use Rattle.sw_base.specs.Told.{Gains, Adds}
use Rattle.sw_base.specs.Acceptors.{IsFresh}
use Rattle.sw_base.specs.declared.start_fault.StartFault.{StartFault}
use Rattle.sw_base.specs.declared.start_fault.StartFault.TheVariants.{Memory, Failed}

-- The addresses that were dialed, the bytes that the links of the next dials give, and the links that
-- ended, as they ended; how many haven't ended: each where it is told. And how often a dial failed,
-- or a link that ended had failed.
pub record DialerState : Type 0 where
  pub dialed : Option (List (List ℕ))
  pub answers : Option (List (List ℕ))
  pub ended : Option (List LinkState)
  pub out : Option ℕ
  pub faults : ℕ

-- the bytes of the next link; past the last answer there are none
abbrev pub first_answer : List (List ℕ) → List ℕ
first_answer [] = []
first_answer (bytes ∷ answers) = bytes

-- a link was opened, which gives the next answer
pub record Dials (link : LinkState) (address : List ℕ) (before after : DialerState) : Type 0 where
  pub fresh : IsFresh link
  pub given : IfSome before.answers (λ answers. link ≡ opened (Some (first_answer answers)) (Some []))
  pub answers : after.answers ≡ option_map (drop 1) before.answers
  pub dialed : Gains before.dialed after.dialed (address ∷ [])
  pub out : Adds before.out after.out 1
  pub faults : after.faults ≡ before.faults
  pub ended : after.ended ≡ before.ended

-- nothing changed but the count, which rose where the cause isn't memory
pub record Declines (fault : StartFault) (before after : DialerState) : Type 0 where
  pub rose : fault ≡ Failed → Rose before.faults after.faults
  pub same : fault ≡ Memory → after.faults ≡ before.faults
  pub never_falls : before.faults ≤ after.faults
  pub answers : after.answers ≡ before.answers
  pub dialed : after.dialed ≡ before.dialed
  pub out : after.out ≡ before.out
  pub ended : after.ended ≡ before.ended

-- a link ended, and is told last; the count rose exactly where the link has failed
pub record Hangs (link : LinkState) (before after : DialerState) : Type 0 where
  pub ended : Gains before.ended after.ended (link ∷ [])
  pub out : Adds after.out before.out 1
  pub answers : after.answers ≡ before.answers
  pub dialed : after.dialed ≡ before.dialed
  pub rose : HasFailed link → Rose before.faults after.faults
  pub same : link.read_faults ≡ 0 → link.write_faults ≡ 0 → after.faults ≡ before.faults
  pub never_falls : before.faults ≤ after.faults

-- a dialer in memory that has no answers yet
abbrev pub silent : DialerState
silent = record { dialed = Some []; answers = Some []; ended = Some []; out = Some 0; faults = 0 }

-- with one more answer, last
abbrev pub with_answer : DialerState → List ℕ → DialerState
with_answer s bytes = record s { answers = option_map (λ all. all ++ bytes ∷ []) s.answers }
