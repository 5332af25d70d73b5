-- What an acceptor tells, and what its calls do.
use Rattle.std.specs.Prelude.{◌≡◌, ℕ, ◌≤◌, List, [], ◌∷◌, ◌++◌, Option, Some, None, Result, Ok, Err, option_map}
use Rattle.sw_base.specs.Faults.{Rose}
use Rattle.sw_base.specs.Link.{LinkState, IsClean}
use Rattle.sw_base.specs.Told.{Loses, Gains, Adds, IsNoMore}

-- The links that are still to come, as they will be given, and those that ended, as they ended; how
-- many were given that haven't ended: each where it is told. And how often an accept failed.
pub record AcceptorState : Type 0 where
  pub coming : Option (List LinkState)
  pub served : Option (List LinkState)
  pub out : Option ℕ
  pub faults : ℕ

-- neither its reads nor its writes have failed, and all that was written is flushed
pub record IsFresh (link : LinkState) : Type 0 where
  pub reads : link.read_faults ≡ 0
  pub writes : link.write_faults ≡ 0
  pub clean : IsClean link

-- the link that came is the first of those to come, and is fresh
pub record Comes (link : LinkState) (before after : AcceptorState) : Type 0 where
  pub coming : Loses before.coming after.coming (link ∷ [])
  pub fresh : IsFresh link
  pub out : Adds before.out after.out 1
  pub faults : after.faults ≡ before.faults

-- there is no link to come, and nothing changed
pub record IsOver (before after : AcceptorState) : Type 0 where
  pub none : IsNoMore before.coming
  pub same : after ≡ before

-- the count rose, and none came
pub record Fails (before after : AcceptorState) : Type 0 where
  pub rose : Rose before.faults after.faults
  pub never_falls : before.faults ≤ after.faults
  pub coming : after.coming ≡ before.coming
  pub out : after.out ≡ before.out

abbrev pub IsAccepted : {T E : Type 0} → (T → LinkState) → AcceptorState → AcceptorState → Result (Option T) E → Type 0
IsAccepted look before after (Ok (Some link)) = Comes (look link) before after
IsAccepted look before after (Ok None) = IsOver before after
IsAccepted look before after (Err e) = Fails before after

-- a link was asked for
pub record Accepts {T E : Type 0} (look : T → LinkState) (before after : AcceptorState) (result : Result (Option T) E) : Type 0 where
  pub outcome : IsAccepted look before after result
  pub served : after.served ≡ before.served

-- a link ended, and is told last
pub record Ends (link : LinkState) (before after : AcceptorState) : Type 0 where
  pub served : Gains before.served after.served (link ∷ [])
  pub out : Adds after.out before.out 1
  pub coming : after.coming ≡ before.coming
  pub faults : after.faults ≡ before.faults

-- an acceptor in memory to which these links come
abbrev pub untouched : List LinkState → AcceptorState
untouched links = record { coming = Some links; served = Some []; out = Some 0; faults = 0 }

-- with one more link to come, last
abbrev pub with_coming : AcceptorState → LinkState → AcceptorState
with_coming s link = record s { coming = option_map (λ links. links ++ link ∷ []) s.coming }
