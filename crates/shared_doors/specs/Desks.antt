-- A turn at the machine of a pool.
use Rattle.std.specs.Prelude.{Bool, [], None, IsTrue}
use Rattle.shared_doors.specs.Types.{Entry, Turn}
use Rattle.swarm_model.specs.Bases.{empty_base}
use Rattle.swarm_model.specs.Bytes.{nothing_held}
use Rattle.swarm_model.specs.Effects.{opening}
use Rattle.swarm_model.specs.MachineState.{MachineState}
use Rattle.swarm_history.specs.Machines.{no_pool}
use Rattle.turnstile.specs.Passes.{IsTurn, IsRaised, fixed_of, lock_of}
use Rattle.shared_doors.specs.declared.view.Lasting.{Lasting}
use Rattle.shared_doors.specs.Lasting.{lasting_of, IsStanding}

-- what is kept where there is no machine
abbrev pub no_state : MachineState
no_state = record { start = empty_base no_pool; pool = opening no_pool; log = []; ready = None; held = nothing_held }

module _ {V : Type 0} where
  -- A turn at a machine whose keeper never fails. Its settings keep their rules, each blob has its bytes, nothing led to where its
  -- log begins, and nothing of that is left to raise. `state` gives what a machine keeps.
  pub record IsDesk (state : V → MachineState) (sure : Bool) (t : Turn V Entry Lasting) : Type 0 where
    pub is_sure : IsTrue sure
    pub turn : IsTurn (λ x. lasting_of (state x)) t
    pub standing : IsStanding (fixed_of (λ x. lasting_of (state x)) (lock_of t))
    pub raised : IsRaised (λ x. (state x).log) (λ x. lasting_of (state x)) t
