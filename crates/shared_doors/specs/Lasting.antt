-- What never changes of a pool's machine.
use Rattle.std.specs.Prelude.{◌≡◌, Bool, true, IsTrue, is_some}
use Rattle.std.specs.List.{list_all}
use Rattle.swarm_model.specs.declared.pool_settings.PoolSettings.{PoolSettings}
use Rattle.swarm_model.specs.Bases.{Base, empty_base}
use Rattle.swarm_model.specs.Effects.{opening}
use Rattle.swarm_model.specs.MachineState.{MachineState}
use Rattle.swarm_model.specs.Settings.{keeps_rules}
use Rattle.shared_doors.specs.declared.view.Lasting.{Lasting}

-- each blob has its bytes
abbrev pub are_held : MachineState → Bool
are_held kept = list_all (λ blob. is_some (kept.held blob.digest)) kept.pool.blobs

abbrev pub lasting_of : MachineState → Lasting
lasting_of kept = record { settings = kept.pool.settings; is_whole = are_held kept; rows = kept.start.rows; count = kept.start.count }

-- that of a new machine of the pool
abbrev pub first_lasting : PoolSettings → Lasting
first_lasting pool = record { settings = pool; is_whole = true; rows = opening pool; count = 0 }

-- where the log begins
abbrev pub start_in : Lasting → Base
start_in lasting = record { rows = lasting.rows; count = lasting.count }

-- the settings keep their rules, each blob has its bytes, and nothing led to where the log begins
abbrev pub IsStanding : Lasting → Type 0
IsStanding lasting = IsTrue (keeps_rules lasting.settings) × IsTrue lasting.is_whole × (start_in lasting ≡ empty_base lasting.settings)
