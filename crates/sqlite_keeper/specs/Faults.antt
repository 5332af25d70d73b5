-- Which faults are want of memory, and which tables those of a pool.
use Rattle.std.specs.Prelude.{◌≡◌, ℕ, Bool, true, false, if◌then◌else◌}
use Rattle.sqlite.specs.declared.error.Error.{Error}
use Rattle.sqlite.specs.declared.error.Error.TheVariants.{SqliteFailure}
use Rattle.sqlite.specs.declared.error.ErrorCode.TheVariants.{OutOfMemory}
use Rattle.sw_base.specs.Faults.{Rose}
use Rattle.sw_base.specs.declared.start_fault.StartFault.{StartFault}
use Rattle.sw_base.specs.declared.start_fault.StartFault.TheVariants.{Memory, Failed}
use Rattle.sqlite_keeper.specs.declared.opened_tables.OpenedTables.{OpenedTables}
use Rattle.sqlite_keeper.specs.declared.opened_tables.OpenedTables.TheVariants.{Others}

abbrev pub is_memory : Error → Bool
is_memory (SqliteFailure OutOfMemory) = true
is_memory _ = false

abbrev pub start_fault : Error → StartFault
start_fault error = if is_memory error then Memory else Failed

abbrev pub are_of_pool : OpenedTables → Bool
are_of_pool Others = false
are_of_pool _ = true

-- a failed start is counted, and want of memory is not
abbrev pub CountsStart : ℕ → ℕ → StartFault → Type 0
CountsStart old new Memory = new ≡ old
CountsStart old new Failed = Rose old new
