-- The end of a run.
use Rattle.std.specs.Prelude.{negsuc, true, false}
use Rattle.bot_core.specs.declared.action.End.{End}

-- it had to be stopped, and ended with exit code -1
abbrev pub small_end : End
small_end = record { exit_code = negsuc 0; duration_ms = 5210; hard_timeout = true; io_timeout = false; dropped = 7 }
