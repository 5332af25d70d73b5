-- How a link ended, and after which errors an accept is made again.
use Rattle.std.specs.Prelude.{ℕ, Bool, true, false, ◌||◌, nat_lt, Option, Some, None, if◌then◌else◌}
use Rattle.std.specs.declared.io.Error.{Error}
use Rattle.std.specs.declared.io.ErrorKind.{ErrorKind}
use Rattle.std.specs.declared.io.ErrorKind.TheVariants.{WouldBlock, TimedOut, Interrupted, ConnectionAborted, ConnectionReset, HostUnreachable, NetworkUnreachable, NetworkDown}
use Rattle.std.specs.IoError.{error_kind}
use Rattle.tcp_links.specs.declared.link_ending.LinkEnding.{LinkEnding}
use Rattle.tcp_links.specs.declared.link_ending.LinkEnding.TheVariants.{OtherSide, ThisSide, TimeLimit, Failed}

-- a call of one side failed, by the counts of both
abbrev pub has_fault : ℕ → ℕ → Bool
has_fault reads writes = nat_lt 0 reads || nat_lt 0 writes

-- the system has these two for a call that waited for as long as it may
abbrev pub is_time_limit : ErrorKind → Bool
is_time_limit WouldBlock = true
is_time_limit TimedOut = true
is_time_limit _ = false

-- by the error of the last call that failed, and by whether a read found the end
abbrev pub how_ended : Option Error → Bool → LinkEnding
how_ended (Some error) at_end = if is_time_limit (error_kind error) then TimeLimit else Failed error
how_ended None true = OtherSide
how_ended None false = ThisSide

-- a signal interrupted the accept, or it met a connection that is gone already
abbrev pub may_retry : ErrorKind → Bool
may_retry Interrupted = true
may_retry ConnectionAborted = true
may_retry ConnectionReset = true
may_retry HostUnreachable = true
may_retry NetworkUnreachable = true
may_retry NetworkDown = true
may_retry _ = false
