-- What an object tells that knows its count of faults alone.
use Rattle.std.specs.Prelude.{None}
use Rattle.sw_base.specs.Listeners.{ListenerState}
use Rattle.sw_base.specs.Dialers.{DialerState}

-- a listener that has not failed
abbrev pub untold_listener : ListenerState
untold_listener = record { waiting = None; listened = None; ended = None; out = None; faults = 0 }

-- a dialer that has not failed
abbrev pub untold_dialer : DialerState
untold_dialer = record { dialed = None; answers = None; ended = None; out = None; faults = 0 }
