-- What the bot keeps of a run, and how it changes.
use Rattle.std.specs.Prelude.{ℕ, ◌+◌, ◌-◌, ◌*◌, ◌^◌, ◌==◌, ◌&&◌, ◌||◌, not, nat_le, nat_lt, min, Bool, true, false, Option, Some, None, ℤ, pos, if◌then◌else◌}
use Rattle.bot_core.specs.Types.{Run, End}

-- the bytes that may wait to be sent, and those that a run may have
abbrev pub most_pending : ℕ
most_pending = 16384

abbrev pub most_output : ℕ
most_output = 67108864

-- a run that is claimed
abbrev pub new_run : ℕ → ℕ → ℕ → ℕ → Run
new_run execution io grace tolerance =
    record {
      execution = execution;
      io = io;
      grace = grace;
      tolerance = tolerance;
      started = 0;
      last_output = 0;
      last_send = 0;
      sent = 0;
      pending = 0;
      dropped = 0;
      dropping = false;
      stop = false;
      abandoned = false;
      refused = false;
      term = None;
      killed = false;
      hard_timeout = false;
      io_timeout = false;
      exit_code = pos 0;
      duration_ms = 0;
    }

-- the command runs from this moment on
abbrev pub start_run : ℕ → Run → Run
start_run m r = record r { started = m; last_output = m; last_send = m }

-- ---- the output

-- all pending output is dropped
abbrev pub drop_pending : Run → Run
drop_pending r = record r { pending = 0; dropped = r.dropped + r.pending }

-- and all that still comes
abbrev pub drop_output : Run → Run
drop_output r = record (drop_pending r) { dropping = true }

-- the pool doesn't take updates of the run, so its command is to end
abbrev pub abandon_run : Run → Run
abandon_run r = record (drop_pending r) { abandoned = true; stop = true }

-- the update was taken, and what was pending with it
abbrev pub count_sent : Bool → Run → Run
count_sent must_stop r = record r { sent = r.sent + r.pending; pending = 0; stop = r.stop || must_stop }

-- output of this size is dropped as a whole
abbrev pub is_dropped : ℕ → Run → Bool
is_dropped size r = r.abandoned || r.dropping || nat_lt most_output (r.sent + r.pending + size)

-- output of this size came
abbrev pub add_output : ℕ → ℕ → Run → Run
add_output size m r =
    if is_dropped size r
    then record r { last_output = m; dropped = r.dropped + size; dropping = true }
    else record r { last_output = m; pending = r.pending + size }

-- ---- the times

-- so many seconds have passed since a moment
abbrev pub has_passed : ℕ → ℕ → ℕ → Bool
has_passed since secs m = nat_le (since + secs) m

-- a limit that isn't 0 has been reached
abbrev pub is_reached : ℕ → ℕ → ℕ → Bool
is_reached since limit m = not (limit == 0) && has_passed since limit m

-- Term was sent, and the grace since then is over
abbrev pub is_grace_over : ℕ → Option ℕ → ℕ → Bool
is_grace_over grace None m = false
is_grace_over grace (Some at) m = has_passed at grace m

-- the command ended at this moment, with this code
abbrev pub end_run : ℤ → ℕ → Run → Run
end_run code m r = record r { exit_code = code; duration_ms = min (1000 * (m - r.started)) (2 ^ 40) }

-- the end, as it is reported
abbrev pub end_of : Run → End
end_of r =
    record {
      exit_code = r.exit_code;
      duration_ms = r.duration_ms;
      hard_timeout = r.hard_timeout;
      io_timeout = r.io_timeout;
      dropped = r.dropped;
    }
