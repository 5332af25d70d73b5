-- What the numbers of a bot that goes on keep to.
use Rattle.std.specs.Prelude.{◌≡◌, ℕ, ◌+◌, ◌-◌, ◌*◌, ◌^◌, ◌≤◌, false}
use Rattle.bot_core.specs.Types.{Run, BotState}
use Rattle.bot_core.specs.RunChanges.{most_pending, most_output}
use Rattle.bot_core.specs.Table.{is_stop}

-- after so many steps
pub record RunBounds (steps : ℕ) (r : Run) : Type 0 where
  pub pending : r.pending ≤ most_pending
  pub output : r.sent + r.pending ≤ most_output
  pub dropped : r.dropped + r.pending ≤ most_pending * steps
  pub duration : r.duration_ms ≤ 2 ^ 40

-- while it goes on
pub record Bounds (s : BotState) : Type 0 where
  pub steps : s.steps ≤ s.limits.steps
  pub session : s.session ≤ s.steps
  pub claim : s.claim ≤ s.steps
  pub polls : s.polls ≤ s.limits.polls
  pub tasks : s.tasks ≤ s.limits.tasks - 1
  pub run : RunBounds s.steps s.run

-- a bot that has not stopped keeps to them
abbrev pub InBounds : BotState → Type 0
InBounds s = is_stop s.phase ≡ false → Bounds s
