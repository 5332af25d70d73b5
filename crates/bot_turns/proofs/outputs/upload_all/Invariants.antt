use Rattle.std.proofs.Common.{take}
use Rattle.bot_turns.specs.Ends.{StillTells}
use Rattle.bot_turns.specs.Outputs.{UploadsAll}
use Rattle.bot_turns.proofs.outputs.upload_all.Given as goal

abbrev pub invariant-loop-path : goal.invariant-loop-path
invariant-loop-path g l = UploadsAll l.hands (take l.path-index l.paths) l.files (g.W.Dialer.state l.initial.dialer) (g.W.Dialer.state l.dialer) (g.R.Runner.state l.initial.runner) (g.R.Runner.state l.runner) × StillTells (g.R.Runner.state l.initial.runner) (g.R.Runner.state l.runner)
