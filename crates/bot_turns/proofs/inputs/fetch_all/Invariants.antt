use Rattle.std.proofs.Common.{take}
use Rattle.bot_turns.specs.Inputs.{FetchesAll}
use Rattle.bot_turns.proofs.inputs.fetch_all.Given as goal

abbrev pub invariant-loop-file : goal.invariant-loop-file
invariant-loop-file g l = FetchesAll l.hands (take l.file-index l.files) l.inputs (g.W.Dialer.state l.initial.dialer) (g.W.Dialer.state l.dialer)
