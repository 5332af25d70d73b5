use Rattle.std.proofs.Common.{take, map}
use Rattle.run_folders.specs.Tools.{IsTool}
use Rattle.run_folders.proofs.tools.tool_command.Given as goal

abbrev pub invariant-loop-word : goal.invariant-loop-word
invariant-loop-word l = IsTool (map (λ word. word.now) (take l.word-index l.words)) l.tool
