use Rattle.std.proofs.Common.{◌≡◌, ◌∷◌, ◌++◌, take, map, codes}
use Rattle.std.specs.Process.{command_program, command_args}
use Rattle.shell_runner.specs.Children.{env_word, shell_words}
use Rattle.shell_runner.specs.declared.child_command.TheConstants.{SCRIPT}
use Rattle.shell_runner.proofs.child_command.child_command.Given as goal

abbrev pub invariant-loop-pair : goal.invariant-loop-pair
invariant-loop-pair l = (command_program l.shell ≡ codes "setsid") × (command_args l.shell ≡ shell_words SCRIPT.now (map env_word (take l.pair-index l.env)))

abbrev pub invariant-loop-word : goal.invariant-loop-word
invariant-loop-word l = (command_program l.shell ≡ codes "setsid") × (command_args l.shell ≡ shell_words SCRIPT.now (map env_word l.env ++ codes "--" ∷ take l.word-index l.command))
