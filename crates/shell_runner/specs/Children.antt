-- How a child is started, and what is shown of it.
use Rattle.std.specs.Prelude.{◌≡◌, ℕ, nat_lt, Bool, List, ◌∷◌, ◌++◌, codes, map, Option, Some, None, Result, Ok, Err, ℤ, pos, ◌+ℤ◌, if◌then◌else◌}
use Rattle.std.specs.Process.{command_program, command_args, command_dir, exit_signal}
use Rattle.std.specs.IoError.{error_kind}
use Rattle.std.specs.declared.io.Error.{Error}
use Rattle.std.specs.declared.io.ErrorKind.TheVariants.{InvalidData, BrokenPipe}
use Rattle.std.specs.declared.process.Command.{Command}
use Rattle.std.specs.Str.Parse.{ParsesSigned}
use Rattle.std.specs.Int.{w32, saturate_signed}
use Rattle.std.specs.declared.process.ExitStatus.{ExitStatus}
use Rattle.bot_core.specs.declared.action.Signal.{Signal}
use Rattle.bot_core.specs.declared.action.Signal.TheVariants.{Term, Kill}
use Rattle.dimensions.specs.declared.text.Text.{Text}
use Rattle.run_folders.specs.Names.{is_env_key}
use Rattle.runners.specs.declared.answer.Look.{Look}
use Rattle.runners.specs.declared.answer.Look.TheVariants as look

-- its key can be that of an environment
abbrev pub has_env_key : Text × Text → Bool
has_env_key pair = is_env_key pair.0

-- a variable of an environment, as a word
abbrev pub env_word : Text × Text → List ℕ
env_word pair = pair.0 ++ (codes "=" ++ pair.1)

-- a shell that carries out a script, with these words
abbrev pub shell_words : List ℕ → List (List ℕ) → List (List ℕ)
shell_words script words = codes "sh" ∷ codes "-c" ∷ script ∷ codes "sh" ∷ words

-- `setsid sh -c SCRIPT sh KEY=VALUE .. -- COMMAND ..`, in a folder
pub record StartsChild {A : Type 0} (script folder : List ℕ) (env : List (Text × Text)) (command : List Text) (child : Command A) : Type 0 where
  pub program : command_program child ≡ codes "setsid"
  pub args : command_args child ≡ shell_words script (map env_word env ++ codes "--" ∷ command)
  pub dir : command_dir child ≡ Some folder

-- the exit code of a child that has ended
abbrev pub end_of : Option ℤ → Look
end_of (Some code) = look.Ended code
end_of None = look.Quiet

-- with so much room, where n bytes of the output were read; the end is shown where no more of the output is there
abbrev pub look_of : ℕ → ℕ → Option ℤ → Look
look_of room n ended = if nat_lt 0 n then look.Output n else (if nat_lt 0 room then end_of ended else look.Quiet)

-- the name of a signal
abbrev pub signal_name : Signal → List ℕ
signal_name Term = codes "TERM"
signal_name Kill = codes "KILL"

-- the code that a text is, as a number of 32 bits with a sign
abbrev pub ReadsCode : List ℕ → Result (Option ℤ) Error → Type 0
ReadsCode text (Ok (Some code)) = ParsesSigned {E = Error} w32 10 text (Ok code)
ReadsCode text (Ok None) = ⊥
ReadsCode text (Err error) = ParsesSigned {E = Error} w32 10 text (Err error) × (error_kind error ≡ InvalidData)

-- the code of a child that a signal ended, as a shell has it, and none where it ended by itself and wrote none
abbrev pub EndsBySignal : Option ℤ → Result (Option ℤ) Error → Type 0
EndsBySignal (Some signal) found = found ≡ Ok (Some (saturate_signed w32 (signal +ℤ pos 128)))
EndsBySignal None (Ok code) = ⊥
EndsBySignal None (Err error) = error_kind error ≡ BrokenPipe

-- the code that was written goes first
abbrev pub LeavesCode : Option ℤ → ExitStatus → Result (Option ℤ) Error → Type 0
LeavesCode (Some code) status found = found ≡ Ok (Some code)
LeavesCode None status found = EndsBySignal (exit_signal status) found
