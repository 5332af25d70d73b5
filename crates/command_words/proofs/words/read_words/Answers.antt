use Rattle.std.proofs.Common.{map, string_bytes, Global}
use Rattle.command_words.proofs.Taken.{never_none}
use Rattle.command_words.proofs.words.read_words.Goals as goal

-- src/words.rt:40:1
pub returns-in-Ok-clause-refused : goal.returns-in-Ok-clause-refused
returns-in-Ok-clause-refused c = λ t is none.
    never_none (map (string_bytes {Z = Global}) c.args.words.now) _ c.in_ok-command-in-Ok.field-0 c.in-Ok.ensures.found c.in-None.is c.in_ok-command-in-Ok.ensures.value none
