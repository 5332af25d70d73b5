use Rattle.std.proofs.Common.{lit<}
use Rattle.std.proofs.lemmas.Str.Pattern.{strip_suffix_char}
use Rattle.shell_runner.proofs.exit_codes.before_end.Goals as goal

pub returns : goal.returns
returns c = strip_suffix_char 10 c.args.line.now c.strip_suffix.result c.strip_suffix.ensures.cases (lit< tt)
