use Rattle.std.proofs.Common.{◌∙◌}
use Rattle.command_words.proofs.Numbers.{number_of_err, number_of_ok}
use Rattle.command_words.proofs.values.read_number.Goals as goal

pub returns-in-Ok-clause-value : goal.returns-in-Ok-clause-value
returns-in-Ok-clause-value c =
    c.within.ensures.value ∙ number_of_ok c.args.least c.args.most c.in-Ok.number c.args.text.now c.parse.result c.parse.ensures.value.0 c.in-Ok.is

pub returns-in-Err-clause-value : goal.returns-in-Err-clause-value
returns-in-Err-clause-value c = number_of_err c.args.least c.args.most c.args.text.now _ c.parse.result c.parse.ensures.value.0 c.in-Err.is
