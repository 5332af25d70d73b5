use Rattle.std.proofs.Common.{◌∙◌}
use Rattle.swarm_batch.proofs.Walking.{stripped, not_stripped, line_is, line_found, word_of_line}
use Rattle.swarm_batch.specs.Marks.{mark_word}
use Rattle.swarm_batch.proofs.progress.read_mark.Goals as goal

pub returns-in_default-clause-found : goal.returns-in_default-clause-found
returns-in_default-clause-found c = λ mark h e.
    absurd (not_stripped c.args.text.now c.as_bytes.result.now (mark_word mark) c.in_default.ensures.cases
    (word_of_line c.args.line mark c.as_bytes.result.now c.args.text.now (c.as_bytes.ensures.value ∙ c.in_ok-front.ensures.ok) e))

pub returns-clause-is : goal.returns-clause-is
returns-clause-is c =
    line_is c.read_word.result c.args.line c.as_bytes.result.now c.args.text.now c.in-Some.word.now (c.as_bytes.ensures.value ∙ c.in_ok-front.ensures.ok)
    (stripped c.args.text.now c.as_bytes.result.now c.in-Some.word.now c.in-Some.ensures.cases.0 c.in-Some.ensures.cases.1) c.read_word.ensures.is

pub returns-clause-found : goal.returns-clause-found
returns-clause-found c =
    line_found c.read_word.result c.args.line c.as_bytes.result.now c.args.text.now c.in-Some.word.now (c.as_bytes.ensures.value ∙ c.in_ok-front.ensures.ok)
    (stripped c.args.text.now c.as_bytes.result.now c.in-Some.word.now c.in-Some.ensures.cases.0 c.in-Some.ensures.cases.1) c.read_word.ensures.found
