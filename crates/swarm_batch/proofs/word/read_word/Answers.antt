use Rattle.std.proofs.Common.{◌++◌, List, ℕ, ap, ◌∙◌}
use Rattle.swarm_batch.proofs.Words.{refused_found, refused_is}
use Rattle.swarm_batch.proofs.Walking.{stripped}
use Rattle.swarm_batch.proofs.word.read_word.Goals as goal

pub returns-in-Some-clause-is : goal.returns-in-Some-clause-is
returns-in-Some-clause-is c =
    refused_is c.in-Some.name.now c.args.word.now c.refused_by.result c.refused_by.ensures
    (stripped c.args.word.now c.as_slice.result.now c.in-Some.name.now c.in-Some.ensures.cases.0 c.in-Some.ensures.cases.1 ∙ ap (λ (t : List ℕ). t ++ c.in-Some.name.now) c.as_slice.ensures)

pub returns-in-Some-clause-found : goal.returns-in-Some-clause-found
returns-in-Some-clause-found c = λ mark h e.
    c.refused_by.ensures
    ∙ refused_found c.in-Some.name.now c.args.word.now mark h e
    (stripped c.args.word.now c.as_slice.result.now c.in-Some.name.now c.in-Some.ensures.cases.0 c.in-Some.ensures.cases.1 ∙ ap (λ (t : List ℕ). t ++ c.in-Some.name.now) c.as_slice.ensures)
