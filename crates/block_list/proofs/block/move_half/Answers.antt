use Rattle.std.proofs.Common.{ap, ◌∙◌, ◌-◌, ◌++◌, take, drop, length, List}
use Rattle.std.proofs.lemmas.List.{take_rest}
use Rattle.block_list.proofs.block.move_half.Goals as goal

pub returns-clause-spare : goal.returns-clause-spare
returns-clause-spare g c =
    c.in-Ok.ensures.items
    ∙ ap (λ (l : List g.row.T.Denot). l ++ take (length c.deref.result.now - 64) (drop 64 c.deref.result.now)) c.requires.empty
    ∙ take_rest c.deref.result.now 64
    ∙ ap (λ (l : List g.row.T.Denot). drop 64 l) c.deref.ensures.value
