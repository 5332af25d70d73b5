use Rattle.std.proofs.Common.{◌∷◌, List, subst, arith}
use Rattle.std.specs.Prelude.{Vec}
use Rattle.std.specs.Global.{Global}
use Rattle.block_list.specs.Blocks.{all_of, TakesAll, ChangesBlock}
use Rattle.block_list.proofs.Changes.{joined, joined_blocks}
use Rattle.block_list.proofs.blocks.Blocks.join.Goals as goal

pub returns-clause-items : goal.returns-clause-items
returns-clause-items g c =
    let ch = subst (λ (rest : List (Vec g.row.T.Denot Global)). ChangesBlock c.args.number (TakesAll c.remove-back.result.items) (c.args.self.now.head ∷ rest) (all_of c.append_in.new.self)) c.remove-back.ensures.items c.append_in.ensures.block in
    joined (all_of c.args.self.now) (all_of c.append_in.new.self) c.args.number (omega (arith, c.requires.number)) c.remove-back.result c.remove-back.ensures.value ch

pub returns-clause-blocks : goal.returns-clause-blocks
returns-clause-blocks g c =
    let ch = subst (λ (rest : List (Vec g.row.T.Denot Global)). ChangesBlock c.args.number (TakesAll c.remove-back.result.items) (c.args.self.now.head ∷ rest) (all_of c.append_in.new.self)) c.remove-back.ensures.items c.append_in.ensures.block in
    joined_blocks (all_of c.args.self.now) (all_of c.append_in.new.self) c.args.number (omega (arith, c.requires.number)) c.remove-back.result c.remove-back.ensures.value ch c.requires.fit c.requires.blocks
