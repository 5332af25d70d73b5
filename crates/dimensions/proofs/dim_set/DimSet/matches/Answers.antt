use Rattle.std.proofs.Common.{rules}
use borrow.Author.Tests.{tests}
use Rattle.std.proofs.lemmas.Iterator.{YieldsList-from_slice}
use Rattle.std.proofs.lemmas.Iterator.Search.{all_from_yields_List}
use Rattle.dimensions.specs.Matching.{holds}
use Rattle.dimensions.proofs.dim_set.DimSet.matches.Goals as goal

pub returns : goal.returns
returns c =
    all_from_yields_List (holds c.args.bot.now) _ _ c.all.result c.all.ensures.ran (YieldsList-from_slice c.args.self.now cc) (λ x b q k. search (rules, tests))
