-- The parts of a split at ';' are the items.
use Rattle.std.proofs.Common.{rules, lit<}
use borrow.Author.Tests.{tests}
use Rattle.std.proofs.lemmas.Iterator.Search.{all_from_yields_List}
use Rattle.std.proofs.lemmas.Iterator.Splits.{YieldsList-from_str_split}
use Rattle.bot_dimensions.specs.Pairs.{is_pair}
use Rattle.bot_dimensions.proofs.Items.{items_of-filled}
use Rattle.bot_dimensions.proofs.pairs.are_pairs.Goals as goal

pub returns-else-is_empty : goal.returns-else-is_empty
returns-else-is_empty c =
    rw (items_of-filled c.args.text.now (search rules))
    (all_from_yields_List is_pair _ _ c.all.result c.all.ensures.ran
    (YieldsList-from_str_split 59 c.args.text.now (lit< tt) c.split.ensures.text c.split.ensures.has_more c.split.ensures.pattern)
    (λ x b q k. search (rules, tests)))
