-- The parts of a split at ';' are the items.
use Rattle.std.proofs.Common.{rules, lit<, map, ap, ◌∙◌}
use Rattle.std.proofs.lemmas.Iterator.Consumers.{YieldsList-at, YieldsList-end}
use Rattle.std.proofs.lemmas.Iterator.Splits.{YieldsList-from_str_split}
use Rattle.bot_dimensions.specs.Pairs.{pair_of}
use Rattle.bot_dimensions.proofs.Items.{items_of-filled}
use Rattle.bot_dimensions.proofs.pairs.pairs_of.Goals as goal

pub returns : goal.returns
returns c =
    let split = c.split-item-items.ensures in
    let items =
    YieldsList-at c.into_iter-item-iterator.ensures.into_iter_gives
    (YieldsList-from_str_split 59 c.args.text.now (lit< tt) split.text split.has_more split.pattern)
    in
    let ended = YieldsList-end items c.loop-item.yielded _ c.loop-item.yielded_by _ _ c.in-None.is c.next.ensures.steps in
    rw (items_of-filled c.args.text.now (search rules)) (c.loop-item.invariant ∙ ap (map pair_of) ended.0)
