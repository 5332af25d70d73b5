-- The name of each bot.
use Rattle.std.proofs.Common.{rules, tests}
use Rattle.std.proofs.lemmas.Iterator.{YieldsList-from_slice, YieldsList-from_map_by}
use Rattle.std.proofs.lemmas.Iterator.Consumers.{map_from_collect}
use Rattle.base_checks.specs.Keys.{text_in}
use Rattle.base_checks.specs.Rows.{name_of}
use Rattle.base_checks.proofs.keys.names.Goals as goal

pub returns : goal.returns
returns c =
    map_from_collect _ c.collect.ensures.ran
    (YieldsList-from_map_by _ text_in name_of (YieldsList-from_slice c.args.bots.now cc) c.map.ensures.closure (λ x r q k. search (rules, tests)))
