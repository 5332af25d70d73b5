-- The closure compares the name of the bot of a number.
use Rattle.std.proofs.Common.{rules, map}
use Rattle.std.proofs.lemmas.Fn.{always_returns_same}
use Rattle.dimensions.specs.Order.{text_cmp}
use Rattle.bot_registry.specs.Names.{name_of, name_at}
use Rattle.bot_registry.proofs.names.name_place.Goals as goal

pub returns-clause-place : goal.returns-clause-place
returns-clause-place c =
    c.binary_search_by.ensures.position (λ n. text_cmp (name_at (map name_of c.args.rows.now) n) c.args.name.now)
    (always_returns_same _ _ _ (λ a r f called. (search rules, search rules)))
