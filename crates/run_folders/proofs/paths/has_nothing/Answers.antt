-- The parts of a split at '/' are those of the path.
use Rattle.std.proofs.Common.{rules}
use borrow.Author.Tests.{tests}
use Rattle.std.proofs.lemmas.Iterator.Search.{any_from_yields_List}
use Rattle.std.proofs.lemmas.Iterator.Splits.{YieldsList-from_slice_split}
use Rattle.task_props.specs.Paths.{is_slash, names_nothing}
use Rattle.run_folders.proofs.paths.has_nothing.Goals as goal

pub returns : goal.returns
returns c =
    any_from_yields_List names_nothing _ _ _ c.any.ensures.ran
    (YieldsList-from_slice_split _ is_slash c.args.path.now c.split.ensures.rest c.split.ensures.done c.split.ensures.closure (λ x b q k. search (rules, tests)))
    (λ x b q k. search (rules, tests))
