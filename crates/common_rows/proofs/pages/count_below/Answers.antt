-- The first tasks have the lowest numbers.
use Rattle.std.proofs.lemmas.List.{take_min}
use Rattle.pool_log.proofs.TasksBelow.{filter-is_listed}
use Rattle.common_rows.proofs.pages.count_below.Goals as goal

pub returns-in-Some-clause-first : goal.returns-in-Some-clause-first
returns-in-Some-clause-first c wanted =
    rw (c.in-Some.is, c.min.ensures, c.count-in-Some.ensures, take_min c.saturating_sub.result c.args.tasks.now.rows, c.saturating_sub.ensures)
    (filter-is_listed wanted c.in-Some.below 1 c.args.tasks.now.rows c.requires.numbered)
