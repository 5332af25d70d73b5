-- Bots and tasks agree exactly where each that names another is named by it.
use Rattle.base_checks.proofs.NamedRuns.{bots_told, told_of_both}
use Rattle.base_checks.proofs.agreeing.name_each_other.Goals as goal

pub returns-then-not-bots_agree : goal.returns-then-not-bots_agree
returns-then-not-bots_agree c = λ agree. c.if-not-bots_agree.ensures (bots_told c.args.bots.now c.args.tasks.now c.requires.bots c.requires.tasks agree)

pub returns : goal.returns
returns c = told_of_both c.args.bots.now c.args.tasks.now c.requires.bots c.requires.tasks c.if-not-bots_agree.ensures c.tasks_agree.result c.tasks_agree.ensures
