-- The entry is added, or the log stays; what never changes stays in either case.
use Rattle.std.proofs.lemmas.Result.{on_ok_weaker}
use Rattle.shared_doors.proofs.Standing.{held_when, lasting_stays, short_log, untold_records}
use Rattle.shared_doors.proofs.kept.Kept.add.Goals as goal

pub add_entry-requires-clause-held : goal.add_entry-requires-clause-held
add_entry-requires-clause-held g c = held_when (g.M.Machine.kept c.args.self.now.machine) c.requires.standing.1

pub add_entry-requires-clause-records : goal.add_entry-requires-clause-records
add_entry-requires-clause-records g c =
    untold_records g.K.Keeper.SURE g.K.Keeper.TELLS (g.K.Keeper.tables c.args.self.now.keeper) (g.M.Machine.kept c.args.self.now.machine)
    g.K.Keeper.sure_untold (g.K.Keeper.tells c.args.self.now.keeper) c.requires.sure

pub returns-clause-lasting : goal.returns-clause-lasting
returns-clause-lasting g c =
    lasting_stays c.add_entry.result (g.M.Machine.kept c.args.self.now.machine) (g.M.Machine.kept c.add_entry.new.machine) c.args.entry
    c.add_entry.ensures.added c.add_entry.ensures.stays c.add_entry.ensures.held c.requires.standing.1

pub returns-clause-short : goal.returns-clause-short
returns-clause-short g c =
    on_ok_weaker c.add_entry.result
    (short_log (g.M.Machine.kept c.args.self.now.machine) (g.M.Machine.kept c.add_entry.new.machine) c.args.entry c.requires.standing.0)
    c.add_entry.ensures.added
