use Rattle.std.proofs.Common.{ap, ◌∙◌}
use Rattle.sqlite_keeper.proofs.Keeping.{has_appended, may_have_appended}
use Rattle.sqlite_keeper.proofs.records.Records.append_open.Goals as goal

pub returns-in-Ok-clause-kept : goal.returns-in-Ok-clause-kept
returns-in-Ok-clause-kept g c =
    has_appended g.F.PoolFile.stands c.args.self.now c.begin.new.self c.has_appended.new.self c.in_ok-begun.begun c.args.add c.args.remove c.args.line.now c.args.bytes.now
    c.requires c.begin.ensures.looks c.in_ok-begun.ensures.begins
    (ap (λ r. g.F.PoolFile.stands r.file) c.has_appended.ensures ∙ c.in-Ok.ensures)
    (ap (λ r. r.standing) c.has_appended.ensures) (ap (λ r. r.known) c.has_appended.ensures) (ap (λ r. r.begun) c.has_appended.ensures)

pub returns-in-Err-clause-stays : goal.returns-in-Err-clause-stays
returns-in-Err-clause-stays g c =
    may_have_appended g.F.PoolFile.stands c.args.self.now c.begin.new.self c.may_have_appended.new.self c.in_ok-begun.begun c.args.add c.args.remove c.args.line.now c.args.bytes.now
    c.requires c.begin.ensures.looks c.in_ok-begun.ensures.begins
    (rw c.may_have_appended.ensures c.in-Err.ensures)
    (ap (λ r. r.standing) c.may_have_appended.ensures) (ap (λ r. r.known) c.may_have_appended.ensures) (ap (λ r. r.begun) c.may_have_appended.ensures)
