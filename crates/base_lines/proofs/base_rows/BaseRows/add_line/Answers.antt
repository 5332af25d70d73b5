-- Rows that were read stay so, and one line more was read.
use Rattle.base_lines.proofs.Reading.{keeps_read, one_line_more, few_lines}
use Rattle.base_lines.proofs.base_rows.BaseRows.add_line.Goals as goal

pub returns-clause-read : goal.returns-clause-read
returns-clause-read c =
    keeps_read c.args.self.now c.add_row.new.self c.in_ok-row.row c.add_row.result c.in_ok-row.ensures.holds c.add_row.ensures.told c.add_row.ensures.stays

pub returns-clause-counted : goal.returns-clause-counted
returns-clause-counted c = one_line_more c.args.self.now c.add_row.new.self c.in_ok-row.row c.add_row.result c.add_row.ensures.told

pub returns-clause-few : goal.returns-clause-few
returns-clause-few c = λ read.
    few_lines c.add_row.new.self
    (keeps_read c.args.self.now c.add_row.new.self c.in_ok-row.row c.add_row.result c.in_ok-row.ensures.holds c.add_row.ensures.told c.add_row.ensures.stays read)
