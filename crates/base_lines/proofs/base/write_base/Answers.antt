-- The lines of the rows are those of the pool.
use Rattle.std.proofs.Common.{◌≡◌, ℕ, ap, ap₂, ◌∙◌, subst}
use Rattle.base_lines.specs.declared.base_row.PoolLine.{PoolLine}
use Rattle.base_lines.specs.declared.base_row.BaseRow.TheVariants as row
use Rattle.base_lines.specs.Lines.{row_line, ReadsBack}
use Rattle.base_lines.proofs.Writing.{all_written}
use Rattle.base_lines.proofs.ReadBack.{tell_the_pool}
use Rattle.base_lines.proofs.base.write_base.Goals as goal

abbrev pool_with : ℕ → ℕ → PoolLine
pool_with last placed = record { last = last; placed = placed }

pub returns-clause-lines : goal.returns-clause-lines
returns-clause-lines g c =
    let pool = ap₂ pool_with c.last.ensures.last c.placed.ensures in
    all_written (g.M.Machine.kept c.args.machine.now).pool c.in_ok-line_of.field-0 c.in_ok-lines.lines.items c.add_lines.new.lines.items c.add_lines-2.new.lines.items c.add_lines-3.new.lines.items
    c.in_ok-lines.ensures.items (c.in_ok-line_of.ensures.line ∙ ap (λ (p : PoolLine). row_line (row.Pool p)) pool) c.in_ok-add_lines.ensures c.in_ok-add_lines-2.ensures c.in_ok-add_lines-3.ensures

pub returns-clause-read_back : goal.returns-clause-read_back
returns-clause-read_back g c =
    let pool = ap₂ pool_with c.last.ensures.last c.placed.ensures in
    tell_the_pool (g.M.Machine.kept c.args.machine.now).pool (subst (λ (p : PoolLine). ReadsBack (row.Pool p)) pool c.in_ok-line_of.ensures.reads_back)
    c.in_ok-add_lines.ensures.read_back c.in_ok-add_lines-2.ensures.read_back c.in_ok-add_lines-3.ensures.read_back
    c.add_lines-3.new.lines.items (returns-clause-lines g c)
