-- The value of the row has a text, of which it is read.
use Rattle.base_lines.proofs.Back.{reads_back_of}
use Rattle.base_lines.proofs.line.line_of.Goals as goal

pub returns-clause-reads_back : goal.returns-clause-reads_back
returns-clause-reads_back g c =
    reads_back_of (g.R.BaseLine.told c.args.row.now) _ c.in_ok-value.ensures.holds c.in_ok-value.ensures.value _ c.in_ok-text.ensures.text c.in_ok-text.ensures.reads_back
