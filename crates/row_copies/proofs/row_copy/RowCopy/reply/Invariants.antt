-- The steps have this name and these parts.
use Rattle.row_copies.proofs.row_copy.RowCopy.reply.Given as goal

abbrev pub ghosts-reply_by : goal.ghosts-reply_by
ghosts-reply_by a = record { name = a.blank.name; parts = a.blank.parts }
