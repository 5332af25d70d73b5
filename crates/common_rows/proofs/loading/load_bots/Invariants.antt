-- The rows so far are there.
use Rattle.std.proofs.Common.{◌≡◌, take}
use Rattle.common_rows.proofs.loading.load_bots.Given as goal

abbrev pub invariant-loop-bot : goal.invariant-loop-bot
invariant-loop-bot l = record { rows : l.loaded.rows ≡ take l.bot-index l.bots; most : l.loaded.most ≡ l.most }
