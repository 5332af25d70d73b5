-- What is seen is what the copy shows.
use Rattle.std.proofs.Common.{sym}
use Rattle.left_right.specs.Sides.{view}
use Rattle.pool_views.specs.Views.{Query}
use Rattle.row_copies.specs.Kept.{kept_of}
use Rattle.swarm_boards.proofs.Looking.{sound_shown, fits_shown, few_shown, is_read}
use Rattle.swarm_boards.proofs.view.read.Goals as goal

pub shown-viewed-requires-clause-sound : goal.shown-viewed-requires-clause-sound
shown-viewed-requires-clause-sound c = rw c.get.ensures (sound_shown (kept_of c.in-Ok.reading.part.value) c.in-Ok.ensures.1.1.shown)

pub shown-viewed-requires-clause-few : goal.shown-viewed-requires-clause-few
shown-viewed-requires-clause-few c =
    rw c.get.ensures (few_shown (kept_of c.in-Ok.reading.part.value) (view c.args.reader.place) (view c.in-Ok.reading.place) c.args.request.now c.in-Ok.ensures.1.1 c.requires.base)

pub shown-viewed-requires-clause-fits : goal.shown-viewed-requires-clause-fits
shown-viewed-requires-clause-fits c =
    rw c.get.ensures (fits_shown (kept_of c.in-Ok.reading.part.value) (view c.args.reader.place) (view c.in-Ok.reading.place) c.args.request.now c.in-Ok.ensures.1.1 c.requires.base)

pub returns-in-Ok : goal.returns-in-Ok
returns-in-Ok c =
    let query : Query = record { caller = c.args.who.now; after = c.args.after; request = c.args.request.now } in
    rw c.leave.ensures.1 (is_read (kept_of c.in-Ok.reading.part.value) c.args.count (view c.args.reader.place) (view c.in-Ok.reading.place) query c.shown-viewed.result
    c.in-Ok.ensures.1.1 c.requires.base c.requires.reads (rw (sym c.get.ensures) c.shown-viewed.ensures))
