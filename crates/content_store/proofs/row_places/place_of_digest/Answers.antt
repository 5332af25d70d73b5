-- The store tells the number of a digest.
use Rattle.std.proofs.Common.{◌∙◌, sym}
use Rattle.content_store.proofs.Numbered.{place_absent, place_same}
use Rattle.content_store.proofs.row_places.place_of_digest.Goals as goal

pub returns-in-None : goal.returns-in-None
returns-in-None c =
    sym (place_absent c.args.rows.now.items c.requires.stored.0 c.args.store.now.held c.requires.stored.1 c.args.digest.now (sym c.in-None.ensures))

pub returns-in-Some : goal.returns-in-Some
returns-in-Some c =
    c.place_of_number.ensures ∙ place_same c.args.rows.now.items c.requires.stored.0 c.args.store.now.held c.requires.stored.1 c.args.digest.now c.in-Some.number (sym c.in-Some.ensures)
