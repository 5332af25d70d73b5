-- Blobs that have units have full extents.
use Rattle.base_checks.proofs.Whole.{all_full}
use Rattle.base_checks.proofs.apart.are_blobs_apart.Goals as goal

pub extents_overlap-requires : goal.extents_overlap-requires
extents_overlap-requires c = record { full = rw (c.deref_mut.ensures.value, c.in_ok-extents.ensures) (all_full c.args.blobs.now c.requires.units) }
