-- The extents of the slots are those of the contents.
use Rattle.std.proofs.Common.{subst, sym, List, ℕ}
use Rattle.std.specs.List.Sorted.{IsStrictlySortedBy}
use Rattle.blob_rows.specs.declared.extent.Extent.{Extent}
use Rattle.blob_rows.specs.Extents.{AreApart}
use Rattle.blob_rows.specs.Digests.{digest_cmp}
use Rattle.content_store.proofs.Laying.{extents_in, names_in}
use Rattle.content_store.proofs.content_store.ContentStore.hold.Goals as goal

pub returns-clause-apart : goal.returns-clause-apart
returns-clause-apart c =
    subst (λ (l : List Extent). AreApart l) (sym (extents_in c.self.inside.bytes.items c.hold.new.slots.items)) c.hold.ensures.laid_out.apart

pub returns-clause-sorted : goal.returns-clause-sorted
returns-clause-sorted c =
    subst (λ (l : List (List ℕ)). IsStrictlySortedBy digest_cmp l) (sym (names_in c.self.inside.bytes.items c.hold.new.slots.items)) c.hold.ensures.laid_out.sorted
