-- The extents of the slots are those of the contents.
use Rattle.std.proofs.Common.{◌≡◌, true, subst, sym, ap, ◌∙◌, List, ℕ, map}
use Rattle.std.specs.List.Sorted.{IsStrictlySortedBy}
use Rattle.blob_rows.specs.declared.extent.Extent.{Extent}
use Rattle.blob_rows.specs.Places.{is_free}
use Rattle.blob_rows.specs.Extents.{AreApart}
use Rattle.blob_rows.specs.Digests.{digest_cmp}
use Rattle.blob_rows.specs.BlobRows.{units_of}
use Rattle.content_store.specs.Contents.{extent_of, is_held}
use Rattle.content_store.specs.Plain.{ContentStoreState}
use Rattle.content_store.proofs.Laying.{extents_in, names_in}
use Rattle.content_store.proofs.content_store.ContentStore.hold_at.Goals as goal

pub hold_at-requires-clause-fresh : goal.hold_at-requires-clause-fresh
hold_at-requires-clause-fresh c = (c.self.inside.bytes.items, ap (λ (s : ContentStoreState). is_held s.held c.args.digest.now) c.self.view_is ∙ c.requires.fresh)

pub hold_at-requires-clause-free : goal.hold_at-requires-clause-free
hold_at-requires-clause-free c =
    let i = c.self.inside in
    subst (λ (l : List Extent). is_free l (units_of c.args.size) c.args.at ≡ true) (extents_in i.bytes.items i.slots.items)
    (ap (λ (s : ContentStoreState). is_free (map extent_of s.held) (units_of c.args.size) c.args.at) c.self.view_is ∙ c.requires.free)

pub returns-clause-apart : goal.returns-clause-apart
returns-clause-apart c =
    subst (λ (l : List Extent). AreApart l) (sym (extents_in c.self.inside.bytes.items c.hold_at.new.slots.items)) c.hold_at.ensures.laid_out.apart

pub returns-clause-sorted : goal.returns-clause-sorted
returns-clause-sorted c =
    subst (λ (l : List (List ℕ)). IsStrictlySortedBy digest_cmp l) (sym (names_in c.self.inside.bytes.items c.hold_at.new.slots.items)) c.hold_at.ensures.laid_out.sorted
