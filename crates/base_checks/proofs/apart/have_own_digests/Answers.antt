-- What is told of the digests is told of the blobs.
use Rattle.std.proofs.Common.{ℕ, List, map, refl, ◌∙◌}
use Rattle.std.proofs.lemmas.List.Folds.{map_fixed}
use Rattle.blob_rows.specs.Digests.{digest_cmp}
use Rattle.base_checks.specs.Rows.{digest_of, HaveOwnDigests}
use Rattle.base_checks.proofs.OneBlob.{digests_stand_once}
use Rattle.base_checks.proofs.Behind.{told_of_rows}
use Rattle.base_checks.proofs.apart.have_own_digests.Goals as goal

pub returns : goal.returns
returns c =
    let keys = c.in_ok-keys.keys.items in
    told_of_rows digest_cmp (λ (digest : List ℕ). digest) (HaveOwnDigests c.args.blobs.now) keys (map digest_of c.args.blobs.now)
    (map_fixed (λ (digest : List ℕ). digest) keys (λ k d low. refl) ∙ c.in_ok-keys.ensures)
    (digests_stand_once c.args.blobs.now) c.stands_twice.result
    (rw c.deref_mut.ensures.value at c.stands_twice.ensures)
