-- Each key has one row, or one has not.
use Rattle.std.proofs.Common.{map}
use Rattle.blob_rows.specs.Extents.{AreApart}
use Rattle.blob_rows.specs.BlobRows.{extent_of_row}
use Rattle.base_checks.specs.Rows.{HaveOwnNames, HaveOwnClaims, HaveOwnUuids, HaveOwnDigests}
use Rattle.base_checks.specs.Bases.{HaveOwnKeys}
use Rattle.base_checks.proofs.Tests.{told_as_ok, kept, broken}
use Rattle.base_checks.proofs.Whole.{are_right_tries, have_units}
use Rattle.base_checks.proofs.base.have_own_keys.Goals as goal

pub have_own_claims-requires : goal.have_own_claims-requires
have_own_claims-requires c =
    record { numbered = rw c.as_slice-tasks.ensures c.requires.numbers.tasks; tries = rw c.as_slice-tasks.ensures (are_right_tries c.args.base.now c.requires.rows) }

pub are_blobs_apart-requires : goal.are_blobs_apart-requires
are_blobs_apart-requires c = record { units = rw c.as_slice-blobs.ensures (have_units c.args.base.now c.requires.rows) }

pub returns-then-not-own_names : goal.returns-then-not-own_names
returns-then-not-own_names c = λ h.
    let s = c.args.base.now in broken (HaveOwnNames s.bots) c.in_ok-own_names.own_names (rw c.as_slice-bots.ensures at c.in_ok-own_names.ensures) c.if-not-own_names.true h.names

pub returns-then-not-own_claims : goal.returns-then-not-own_claims
returns-then-not-own_claims c = λ h.
    let s = c.args.base.now in broken (HaveOwnClaims s.tasks) c.in_ok-own_claims.own_claims (rw c.as_slice-tasks.ensures at c.in_ok-own_claims.ensures) c.if-not-own_claims.true h.claims

pub returns-then-not-own_uuids : goal.returns-then-not-own_uuids
returns-then-not-own_uuids c = λ h.
    let s = c.args.base.now in broken (HaveOwnUuids s.tasks) c.in_ok-own_uuids.own_uuids (rw c.as_slice-tasks.ensures at c.in_ok-own_uuids.ensures) c.if-not-own_uuids.true h.sent

pub returns-then-not-own_digests : goal.returns-then-not-own_digests
returns-then-not-own_digests c = λ h.
    let s = c.args.base.now in broken (HaveOwnDigests s.blobs) c.in_ok-own_digests.own_digests (rw c.as_slice-blobs.ensures at c.in_ok-own_digests.ensures) c.if-not-own_digests.true h.digests

pub returns : goal.returns
returns c =
    let s = c.args.base.now in
    told_as_ok (AreApart (map extent_of_row s.blobs)) (HaveOwnKeys s) c.are_blobs_apart.result
    (λ h. record {
      names = kept (HaveOwnNames s.bots) c.in_ok-own_names.own_names (rw c.as_slice-bots.ensures at c.in_ok-own_names.ensures) c.if-not-own_names.false;
      claims = kept (HaveOwnClaims s.tasks) c.in_ok-own_claims.own_claims (rw c.as_slice-tasks.ensures at c.in_ok-own_claims.ensures) c.if-not-own_claims.false;
      sent = kept (HaveOwnUuids s.tasks) c.in_ok-own_uuids.own_uuids (rw c.as_slice-tasks.ensures at c.in_ok-own_uuids.ensures) c.if-not-own_uuids.false;
      digests = kept (HaveOwnDigests s.blobs) c.in_ok-own_digests.own_digests (rw c.as_slice-blobs.ensures at c.in_ok-own_digests.ensures) c.if-not-own_digests.false;
      apart = h;
    })
    (λ h. h.apart)
    (rw c.as_slice-blobs.ensures at c.are_blobs_apart.ensures)
