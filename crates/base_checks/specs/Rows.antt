-- Rows in the order in which they were created, and rows of which no two have one key.
use Rattle.std.specs.Prelude.{◌<◌, ◌≤◌, ℕ, List, ◌++◌, All, count_by, IfSome}
use Rattle.std.specs.Option.{option_to_list}
use Rattle.std.specs.Ordering.{nat_cmp, ordering_then}
use Rattle.std.specs.declared.cmp.Ordering.{Ordering}
use Rattle.dimensions.specs.Order.{text_cmp}
use Rattle.base_checks.specs.Types.{BlobRow, TaskRow, BotRow}
use Rattle.blob_rows.specs.BlobRows.{has_digest}
use Rattle.base_checks.specs.Keys.{IsFull}
use Rattle.swarm_model.specs.Soundness.{IsRightTry, claim_key, lost_key, sent_key, AreClaimedApart, AreSentApart, AreNamedApart}

-- the one was created no later than the other
abbrev pub NoLater : TaskRow → TaskRow → Type 0
NoLater a b = a.created ≤ b.created

-- the one was placed before the other
abbrev pub HasLowerNumber : BlobRow → BlobRow → Type 0
HasLowerNumber a b = a.no < b.no

-- ---- keys

abbrev pub name_of : BotRow → List ℕ
name_of bot = bot.name

abbrev pub digest_of : BlobRow → List ℕ
digest_of blob = blob.digest

-- the claims of a task's runs: of its last one, and of the one that was tried again
abbrev pub claims_of : TaskRow → List (ℕ × List ℕ)
claims_of task = option_to_list (claim_key task) ++ option_to_list (lost_key task)

-- the caller who sent a task under a uuid, with the uuid
abbrev pub uuids_of : TaskRow → List (List ℕ × List ℕ)
uuids_of task = option_to_list (sent_key task)

-- by the bot, then by the bytes of the id
abbrev pub claim_cmp : ℕ × List ℕ → ℕ × List ℕ → Ordering
claim_cmp a b = ordering_then (nat_cmp a.0 b.0) (text_cmp a.1 b.1)

-- the run of a task is its first, or its second and by another bot
abbrev pub HasRightTry : TaskRow → Type 0
HasRightTry task = IfSome task.attempt (IsRightTry task.retried)

-- the blob's bytes lie in a unit of the region at least
abbrev pub HasUnits : BlobRow → Type 0
HasUnits blob = IsFull blob.extent

-- ---- rows of one key are one

abbrev pub HaveOwnNames : List BotRow → Type 0
HaveOwnNames bots = All (λ bot. All (AreNamedApart bot) bots) bots

abbrev pub HaveOwnClaims : List TaskRow → Type 0
HaveOwnClaims tasks = All (λ task. All (AreClaimedApart task) tasks) tasks

abbrev pub HaveOwnUuids : List TaskRow → Type 0
HaveOwnUuids tasks = All (λ task. All (AreSentApart task) tasks) tasks

abbrev pub HaveOwnDigests : List BlobRow → Type 0
HaveOwnDigests blobs = (digest : List ℕ) → count_by (has_digest digest) blobs ≤ 1
