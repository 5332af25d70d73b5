-- A base is what keeps the rules of each group.
use Rattle.std.proofs.Common.{◌≡◌, ℕ, ◌≤◌, ◌<◌, ◌^◌, Bool, true, false, List, [], ◌∷◌, map, All, AllPairs, count_by, refl, ◌∙◌, eqb-true, arith}
use Rattle.std.specs.Prelude.{max, ◌+◌, ◌/◌}
use Rattle.std.proofs.lemmas.Bool.{ne_eqb}
use Rattle.std.proofs.lemmas.List.Elements.{All-weaker, All-map}
use Rattle.dimensions.proofs.Counting.{count-pass, count-skip}
use Rattle.base_checks.specs.Types.{BlobRow, PoolState}
use Rattle.blob_rows.specs.BlobRows.{is_blob, extent_of_row}
use Rattle.swarm_model.specs.Soundness.{IsSound, IsSoundTask, IsSoundBot, IsSoundBlob}
use Rattle.swarm_model.specs.BaseRules.{IsBase, AreBaseRows, HasWhatIsUsed}
use Rattle.pool_laws.proofs.Lists.{Among, here, later, each}
use Rattle.row_changes.specs.Rows.{IsEarly, IsHeard}
use Rattle.base_checks.specs.Keys.{IsFull}
use Rattle.base_checks.specs.Rows.{HasRightTry, HasUnits, HasLowerNumber}
use Rattle.base_checks.specs.Bases.{IsWithinLimits, HaveNumbers, HaveRightRows, AreInAgreement, HaveOwnKeys}
use Rattle.base_checks.proofs.RowKeys.{pairs_head, pairs_tail}

-- ---- numbers of blobs

-- where no blob has the number, none is counted
none_numbered : (number : ℕ) (blobs : List BlobRow) → ((y : BlobRow) → Among y blobs → is_blob number y ≡ false) → count_by (is_blob number) blobs ≡ 0
none_numbered number [] none = refl
none_numbered number (y ∷ blobs) none = count-skip (is_blob number) y blobs (none y here) ∙ none_numbered number blobs (λ z a. none z (later a))

-- numbers that rise stand once
numbers_once : (blobs : List BlobRow) → AllPairs HasLowerNumber blobs → (number : ℕ) → count_by (is_blob number) blobs ≤ 1
numbers_once [] rising number = omega arith
numbers_once (x ∷ blobs) rising number = by_test (is_blob number x) refl (numbers_once blobs (pairs_tail HasLowerNumber x blobs rising) number)
  where
    others : x.no ≡ number → (y : BlobRow) → Among y blobs → is_blob number y ≡ false
    others same y a =
        let above : x.no < y.no = each (HasLowerNumber x) blobs (pairs_head HasLowerNumber x blobs rising) y a in ne_eqb y.no number (λ e. omega (arith, above, same, e))

    by_test : (t : Bool) → is_blob number x ≡ t → count_by (is_blob number) blobs ≤ 1 → count_by (is_blob number) (x ∷ blobs) ≤ 1
    by_test true t rest =
        (let none = none_numbered number blobs (others (eqb-true x.no number t)) in
        let one = count-pass (is_blob number) x blobs t in
        omega (arith, one, none))
    by_test false t rest = (let same = count-skip (is_blob number) x blobs t in omega (arith, same, rest))

-- ---- what the rules on one row say for those on pairs

module _ (s : PoolState) (rows : HaveRightRows s) where
  pub are_early : s.last ≤ 2 ^ 40 → All IsEarly s.tasks
  are_early low = All-weaker (IsSoundTask s) IsEarly (λ x sound. let since = sound.since in omega (arith, since, low)) s.tasks rows.tasks

  pub are_heard : s.last ≤ 2 ^ 40 → All IsHeard s.bots
  are_heard low = All-weaker (IsSoundBot s) IsHeard (λ b sound. let contact = sound.contact in omega (arith, contact, low)) s.bots rows.bots

  pub are_right_tries : All HasRightTry s.tasks
  are_right_tries = All-weaker (IsSoundTask s) HasRightTry (λ x sound. sound.tries) s.tasks rows.tasks

  pub have_units : All HasUnits s.blobs
  have_units = All-weaker (IsSoundBlob s) HasUnits (λ b sound. let units : b.extent.units ≡ max 1 ((b.size + 63) / 64) = sound.units in omega (arith, units)) s.blobs rows.blobs

-- the extents of blobs that have units
pub all_full : (blobs : List BlobRow) → All HasUnits blobs → All IsFull (map extent_of_row blobs)
all_full blobs h = All-map IsFull extent_of_row blobs h

-- ---- a base

module _ (s : PoolState) (count : ℕ) where
  abbrev Base : Type 0
  Base = IsBase s.settings count s

  pub limits_of : Base → IsWithinLimits count s
  limits_of base =
      let sound : IsSound s = base.sound in
      record {
        last = sound.last;
        placed = base.placed;
        few = base.few;
        few_tasks = sound.few_tasks;
        few_bots = sound.few_bots;
        few_blobs = sound.few_blobs;
        light = base.light;
      }

  pub numbers_of : Base → HaveNumbers s
  numbers_of base = let sound : IsSound s = base.sound in record { tasks = sound.tasks_numbered; bots = sound.bots_numbered }

  pub rows_of : Base → HaveRightRows s
  rows_of base =
      let sound : IsSound s = base.sound in
      let rows : AreBaseRows s = base.rows in
      record { tasks = sound.tasks; kept = rows.tasks; bots = sound.bots; blobs = sound.blobs; from_one = rows.blobs }

  pub agreement_of : Base → AreInAgreement s
  agreement_of base =
      let sound : IsSound s = base.sound in
      let rows : AreBaseRows s = base.rows in
      record { ahead = sound.ahead; runs = sound.runs; outcomes = rows.outcomes; order = rows.order; rising = rows.rising }

  pub keys_of : Base → HaveOwnKeys s
  keys_of base =
      let sound : IsSound s = base.sound in
      record { names = sound.names; claims = sound.claims; sent = sound.sent; digests = sound.digests; apart = sound.apart }

  pub used_of : Base → HasWhatIsUsed s
  used_of base = let rows : AreBaseRows s = base.rows in rows.used

  pub base_of : IsWithinLimits count s → HaveNumbers s → HaveRightRows s → AreInAgreement s → HaveOwnKeys s → HasWhatIsUsed s → Base
  base_of limits numbers rows agreement keys used =
      record {
        own = refl;
        sound = record {
          last = limits.last;
          tasks_numbered = numbers.tasks;
          bots_numbered = numbers.bots;
          few_tasks = limits.few_tasks;
          few_bots = limits.few_bots;
          tasks = rows.tasks;
          bots = rows.bots;
          ahead = agreement.ahead;
          runs = agreement.runs;
          claims = keys.claims;
          sent = keys.sent;
          names = keys.names;
          few_blobs = limits.few_blobs;
          blobs = rows.blobs;
          digests = keys.digests;
          numbers = numbers_once s.blobs agreement.rising;
          apart = keys.apart;
        };
        rows = record {
          tasks = rows.kept;
          order = agreement.order;
          outcomes = agreement.outcomes;
          used = used;
          blobs = rows.from_one;
          rising = agreement.rising;
        };
        light = limits.light;
        placed = limits.placed;
        few = limits.few;
      }
