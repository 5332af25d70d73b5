-- What never changes of a machine, before an entry and after it.
use Rattle.std.proofs.Common.{◌≡◌, ◌<◌, ◌≤◌, ◌^◌, ◌&&◌, Bool, true, false, length, arith, refl, ap, sym, ◌∙◌, Option, Some, None, Result, Ok, Err, OnOk, OnErr, IsTrue, is_some, nat_le}
use Rattle.std.specs.List.{list_all}
use Rattle.std.proofs.lemmas.Bool.{and_parts}
use Rattle.std.proofs.lemmas.List.{length_push}
use Rattle.std.proofs.lemmas.List.Sums.{AllPass-from_list_all, list_all-from_AllPass}
use borrow.Author.Tests.{leb-true}
use Rattle.blob_rows.specs.declared.blob_row.BlobRow.{BlobRow}
use Rattle.swarm_keeper.specs.Tables.{Tables}
use Rattle.shared_doors.specs.Types.{Entry, PoolSettings, PoolState}
use Rattle.swarm_model.specs.Bases.{Base}
use Rattle.swarm_model.specs.MachineState.{MachineState, AreHeld}
use Rattle.swarm_model.specs.Settings.{is_grant, is_pool_name, keeps_rules}
use Rattle.swarm_model.specs.Words.{is_between}
use Rattle.swarm_history.specs.Records.{AreMachineRecords}
use Rattle.swarm_history.specs.Settling.{Adds, IsUnchanged}
use Rattle.swarm_history.proofs.OwnPoints.{few_history}
use Rattle.shared_doors.specs.declared.view.Lasting.{Lasting}
use Rattle.shared_doors.specs.Lasting.{are_held, lasting_of}

-- ---- the settings allow few entries

-- the rules from a field on
abbrev from_weight : PoolSettings → Bool
from_weight p = is_between 1 134217728 p.most_weight && (nat_le p.retries 1 && (nat_le (length p.grants) 256 && list_all is_grant p.grants))

abbrev from_entries : PoolSettings → Bool
from_entries p = is_between 1 4194304 p.most_entries && from_weight p

abbrev from_units : PoolSettings → Bool
from_units p = is_between 1 4194304 p.store_units && (is_between 1 262144 p.most_tasks && (is_between 1 4096 p.most_bots && from_entries p))

abbrev from_age : PoolSettings → Bool
from_age p = nat_le p.reuse_age_secs 31536000 && (is_between 60 2592000 p.death_timeout_secs && (is_between 60 31536000 p.blob_life_secs && from_units p))

-- the last of four tests
fourth : (a b c d : Bool) → IsTrue (a && (b && (c && d))) → IsTrue d
fourth a b c d all = (and_parts c d (and_parts b (c && d) (and_parts a (b && (c && d)) all).1).1).1

few_entries : (p : PoolSettings) → IsTrue (keeps_rules p) → p.most_entries ≤ 4194304
few_entries p rules =
    let named = (and_parts (nat_le p.place 3) (is_pool_name p.name && from_age p) rules).1 in
    let age = (and_parts (is_pool_name p.name) (from_age p) named).1 in
    let units = fourth (nat_le p.reuse_age_secs 31536000) (is_between 60 2592000 p.death_timeout_secs) (is_between 60 31536000 p.blob_life_secs) (from_units p) age in
    let entries = fourth (is_between 1 4194304 p.store_units) (is_between 1 262144 p.most_tasks) (is_between 1 4096 p.most_bots) (from_entries p) units in
    let between = (and_parts (is_between 1 4194304 p.most_entries) (from_weight p) entries).0 in
    leb-true p.most_entries 4194304 (and_parts (nat_le 1 p.most_entries) (nat_le p.most_entries 4194304) between).1

-- a log to which an entry was added was short
pub short_log : (old new : MachineState) (entry : Entry) → IsTrue (keeps_rules old.pool.settings) → Adds old new entry → length old.log < 2 ^ 32
short_log old new entry rules added =
    let few : length new.log ≤ new.pool.settings.most_entries = few_history new added.history in
    let most = few_entries old.pool.settings rules in
    let grown = ap length added.log ∙ length_push old.log entry in
    let same = ap (λ (p : PoolSettings). p.most_entries) added.settings in
    omega (arith, few, most, grown, same)

-- ---- what never changes

pub held_when : (kept : MachineState) → IsTrue (are_held kept) → AreHeld kept
held_when kept whole = AllPass-from_list_all (λ (blob : BlobRow). is_some (kept.held blob.digest)) kept.pool.blobs whole

abbrev with_settings : PoolSettings → Bool → Base → Lasting
with_settings settings whole start = record { settings = settings; is_whole = whole; rows = start.rows; count = start.count }

same_lasting : (s t : PoolSettings) (v w : Bool) (b c : Base) → s ≡ t → v ≡ w → b ≡ c → with_settings s v b ≡ with_settings t w c
same_lasting s t v w b c settings whole starts = rw (settings, whole, starts) refl

same_settings : {T E : Type 0} (result : Result T E) (old new : MachineState) (entry : Entry) → OnOk result (Adds old new entry) → OnErr result (IsUnchanged old new)
    → new.pool.settings ≡ old.pool.settings
same_settings (Ok done) old new entry adds stays = adds.settings
same_settings (Err fault) old new entry adds stays = ap (λ (s : PoolState). s.settings) stays.pool

same_start : {T E : Type 0} (result : Result T E) (old new : MachineState) (entry : Entry) → OnOk result (Adds old new entry) → OnErr result (IsUnchanged old new)
    → new.start ≡ old.start
same_start (Ok done) old new entry adds stays = adds.start
same_start (Err fault) old new entry adds stays = stays.start

-- neither an entry that is added nor one that is not changes it
pub lasting_stays : {T E : Type 0} (result : Result T E) (old new : MachineState) (entry : Entry) → OnOk result (Adds old new entry) → OnErr result (IsUnchanged old new)
    → AreHeld new → IsTrue (are_held old) → lasting_of new ≡ lasting_of old
lasting_stays result old new entry adds stays held whole =
    same_lasting new.pool.settings old.pool.settings (are_held new) (are_held old) new.start old.start (same_settings result old new entry adds stays)
    (list_all-from_AllPass (λ (blob : BlobRow). is_some (new.held blob.digest)) new.pool.blobs held ∙ sym whole) (same_start result old new entry adds stays)

-- ---- a keeper that never fails

-- it tells no records
pub untold_records : (sure tells : Bool) (told : Option Tables) (kept : MachineState) → (sure && tells) ≡ false → is_some told ≡ tells → sure ≡ true → AreMachineRecords told kept
untold_records sure tells None kept untold is sure_is = tt
untold_records sure tells (Some t) kept untold is sure_is = absurd (cc)
