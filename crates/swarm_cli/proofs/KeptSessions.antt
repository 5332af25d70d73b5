-- A command over kept records.
use Rattle.std.proofs.Common.{◌≡◌, ℕ, List, [], ◌∷◌, map, length, refl, sym, ap, subst, ◌∙◌, Bool, true, Option, Some, None, IsSome, arith}
use Rattle.std.specs.Prelude.{is_some}
use Rattle.std.specs.List.{list_all}
use Rattle.std.proofs.lemmas.Bool.{and_from, and_parts}
use Rattle.std.proofs.lemmas.List.{length-map}
use Rattle.sw_base.specs.Faults.{Rose}
use Rattle.sw_base.specs.Link.{LinkState}
use Rattle.swarm_cli.specs.Types.{StartFault, Settings, PoolSettings, LoadFault}
use Rattle.sw_base.specs.declared.start_fault.StartFault.TheVariants as start
use Rattle.swarm_keeper.specs.Tables.{Tables}
use Rattle.swarm_keeper.specs.Stores.{StoreState}
use Rattle.swarm_model.specs.MachineState.{MachineState}
use Rattle.pool_doors.specs.Doors.{DoorState, Writer, IsFreshDoor, HasNoOthersAt, AddsNoOthers}
use Rattle.swarm_http.specs.Answered.{KeepsDoor}
use Rattle.swarm_history.specs.Machines.{logs_of, start_at, starts_of}
use Rattle.swarm_history.specs.Records.{AreBasesOf, AreKept, AreRestorable, IsFirstBadRecord}
use Rattle.pool_summaries.specs.Summaries.{summary_of}
use Rattle.swarm_cli.specs.declared.door_command.DoorCommand.{DoorCommand}
use Rattle.swarm_cli.specs.declared.serving.DoorResult.{DoorResult}
use Rattle.swarm_cli.specs.Handling.{work_of, IsUsed, IsFinished}
use Rattle.swarm_cli.specs.SettingsFile.{RunsNew, done}
use Rattle.swarm_cli.proofs.Sessions.{fresh_of_nothing}
use Rattle.swarm_history.specs.declared.load_fault.LoadFault.TheVariants as load
use Rattle.remote_commands.specs.Streams.{Streams}
use Rattle.swarm_cli.specs.ServerWork.{ServerWork, BeginNew, start_status}
use Rattle.swarm_cli.specs.Attaching.{Kept, KeepsOthers, CountsKeepers, AttachesAll, AttachesNone, DetachesAll}
use Rattle.swarm_cli.specs.KeptRecords.{DoesOver, NoDoor, no_memory, failed, bad_store, TellsFault, RunsOver, with_door, without_door, RunsUnserved, RunsKept, served, unserved}
use Rattle.swarm_cli.proofs.Doing.{with_console, same_console, begins_there, does_all, told_of_door}
use Rattle.swarm_cli.proofs.Places.{all_told, back_again, others_tell, others-trans}
use Rattle.swarm_cli.proofs.Counts.{counts_some, rose_above}

-- ---- over keepers

-- where the records had no other blobs, they have none in the end
pub others_kept : {settings : Settings} {before after : List (Option Tables)} (d e : DoorState) → d.settings ≡ settings → e.settings ≡ d.settings → e.writer ≡ d.writer
    → d.records ≡ before → after ≡ e.records
    → AddsNoOthers d e → (p : ℕ) → HasNoOthersAt settings.pools d.writer.starts before d.seen p → HasNoOthersAt settings.pools d.writer.starts after e.seen p
others_kept {settings = settings} d e is same writes told then adds p has =
    let start : HasNoOthersAt d.settings.pools d.writer.starts d.records d.seen p = rw (is, told) has in
    subst (λ (r : List (Option Tables)). HasNoOthersAt settings.pools d.writer.starts r e.seen p) (sym then)
    (subst (λ (w : Writer). HasNoOthersAt settings.pools w.starts e.records e.seen p) writes
    (subst (λ (s : Settings). HasNoOthersAt s.pools e.writer.starts e.records e.seen p) (same ∙ is) (adds p start)))

-- a command was carried out over the records
pub kept_ran : {M : Type 0} (kept : M → MachineState) (machines items : List M) (what : DoorCommand) (settings : Settings) (records_before records_after : List (Option Tables)) (faults : ℕ) (o m : Streams) (t : LinkState)
    (result : DoorResult) (status : ℕ) (pools : List PoolSettings) {n : ℕ} {before after : DoorState}
    → KeepsDoor n before after → IsFreshDoor settings before.seen before → AreBasesOf settings.pools records_before before.writer.starts → AreKept records_before before.seen → before.records ≡ records_before
    → IsUsed what before after o m result → machines ≡ items → ((p : ℕ) → start_at (starts_of (map kept items)) p ≡ after.writer.starts p) → ((p : ℕ) → logs_of (map kept items) p ≡ after.seen p)
    → AreBasesOf after.settings.pools records_after after.writer.starts → AreKept records_after after.seen → AreRestorable after.settings.pools records_after after.writer.starts after.seen → records_after ≡ after.records → faults ≡ after.faults
    → pools ≡ settings.pools → IsFinished result (summary_of pools (start_at (starts_of (map kept machines))) (logs_of (map kept machines))) m.console t status
    → DoesOver (work_of what) settings records_before records_after faults o (with_console m t) status
kept_ran {M = M} kept machines items what settings records_before records_after faults o m t result status pools {before = before} {after = after} keeps fresh bases lines records used_so are starts logs bases_then lines_then restorable_then told counted pools_are concluded = record {
  before = before;
  after = after;
  fresh_door = fresh;
  bases_before = bases;
  lines_before = lines;
  does = does_all what before after o m t result status (summary_of pools (start_at (starts_of (map kept machines))) (logs_of (map kept machines))) used_so concluded
      (told_of_door summary_of settings before after pools (start_at (starts_of (map kept machines))) (logs_of (map kept machines)) pools_are fresh.settings_are
      (begins_there (start_at (starts_of (map kept machines))) keeps (λ p. ap (λ (l : List M). start_at (starts_of (map kept l)) p) are ∙ starts p))
      (λ p. ap (λ (l : List M). logs_of (map kept l) p) are ∙ logs p));
  bases_after = subst (λ (w : Writer). AreBasesOf settings.pools records_after w.starts) keeps.writer
      (subst (λ (s : Settings). AreBasesOf s.pools records_after after.writer.starts) (keeps.settings ∙ fresh.settings_are) bases_then);
  lines_after = lines_then;
  restorable_after = subst (λ (w : Writer). AreRestorable settings.pools records_after w.starts after.seen) keeps.writer
      (subst (λ (s : Settings). AreRestorable s.pools records_after after.writer.starts after.seen) (keeps.settings ∙ fresh.settings_are) restorable_then);
  no_other_blobs = others_kept before after fresh.settings_are keeps.settings keeps.writer records told keeps.no_other_blobs;
  faults_are = sym counted;
}

-- a command was carried out over new logs
pub new_ran : {M : Type 0} (kept : M → MachineState) (machines items : List M) (what : DoorCommand) (settings : Settings) (o m : Streams) (t : LinkState)
    (result : DoorResult) (status : ℕ) (pools : List PoolSettings) {n : ℕ} {before after : DoorState}
    → KeepsDoor n before after → IsFreshDoor settings before.seen before → BeginNew settings.pools before.writer.starts → ((p : ℕ) → before.seen p ≡ [])
    → IsUsed what before after o m result → machines ≡ items → ((p : ℕ) → start_at (starts_of (map kept items)) p ≡ after.writer.starts p) → ((p : ℕ) → logs_of (map kept items) p ≡ after.seen p)
    → pools ≡ settings.pools → IsFinished result (summary_of pools (start_at (starts_of (map kept machines))) (logs_of (map kept machines))) m.console t status
    → RunsNew (work_of what) settings o (with_console m t) status
new_ran {M = M} kept machines items what settings o m t result status pools {before = before} {after = after} keeps fresh new nothing used_so are starts logs pools_are concluded = done (record {
  before = before;
  after = after;
  fresh_door = fresh_of_nothing fresh nothing;
  begins = new;
  does = does_all what before after o m t result status (summary_of pools (start_at (starts_of (map kept machines))) (logs_of (map kept machines))) used_so concluded
      (told_of_door summary_of settings before after pools (start_at (starts_of (map kept machines))) (logs_of (map kept machines)) pools_are fresh.settings_are
      (begins_there (start_at (starts_of (map kept machines))) keeps (λ p. ap (λ (l : List M). start_at (starts_of (map kept l)) p) are ∙ starts p))
      (λ p. ap (λ (l : List M). logs_of (map kept l) p) are ∙ logs p));
})

-- a fault of the load
pub not_loaded : (settings : Settings) (records : List (Option Tables)) (m n : ℕ) (o : Streams) (t : LinkState) (status : ℕ) (fault : LoadFault)
    → TellsFault fault o.console t status → IsFirstBadRecord settings records fault → (fault ≡ load.Failed → Rose m n) → NoDoor settings records m n o (with_console o t) status
not_loaded settings records m n o t status load.Memory told bad rose = no_memory told.0 (same_console o t told.1)
not_loaded settings records m n o t status load.Failed told bad rose = failed (rose refl) told.0 (same_console o t told.1)
not_loaded settings records m n o t status (load.BadStore place which at) told bad rose = bad_store place which at bad told (record { clock = refl; listener = refl })

-- keepers of one type, as many as these, tell where these do
pub goes_on_telling : {K : Type 0} (tables : K → Option Tables) (tells : Bool) → ((k : K) → is_some (tables k) ≡ tells) → (xs ys : List K) → length xs ≡ length ys
    → list_all is_some (map tables xs) ≡ true → list_all is_some (map tables ys) ≡ true
goes_on_telling tables tells law [] [] same all = refl
goes_on_telling tables tells law [] (y ∷ ys) same all = absurd (omega arith)
goes_on_telling tables tells law (x ∷ xs) [] same all = absurd (omega arith)
goes_on_telling tables tells law (x ∷ xs) (y ∷ ys) same all =
    let k = and_parts (is_some (tables x)) (list_all is_some (map tables xs)) all in
    and_from _ _ (law y ∙ sym (law x) ∙ k.0) (goes_on_telling tables tells law xs ys (omega arith) k.1)

pub same_length : {K : Type 0} (tables : K → Option Tables) (xs ys : List K) → map tables ys ≡ map tables xs → length ys ≡ length xs
same_length tables xs ys same = omega (arith, length-map xs tables, length-map ys tables, ap length same)

-- ---- over a store

-- nothing was attached
pub not_attached : (work : ServerWork) (settings : Settings) (folder : List ℕ) (p q : StoreState) (o : Streams) (status : ℕ) (fault : StartFault)
    → AttachesNone p q fault → status ≡ start_status fault → RunsKept work settings folder p q o o status
not_attached work settings folder p q o status start.Memory x is = unserved (record { cause = no_memory is refl; kept = x.kept })
not_attached work settings folder p q o status start.Failed x is = unserved (record { cause = failed (x.failed refl) is refl; kept = x.kept })

-- no door was made, and what was attached was taken back
pub given_back : (settings : Settings) (folder : List ℕ) (p mid q : StoreState) (o u : Streams) (status m n : ℕ) (before after : List (Option Tables))
    → AttachesAll p mid folder settings.pools before m → NoDoor settings before m n o u status → after ≡ before → DetachesAll mid q folder settings.pools after n
    → RunsUnserved settings folder p q o u status
given_back settings folder p mid q o u status m n before after x cause same y = record {
  cause = subst (λ (l : List (Option Tables)). NoDoor settings l p.faults q.faults o u status) x.told (at_store cause);
  kept = λ some.
      let all = subst (λ (l : List (Option Tables)). list_all is_some l ≡ true) (sym (same ∙ x.told)) (all_told folder settings.pools p.kept some) in
      back_again folder settings.pools p.kept mid.kept q.kept some x.others (y.others all)
      (y.told (others_tell folder settings.pools p.kept mid.kept x.others some) all ∙ same ∙ x.told);
}
  where
    at_store : NoDoor settings before m n o u status → NoDoor settings before p.faults q.faults o u status
    at_store (no_memory is same) = no_memory is same
    at_store (failed rose is same) =
        failed (subst (λ (k : ℕ). Rose k q.faults) x.same_faults (counts_some n mid.faults q.faults y.counted (rose_above m n x.unfailed rose))) is same
    at_store (bad_store place which at bad prints same) = bad_store place which at bad prints same

-- a command over the keepers that were attached, which were then taken back
pub kept_over : (work : ServerWork) (settings : Settings) (folder : List ℕ) (p mid q : StoreState) (o u : Streams) (status m n : ℕ) (before after : List (Option Tables))
    → AttachesAll p mid folder settings.pools before m → RunsOver work settings before after m n o u status
    → (list_all is_some before ≡ true → list_all is_some after ≡ true) → DetachesAll mid q folder settings.pools after n
    → RunsKept work settings folder p q o u status
kept_over work settings folder p mid q o u status m n before after x (with_door y) tells z = served (record {
  records = after;
  faults = n;
  does = subst (λ (l : List (Option Tables)). DoesOver work settings l after n o u status) x.told y;
  told = λ some. z.told (others_tell folder settings.pools p.kept mid.kept x.others some) (all some);
  others = at_places p.kept refl;
  counted = subst (λ (k : ℕ). CountsKeepers n k q.faults) x.same_faults z.counted;
})
  where
    all : IsSome p.kept → list_all is_some after ≡ true
    all some = tells (subst (λ (l : List (Option Tables)). list_all is_some l ≡ true) (sym x.told) (all_told folder settings.pools p.kept some))

    at_places : (k : Option Kept) → p.kept ≡ k → KeepsOthers folder settings.pools p.kept q.kept
    at_places None is = subst (λ (k : Option Kept). KeepsOthers folder settings.pools k q.kept) (sym is) tt
    at_places (Some k) is = others-trans folder settings.pools p.kept mid.kept q.kept x.others (z.others (all (ap is_some is)))
kept_over work settings folder p mid q o u status m n before after x (without_door cause same) tells z =
    unserved (given_back settings folder p mid q o u status m n before after x cause same z)
