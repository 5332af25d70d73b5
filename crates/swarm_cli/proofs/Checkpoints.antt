-- Records that were made to begin anew.
use Rattle.std.proofs.Common.{◌≡◌, ℕ, zero, suc, ◌<◌, ◌≤◌, ◌^◌, List, [], ◌∷◌, length, refl, sym, ap, subst, ◌∙◌, true, Option, Some, None, IsSome, ◌⊎◌, inl, inr, arith}
use Rattle.std.specs.Prelude.{is_some, option_map, slice_get, IfSome}
use Rattle.std.specs.List.{list_all}
use Rattle.std.proofs.lemmas.Option.{same_Some}
use Rattle.sw_base.specs.Faults.{Rose}
use Rattle.sw_base.specs.Link.{LinkState, IsClean, NoFault}
use Rattle.swarm_cli.specs.Types.{StartFault, Settings, PoolSettings, CheckpointFault, CheckpointWhy}
use Rattle.sw_base.specs.declared.start_fault.StartFault.TheVariants as start
use Rattle.link_writer.specs.Printing.{Prints}
use Rattle.swarm_keeper.specs.Tables.{Tables}
use Rattle.swarm_keeper.specs.Stores.{StoreState}
use Rattle.swarm_model.specs.Bases.{Base, front}
use Rattle.pool_doors.specs.Doors.{DoorState, Logs, IsFreshDoor}
use Rattle.swarm_history.specs.Records.{AreBasesOf, AreKept, TellsStart}
use Rattle.swarm_history.specs.Checkpoints.{BeginsAnew, IsCheckpointed, IsCountFull, LeavesRestorable, anew, told_at}
use Rattle.swarm_history.specs.declared.checkpoint_fault.CheckpointWhy.TheVariants as why
use Rattle.pool_loading.specs.Records.{AreLinesOf}
use Rattle.pool_summaries.specs.Summaries.{fronts_of}
use Rattle.remote_commands.specs.Streams.{Streams}
use Rattle.swarm_cli.specs.declared.checkpoint.CheckpointEnd.{CheckpointEnd}
use Rattle.swarm_cli.specs.declared.checkpoint.CheckpointEnd.TheVariants as end
use Rattle.swarm_cli.specs.ServerWork.{start_status}
use Rattle.swarm_cli.specs.Attaching.{Kept, KeepsOthers, CountsKeepers, AttachesAll, AttachesNone, DetachesAll, told_records}
use Rattle.swarm_cli.specs.KeptRecords.{NoDoor, RunsUnserved}
use Rattle.swarm_cli.specs.KeptRecords as records
use Rattle.swarm_cli.specs.Checkpoints.{IsMadeOf, MakesAnew, EndsMade, EndsStopped, EndsAs, TellsStop, TellsEnd, KeepsAnew, StopsThere, no_memory, failed, too_long, RunsCheckpoint, all_begin, some_begin, none_begin, IsAnew, AreAllAnew, AllBeginAnew}
use Rattle.swarm_cli.proofs.Doing.{with_console, same_console}
use Rattle.swarm_cli.proofs.KeptSessions.{given_back, not_loaded}
use Rattle.swarm_cli.proofs.Places.{all_told, others_tell, others-trans}
use Rattle.swarm_cli.proofs.Counts.{counts_some, rose_above, rose_from}

-- ---- over keepers

-- a door was made of these records
pub made_of : {settings : Settings} (before : List (Option Tables)) (door : DoorState) → IsFreshDoor settings door.seen door → AreBasesOf settings.pools before door.writer.starts → AreKept before door.seen
    → door.records ≡ before → IsMadeOf settings door.records door
made_of {settings = settings} before door fresh bases lines are =
    subst (λ (r : List (Option Tables)). IsMadeOf settings r door) (sym are) (record { fresh_door = fresh; bases = bases; lines = lines; records_are = are })

-- all records begin anew
pub ends_made : {settings : Settings} {before after : List (Option Tables)} {text : List ℕ} (door : DoorState) (pools : List PoolSettings) → IsMadeOf settings before door → IsCheckpointed door (length door.settings.pools) after
    → LeavesRestorable door (length door.settings.pools) after → pools ≡ settings.pools → text ≡ fronts_of pools door.writer.starts door.seen → EndsMade settings before after text
ends_made {after = after} door pools made anew restorable same told = record {
  makes = record {
    door = door;
    made_of = made;
    makes = subst (λ (s : Settings). IsCheckpointed door (length s.pools) after) made.fresh_door.settings_are anew;
    restorable = subst (λ (s : Settings). LeavesRestorable door (length s.pools) after) made.fresh_door.settings_are restorable;
  };
  text_is = told ∙ ap (λ (l : List PoolSettings). fronts_of l door.writer.starts door.seen) same;
}

-- those before the place of a fault do
pub ends_stopped : {settings : Settings} {before after : List (Option Tables)} {m n : ℕ} (door : DoorState) (fault : CheckpointFault) → IsMadeOf settings before door → IsCheckpointed door fault.place after
    → LeavesRestorable door fault.place after → fault.place < length door.settings.pools → (fault.why ≡ why.CountFull → IsCountFull door.writer.starts door.seen fault.place) → (fault.why ≡ why.Keeper → Rose m n)
    → EndsStopped settings before after m n fault
ends_stopped door fault made anew restorable inside full rose = record {
  makes = record { door = door; made_of = made; makes = anew; restorable = restorable };
  inside = subst (λ (s : Settings). fault.place < length s.pools) made.fresh_door.settings_are inside;
  failed = rose;
  too_long = full;
}

-- what ends over a door ends over the keepers of which it was made
pub ends_over : (ended : CheckpointEnd) (settings : Settings) (before after : List (Option Tables)) (m d n : ℕ) → m ≤ d → EndsAs ended settings before after d n → EndsAs ended settings before after m n
ends_over (end.Made text) settings before after m d n within y = y
ends_over (end.Stopped fault) settings before after m d n within y = record { makes = y.makes; inside = y.inside; failed = λ is. rose_from m d n within (y.failed is); too_long = y.too_long }
ends_over (end.Unmade fault) settings before after m d n within y = record { bad = y.bad; failed = λ is. rose_from m d n within (y.failed is); same = y.same }

-- ---- over a store

-- nothing was attached
pub none_attached : (settings : Settings) (folder : List ℕ) (p q : StoreState) (o : Streams) (status : ℕ) (fault : StartFault)
    → AttachesNone p q fault → status ≡ start_status fault → RunsCheckpoint settings folder p q o o status
none_attached settings folder p q o status start.Memory x is = none_begin (record { cause = records.no_memory is refl; kept = x.kept })
none_attached settings folder p q o status start.Failed x is = none_begin (record { cause = records.failed (x.failed refl) is refl; kept = x.kept })

-- The keepers were attached, and taken back with what they had then.
module _ (settings : Settings) (folder : List ℕ) (p mid q : StoreState) (o : Streams) (t : LinkState) (status m n : ℕ) (before after : List (Option Tables))
    (x : AttachesAll p mid folder settings.pools before m) (tells : list_all is_some before ≡ true → list_all is_some after ≡ true)
    (z : DetachesAll mid q folder settings.pools after n) where
  all : IsSome p.kept → list_all is_some after ≡ true
  all some = tells (subst (λ (l : List (Option Tables)). list_all is_some l ≡ true) (sym x.told) (all_told folder settings.pools p.kept some))

  others_stay : (k : Option Kept) → p.kept ≡ k → KeepsOthers folder settings.pools p.kept q.kept
  others_stay None is = subst (λ (k : Option Kept). KeepsOthers folder settings.pools k q.kept) (sym is) tt
  others_stay (Some k) is = others-trans folder settings.pools p.kept mid.kept q.kept x.others (z.others (all (ap is_some is)))

  -- the store has the records, of which those before a place begin anew
  abbrev keeps_anew : (place : ℕ) → MakesAnew settings place (told_records p.kept folder settings.pools) after → KeepsAnew settings folder place p q
  keeps_anew place makes = record {
    records = after;
    faults = n;
    makes = makes;
    told = λ some. z.told (others_tell folder settings.pools p.kept mid.kept x.others some) (all some);
    others = others_stay p.kept refl;
    counted = subst (λ (k : ℕ). CountsKeepers n k q.faults) x.same_faults z.counted;
  }

  rose_there : Rose m n → Rose p.faults q.faults
  rose_there rose = subst (λ (k : ℕ). Rose k q.faults) x.same_faults (counts_some n mid.faults q.faults z.counted (rose_above m n x.unfailed rose))

  stops_there : (place : ℕ) (makes : MakesAnew settings place (told_records p.kept folder settings.pools) after) (reason : CheckpointWhy) → TellsStop reason place o.console t status
      → (reason ≡ why.Keeper → Rose m n) → (reason ≡ why.CountFull → 2 ^ 31 < front (makes.door.writer.starts place) (makes.door.seen place))
      → StopsThere makes.door place p.faults q.faults o (with_console o t) status
  stops_there place makes why.Memory told rose full = no_memory told.0 (same_console o t told.1)
  stops_there place makes why.Keeper told rose full = failed (rose_there (rose refl)) told.0 (same_console o t told.1)
  stops_there place makes why.CountFull told rose full = too_long (full refl) told (record { clock = refl; listener = refl })

  ran_over : (ended : CheckpointEnd) → EndsAs ended settings (told_records p.kept folder settings.pools) after m n → TellsEnd ended o.console t status
      → RunsCheckpoint settings folder p q o (with_console o t) status
  ran_over (end.Made text) y told = all_begin (record {
    keeps = keeps_anew (length settings.pools) y.makes;
    prints = subst (λ (l : List ℕ). Prints l 0 o.console t status) y.text_is told;
    only = record { clock = refl; listener = refl };
  })
  ran_over (end.Stopped fault) y told = some_begin (record {
    place = fault.place;
    inside = y.inside;
    keeps = keeps_anew fault.place y.makes;
    cause = stops_there fault.place y.makes fault.why told y.failed y.too_long;
  })
  ran_over (end.Unmade fault) y told =
      none_begin
      (given_back settings folder p mid q o (with_console o t) status m n before after x
      (subst (λ (l : List (Option Tables)). NoDoor settings l m n o (with_console o t) status) (sym x.told)
      (not_loaded settings (told_records p.kept folder settings.pools) m n o t status fault told y.bad y.failed)) (y.same ∙ sym x.told) z)

-- what was done over keepers that were attached, and is told once they were taken back
pub checkpoint_ran : (settings : Settings) (folder : List ℕ) (p mid q : StoreState) (o : Streams) (t : LinkState) (status m n : ℕ) (before after : List (Option Tables)) (ended : CheckpointEnd)
    → AttachesAll p mid folder settings.pools before m → EndsAs ended settings before after m n → (list_all is_some before ≡ true → list_all is_some after ≡ true)
    → DetachesAll mid q folder settings.pools after n → TellsEnd ended o.console t status
    → RunsCheckpoint settings folder p q o (with_console o t) status
checkpoint_ran settings folder p mid q o t status m n before after ended x y tells z told =
    ran_over settings folder p mid q o t status m n before after x tells z ended (subst (λ (l : List (Option Tables)). EndsAs ended settings l after m n) x.told y) told

-- ---- a checkpoint that ends with status 0

-- a text that comes with another status than 0 isn't printed with it
other_status : (text : List ℕ) (s t : LinkState) → Prints text 3 s t 0 → ⊥
other_status text s t prints = by_cause prints.cause
  where
    by_cause : {back : List ℕ} → ((◌≡◌ {A = ℕ} 0 3) × (back ≡ []) × IsClean t × NoFault s t) ⊎ ((◌≡◌ {A = ℕ} 0 4) × Rose s.write_faults t.write_faults) → ⊥
    by_cause (inl x) = let k = x.0 in absurd (omega arith)
    by_cause (inr x) = let k = x.0 in absurd (omega arith)

no_stop : {settings : Settings} {folder : List ℕ} {p q : StoreState} {o u : Streams} → RunsUnserved settings folder p q o u 0 → ⊥
no_stop {o = o} {u = u} x = by_cause x.cause
  where
    by_cause : {settings : Settings} {tables : List (Option Tables)} {m n : ℕ} → NoDoor settings tables m n o u 0 → ⊥
    by_cause (records.no_memory is same) = absurd (omega arith)
    by_cause (records.failed rose is same) = absurd (omega arith)
    by_cause (records.bad_store place which at bad prints same) = other_status _ o.console u.console prints

-- the records of the pool at a place, in a list of those of all pools
told_there : (kept : Kept) (folder : List ℕ) (pools : List PoolSettings) (place : ℕ) (pool : PoolSettings) → slice_get pools place ≡ Some pool
    → told_at (told_records (Some kept) folder pools) place ≡ Some (kept folder pool.name)
told_there kept folder [] place pool is = absurd (cc)
told_there kept folder (q ∷ pools) zero pool is = let same : q ≡ pool = cc in ap (λ (r : PoolSettings). Some (kept folder r.name)) same
told_there kept folder (q ∷ pools) (suc place) pool is = told_there kept folder pools place pool is

pub got_there : (kept : Kept) (folder : List ℕ) (pools : List PoolSettings) (place : ℕ) (pool : PoolSettings) → slice_get pools place ≡ Some pool
    → slice_get (told_records (Some kept) folder pools) place ≡ Some (Some (kept folder pool.name))
got_there kept folder [] place pool is = absurd (cc)
got_there kept folder (q ∷ pools) zero pool is = let same : q ≡ pool = cc in ap (λ (r : PoolSettings). Some (Some (kept folder r.name))) same
got_there kept folder (q ∷ pools) (suc place) pool is = got_there kept folder pools place pool is

low_place : {X : Type 0} (xs : List X) (place : ℕ) (x : X) → slice_get xs place ≡ Some x → place < length xs
low_place [] place x is = absurd (cc)
low_place (y ∷ xs) zero x is = omega arith
low_place (y ∷ xs) (suc place) x is = let low = low_place xs place x is in omega arith

-- the pool's records stood for a base
pub stood_there : (kept : Kept) (folder : List ℕ) (pools : List PoolSettings) (place : ℕ) (pool : PoolSettings) (starts : ℕ → Base) → slice_get pools place ≡ Some pool
    → AreBasesOf pools (told_records (Some kept) folder pools) starts → TellsStart pool (kept folder pool.name) (starts place)
stood_there kept folder pools place pool starts is are =
    subst (λ (told : Option (Option Tables)). IfSome told (λ it. IfSome it (λ t. TellsStart pool t (starts place)))) (got_there kept folder pools place pool is)
    (subst (λ (found : Option PoolSettings). IfSome found (λ it. IfSome (slice_get (told_records (Some kept) folder pools) place) (λ told. IfSome told (λ t. TellsStart it t (starts place))))) is (are place))

-- and for a log
pub lines_there : (kept : Kept) (folder : List ℕ) (pools : List PoolSettings) (place : ℕ) (pool : PoolSettings) (logs : Logs) → slice_get pools place ≡ Some pool
    → AreKept (told_records (Some kept) folder pools) logs → AreLinesOf (kept folder pool.name).lines (logs place)
lines_there kept folder pools place pool logs is are =
    subst (λ (told : Option (Option Tables)). IfSome told (λ it. IfSome it (λ t. AreLinesOf t.lines (logs place)))) (got_there kept folder pools place pool is) (are place)

module _ (settings : Settings) (folder : List ℕ) (k l : Kept) (records : List (Option Tables)) (makes : MakesAnew settings (length settings.pools) (told_records (Some k) folder settings.pools) records)
    (told : told_records (Some l) folder settings.pools ≡ records) (place : ℕ) (pool : PoolSettings) (is : slice_get settings.pools place ≡ Some pool) where
  begins : BeginsAnew pool (makes.door.writer.starts place) (makes.door.seen place) (told_at makes.door.records place) (told_at records place)
  begins =
      makes.makes.before place pool (low_place settings.pools place pool is)
      (subst (λ (s : Settings). slice_get s.pools place ≡ Some pool) (sym makes.made_of.fresh_door.settings_are) is)

  is_anew : IsAnew pool (k folder pool.name) (l folder pool.name)
  is_anew = record {
    start = makes.door.writer.starts place;
    log = makes.door.seen place;
    stood = stood_there k folder settings.pools place pool makes.door.writer.starts is makes.made_of.bases;
    lines = lines_there k folder settings.pools place pool makes.door.seen is makes.made_of.lines;
    new_is = same_Some (l folder pool.name) (anew (makes.door.writer.starts place) (makes.door.seen place) (k folder pool.name))
        (sym (told_there l folder settings.pools place pool is) ∙ ap (λ (ts : List (Option Tables)). told_at ts place) told ∙ begins.told
        ∙ ap (λ (ts : List (Option Tables)). option_map (anew (makes.door.writer.starts place) (makes.door.seen place)) (told_at ts place)) makes.made_of.records_are
        ∙ ap (option_map (anew (makes.door.writer.starts place) (makes.door.seen place))) (told_there k folder settings.pools place pool is));
  }

all_anew : (settings : Settings) (folder : List ℕ) (old new : Option Kept) (records : List (Option Tables)) → MakesAnew settings (length settings.pools) (told_records old folder settings.pools) records
    → (IsSome old → told_records new folder settings.pools ≡ records) → KeepsOthers folder settings.pools old new → AreAllAnew folder settings.pools old new
all_anew settings folder None new records makes told others = tt
all_anew settings folder (Some k) None records makes told others = absurd others
all_anew settings folder (Some k) (Some l) records makes told others = λ place pool is. is_anew settings folder k l records makes (told refl) place pool is

pub all_begin_anew : AllBeginAnew
all_begin_anew settings folder p q o u (all_begin x) = all_anew settings folder p.kept q.kept x.keeps.records x.keeps.makes x.keeps.told x.keeps.others
all_begin_anew settings folder p q o u (some_begin x) = absurd (by_cause x.cause)
  where
    by_cause : {place m n : ℕ} {door : DoorState} → StopsThere door place m n o u 0 → ⊥
    by_cause (no_memory is same) = absurd (omega arith)
    by_cause (failed rose is same) = absurd (omega arith)
    by_cause (too_long long prints same) = other_status _ o.console u.console prints
all_begin_anew settings folder p q o u (none_begin x) = absurd (no_stop x)
