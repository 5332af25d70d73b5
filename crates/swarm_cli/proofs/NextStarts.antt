-- The next command over what was left.
use Rattle.std.proofs.Common.{◌≡◌, ℕ, List, refl, sym, ap, ap₂, subst, ◌∙◌, Option, Some, None, IsSome}
use Rattle.std.specs.Prelude.{slice_get, IfSome, IsSomeAnd}
use Rattle.std.proofs.lemmas.Option.{none-some, same_Some}
use Rattle.swarm_keeper.specs.Tables.{Tables}
use Rattle.swarm_keeper.specs.Stores.{StoreState}
use Rattle.swarm_cli.specs.Types.{Settings, PoolSettings, StorePart}
use Rattle.swarm_model.specs.declared.pool_state.PoolState.{PoolState}
use Rattle.swarm_model.specs.Bases.{Base}
use Rattle.pool_doors.specs.Doors.{Logs, DoorState}
use Rattle.pool_loading.specs.Records.{AreRefusedAt, Restores}
use Rattle.pool_loading.proofs.Restoring.{one_log}
use Rattle.swarm_history.specs.Records.{AreBasesOf, AreKept, AreRestorable, TellsStart, IsBadStore}
use Rattle.remote_commands.specs.Streams.{Streams}
use Rattle.swarm_cli.specs.ServerWork.{ServerWork}
use Rattle.swarm_cli.specs.Attaching.{Kept, told_records}
use Rattle.swarm_cli.specs.KeptRecords.{NoDoor, RunsKept, served, unserved}
use Rattle.swarm_cli.specs.KeptRecords as records
use Rattle.swarm_cli.specs.NextStarts.{GoesOnFrom, NextStart, goes_on, no_memory, failed, NextStartsGoOn}
use Rattle.swarm_cli.proofs.Checkpoints.{got_there, stood_there, lines_there}
use Rattle.swarm_cli.proofs.Places.{others_tell}

-- records tell one base
one_start : (pool : PoolSettings) (t : Tables) (a b : Base) → TellsStart pool t a → TellsStart pool t b → a ≡ b
one_start pool t a b x y =
    ap₂ (λ (rows : PoolState) (count : ℕ). let base : Base = record { rows = rows; count = count } in base) (same_Some a.rows b.rows (sym x.rows ∙ y.rows)) (sym x.count ∙ y.count)

-- What a store keeps, which another command left with this history.
module _ (settings : Settings) (folder : List ℕ) (k : Kept) (starts : ℕ → Base) (logs : Logs)
    (bases : AreBasesOf settings.pools (told_records (Some k) folder settings.pools) starts) (lines : AreKept (told_records (Some k) folder settings.pools) logs)
    (restorable : AreRestorable settings.pools (told_records (Some k) folder settings.pools) starts logs) where
  restores_there : (place : ℕ) (pool : PoolSettings) → slice_get settings.pools place ≡ Some pool → Restores pool (starts place) (logs place) (k folder pool.name)
  restores_there place pool is =
      subst (λ (told : Option (Option Tables)). IfSome told (λ it. IfSome it (Restores pool (starts place) (logs place)))) (got_there k folder settings.pools place pool is)
      (subst (λ (found : Option PoolSettings). IfSome found (λ it. IfSome (slice_get (told_records (Some k) folder settings.pools) place) (λ told. IfSome told (Restores it (starts place) (logs place))))) is (restorable place))

  -- a door that is made of it begins there
  found : (door : DoorState) → AreBasesOf settings.pools (told_records (Some k) folder settings.pools) door.writer.starts → AreKept (told_records (Some k) folder settings.pools) door.seen
      → GoesOnFrom settings folder (Some k) starts logs door
  found door stood read = record {
    starts_are = λ p pool is.
        one_start pool (k folder pool.name) (door.writer.starts p) (starts p) (stood_there k folder settings.pools p pool door.writer.starts is stood) (stood_there k folder settings.pools p pool starts is bases);
    logs_are = λ p pool is. one_log (door.seen p) (logs p) (sym (lines_there k folder settings.pools p pool door.seen is read) ∙ lines_there k folder settings.pools p pool logs is lines);
    bytes = λ p pool is. let there = restores_there p pool is in there.bytes;
  }

  -- no pool's records are refused
  not_refused : (place : ℕ) (which : StorePart) (at : ℕ) → IsBadStore settings (told_records (Some k) folder settings.pools) place which at → ⊥
  not_refused place which at bad = by_pool (slice_get settings.pools place) refl bad.refused
    where
      by_pool : (o : Option PoolSettings) → slice_get settings.pools place ≡ o
          → IsSomeAnd o (λ pool. IsSomeAnd (slice_get (told_records (Some k) folder settings.pools) place) (λ told. IfSome told (λ t. AreRefusedAt pool t which at))) → ⊥
      by_pool None is refused = absurd refused
      by_pool (Some pool) is refused =
          let there = restores_there place pool is in
          there.accepted which at
          (subst (λ (told : Option (Option Tables)). IsSomeAnd told (λ it. IfSome it (λ t. AreRefusedAt pool t which at))) (got_there k folder settings.pools place pool is) refused)

  abbrev Next : ServerWork → StoreState → StoreState → Streams → Streams → ℕ → Type 0
  Next work p q o u status = NextStart work settings folder starts logs p q o u status

  next_start : (work : ServerWork) (p q : StoreState) (o u : Streams) (status : ℕ) → p.kept ≡ Some k → RunsKept work settings folder p q o u status → Next work p q o u status
  next_start work p q o u status is (served x) =
      goes_on x (subst (λ (kept : Option Kept). GoesOnFrom settings folder kept starts logs x.does.before) (sym is)
      (found x.does.before (subst (λ (kept : Option Kept). AreBasesOf settings.pools (told_records kept folder settings.pools) x.does.before.writer.starts) is x.does.bases_before)
      (subst (λ (kept : Option Kept). AreKept (told_records kept folder settings.pools) x.does.before.seen) is x.does.lines_before)))
  next_start work p q o u status is (unserved x) = by_cause (subst (λ (kept : Option Kept). NoDoor settings (told_records kept folder settings.pools) p.faults q.faults o u status) is x.cause)
    where
      by_cause : NoDoor settings (told_records (Some k) folder settings.pools) p.faults q.faults o u status → Next work p q o u status
      by_cause (records.no_memory is same) = no_memory is same
      by_cause (records.failed rose is same) = failed rose is same
      by_cause (records.bad_store place which at bad prints same) = absurd (not_refused place which at bad)

none_told : (kept : Option Kept) → kept ≡ None → IsSome kept → ⊥
none_told None is some = absurd (cc)
none_told (Some k) is some = absurd (none-some k (sym is))

pub next_starts_go_on : NextStartsGoOn
next_starts_go_on work next settings folder p q r o u v w status other some x y = by_kept q.kept refl
  where
    by_kept : (kept : Option Kept) → q.kept ≡ kept → NextStart next settings folder x.does.before.writer.starts x.does.after.seen q r v w other
    by_kept None is = absurd (none_told q.kept is (others_tell folder settings.pools p.kept q.kept x.others some))
    by_kept (Some k) is =
        let told : x.records ≡ told_records (Some k) folder settings.pools = sym (x.told some) ∙ ap (λ (kept : Option Kept). told_records kept folder settings.pools) is in
        next_start settings folder k x.does.before.writer.starts x.does.after.seen
        (subst (λ (l : List (Option Tables)). AreBasesOf settings.pools l x.does.before.writer.starts) told x.does.bases_after)
        (subst (λ (l : List (Option Tables)). AreKept l x.does.after.seen) told x.does.lines_after)
        (subst (λ (l : List (Option Tables)). AreRestorable settings.pools l x.does.before.writer.starts x.does.after.seen) told x.does.restorable_after)
        next q r v w other is y
