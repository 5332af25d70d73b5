-- The kept records of a server's pools, by the place of the pool.
use Rattle.std.specs.Prelude.{◌≡◌, ℕ, ⊤, ◌<◌, List, [], ◌∷◌, Option, Some, None, slice_get, IfSome, IsSomeAnd}
use Rattle.swarm_keeper.specs.Tables.{Tables, appended}
use Rattle.swarm_history.specs.Types.{Entry, Settings, PoolSettings, StorePart, LoadStop}
use Rattle.swarm_model.specs.Bases.{Base, empty_base}
use Rattle.swarm_model.specs.Bytes.{new_digest, removed_digest}
use Rattle.swarm_model.specs.MachineState.{MachineState}
use Rattle.pool_doors.specs.Doors.{Logs, HasLinesAt, HasNoOthers}
use Rattle.entry_lines.specs.Lines.{entry_of_line}
use Rattle.pool_loading.specs.Records.{base_in, AreRecords, IsLoaded, AreRefusedAt, Restores}
use Rattle.pool_loading.specs.declared.loading.LoadStop.TheVariants as stop
use Rattle.swarm_history.specs.declared.load_fault.LoadFault.{LoadFault}
use Rattle.swarm_history.specs.declared.load_fault.LoadFault.TheVariants as load

-- where the keeper at a place tells its records, their lines are those of the log at that place
abbrev pub AreKept : List (Option Tables) → Logs → Type 0
AreKept tables logs = (p : ℕ) → HasLinesAt tables logs p

-- the records tell where a log of the pool begins: the rows, and how many entries led to them
pub record TellsStart (pool : PoolSettings) (t : Tables) (start : Base) : Type 0 where
  pub rows : base_in pool t.base ≡ Some start.rows
  pub count : t.count ≡ start.count

-- where the keeper at a place tells its records, they tell where the log at that place begins
abbrev pub AreBasesOf : List PoolSettings → List (Option Tables) → (ℕ → Base) → Type 0
AreBasesOf pools tables starts =
    (p : ℕ) → IfSome (slice_get pools p) (λ pool. IfSome (slice_get tables p) (λ told. IfSome told (λ t. TellsStart pool t (starts p))))

-- where the keeper at a place tells its records, the next start finds in them what began there and has the log at that place
abbrev pub AreRestorable : List PoolSettings → List (Option Tables) → (ℕ → Base) → Logs → Type 0
AreRestorable pools tables starts logs =
    (p : ℕ) → IfSome (slice_get pools p) (λ pool. IfSome (slice_get tables p) (λ told. IfSome told (Restores pool (starts p) (logs p))))

-- where they are told, the records at each place are those of the machine there
abbrev pub AreRecordsOf : List (Option Tables) → List MachineState → Type 0
AreRecordsOf tables machines = (p : ℕ) → IfSome (slice_get tables p) (λ told. IfSome told (λ t. IfSome (slice_get machines p) (λ kept. AreRecords kept t)))

-- where they are told, the records are those of the machine
abbrev pub AreMachineRecords : Option Tables → MachineState → Type 0
AreMachineRecords told kept = IfSome told (AreRecords kept)

-- nothing led to where the machine's log begins, and it has no entry
abbrev pub IsNew : MachineState → Type 0
IsNew kept = (kept.log ≡ []) × (kept.start ≡ empty_base kept.pool.settings)

-- each machine was made of the records at its place, under the settings there
abbrev pub AreLoaded : List PoolSettings → List (Option Tables) → List MachineState → Type 0
AreLoaded pools tables [] = ⊤
AreLoaded [] tables (kept ∷ machines) = ⊥
AreLoaded (pool ∷ pools) [] (kept ∷ machines) = ⊥
AreLoaded (pool ∷ pools) (told ∷ tables) (kept ∷ machines) = IsLoaded pool told kept × AreLoaded pools tables machines

-- why a door is not made, where the records of the pool at a place are not loaded
abbrev pub fault_of : ℕ → LoadStop → LoadFault
fault_of place stop.Memory = load.Memory
fault_of place stop.Failed = load.Failed
fault_of place (stop.Refused part at) = load.BadStore place part at

-- a machine of the pool can be made of the records
abbrev pub AreLoadable : PoolSettings → Option Tables → Type 0
AreLoadable pool tables = (kept : MachineState) × IsLoaded pool tables kept

-- the records at this place are refused, at this line of this part, and those at the places before are not
pub record IsBadStore (settings : Settings) (tables : List (Option Tables)) (place : ℕ) (part : StorePart) (at : ℕ) : Type 0 where
  pub refused : IsSomeAnd (slice_get settings.pools place) (λ pool. IsSomeAnd (slice_get tables place) (λ told. IfSome told (λ t. AreRefusedAt pool t part at)))
  pub before : (p : ℕ) → p < place → IsSomeAnd (slice_get settings.pools p) (λ pool. IsSomeAnd (slice_get tables p) (AreLoadable pool))

-- refused records are told by the first place where they are
abbrev pub IsFirstBadRecord : Settings → List (Option Tables) → LoadFault → Type 0
IsFirstBadRecord settings tables (load.BadStore place part at) = IsBadStore settings tables place part at
IsFirstBadRecord settings tables fault = ⊤

-- the records have no other blobs than those that the machine's log leaves
abbrev pub HoldsNoOthers : Option Tables → MachineState → Type 0
HoldsNoOthers told kept = HasNoOthers kept.start told kept.log

-- a line of the entry is appended, the bytes of the blob that it places are added, and those of the blob that it removes
-- are removed; `bytes` are those that came with it
pub record AppendsEntry (kept : MachineState) (entry : Entry) (bytes : Option (List ℕ)) (t : Tables) (new : Option Tables) : Type 0 where
  pub line : List ℕ
  pub reads_back : entry_of_line line ≡ Some entry
  pub content : List ℕ
  pub content_is : IfSome bytes (λ b. content ≡ b)
  pub tables : new ≡ Some (appended line (new_digest kept.pool entry.kind) content (removed_digest kept.pool entry.kind) t)

-- this holds where the records are told; where they aren't, they aren't afterwards
abbrev pub KeepsEntry : MachineState → Entry → Option (List ℕ) → Option Tables → Option Tables → Type 0
KeepsEntry kept entry bytes None new = new ≡ None
KeepsEntry kept entry bytes (Some t) new = AppendsEntry kept entry bytes t new
