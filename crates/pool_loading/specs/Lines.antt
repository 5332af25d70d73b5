-- How a log is taken up again from its lines.
use Rattle.std.specs.Prelude.{◌≡◌, ℕ, List, [], ◌∷◌, ◌++◌, length, take, Option, Some, None, IfSome}
use Rattle.swarm_keeper.specs.Tables.{Tables}
use Rattle.pool_loading.specs.Types.{PoolSettings, Entry}
use Rattle.swarm_model.specs.Bases.{Base}
use Rattle.swarm_model.specs.MachineState.{MachineState, IsHistory}
use Rattle.entry_lines.specs.Lines.{entry_of_line}
use Rattle.pool_loading.specs.declared.store_part.StorePart.{StorePart}
use Rattle.pool_loading.specs.Records.{AreLinesOf, AreRefusedAt, HasBase, IsRefused}

-- no bytes are held
abbrev pub HoldsNothing : MachineState → Type 0
HoldsNothing kept = (digest : List ℕ) → kept.held digest ≡ None

-- the log goes on by the entry of a line, and no bytes come with it
pub record AddsLine (line : List ℕ) (old new : MachineState) : Type 0 where
  pub entry : Entry
  pub reads : entry_of_line line ≡ Some entry
  pub start : new.start ≡ old.start
  pub log : new.log ≡ old.log ++ entry ∷ []
  pub settings : new.pool.settings ≡ old.pool.settings
  pub history : IsHistory new
  pub nothing : HoldsNothing new

-- the line is of no entry that is legal at the end of the log
abbrev pub Refuses : List ℕ → MachineState → Type 0
Refuses line kept = IsRefused kept.start.rows kept.log line

-- the records have this base
pub record BeginsFrom (settings : PoolSettings) (start : Base) (t : Tables) : Type 0 where
  pub base : HasBase settings t start.rows
  pub count : t.count ≡ start.count

-- the first lines are those of the log
abbrev pub AreFirst : List Entry → Tables → Type 0
AreFirst log t = AreLinesOf (take (length log) t.lines) log

-- the log begins from the base of the records, and is that of the first lines
pub record IsReplay (settings : PoolSettings) (tables : Option Tables) (kept : MachineState) : Type 0 where
  pub history : IsHistory kept
  pub settings_are : kept.pool.settings ≡ settings
  pub nothing : HoldsNothing kept
  pub begins : IfSome tables (BeginsFrom settings kept.start)
  pub lines : IfSome tables (AreFirst kept.log)

-- it is that of all lines
abbrev pub AreAll : Option Tables → List Entry → Type 0
AreAll tables log = IfSome tables (λ t. AreLinesOf t.lines log)

-- the records are refused at a place of this part
abbrev pub IsRefusedOf : PoolSettings → Option Tables → StorePart → ℕ → Type 0
IsRefusedOf settings tables part at = IfSome tables (λ t. AreRefusedAt settings t part at)
