-- How the rows of a base are read from its lines, one after another.
use Rattle.std.specs.Prelude.{◌≡◌, ℕ, ◌≤◌, List, length, drop, Option, IfSome, Ok, Err}
use Rattle.pool_loading.specs.Types.{Text, BaseRows}
use Rattle.swarm_keeper.specs.Tables.{Tables}
use Rattle.base_lines.specs.Reading.{read_from, read_lines, lines_in, AreRead}

-- the rows are those of the first lines: what all lines tell is what the others tell behind them
pub record AreOfFirst (rows : BaseRows) (lines : List Text) : Type 0 where
  pub within : lines_in rows ≤ length lines
  pub rest : read_lines lines ≡ read_from (lines_in rows) rows (drop (lines_in rows) lines)

-- the rows are read, and where the keeper tells its tables, they are those of the first lines there
pub record AreReadTo (tables : Option Tables) (rows : BaseRows) : Type 0 where
  pub read : AreRead rows
  pub first : IfSome tables (λ t. AreOfFirst rows t.base)

-- they are those of all lines
pub record AreOfAll (rows : BaseRows) (t : Tables) : Type 0 where
  pub told : read_lines t.base ≡ Ok rows
  pub counted : lines_in rows ≡ length t.base

-- a line at this place is none of its place
abbrev pub IsNoneOfItsPlace : Option Tables → ℕ → Type 0
IsNoneOfItsPlace tables at = IfSome tables (λ t. read_lines t.base ≡ Err at)
