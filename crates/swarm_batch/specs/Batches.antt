-- What a batch is, and what becomes of it.
use Rattle.std.specs.Prelude.{◌≡◌, ℕ, ◌+◌, ◌-◌, ◌≤◌, nat_lt, List, ◌++◌, length, codes, decimal, Option, Some, None, option_and_then, slice_get, true, if◌then◌else◌}
use Rattle.std.specs.List.{list_all}
use Rattle.serde_json.specs.Data.{Data}
use Rattle.swarm_batch.specs.declared.mark.Mark.{Mark}
use Rattle.swarm_batch.specs.Marks.{is_mark}
use Rattle.swarm_batch.specs.Named.{named_in}

-- the line that names the file and the batch, the batch's name, the lines of the file, and the marks of the first of them
pub record BatchValue : Type 0 where
  pub head : List ℕ
  pub name : List ℕ
  pub lines : List (List ℕ)
  pub marks : List Mark

-- the line that comes next, counted from 1
abbrev pub next_line : BatchValue → Option ℕ
next_line b = if nat_lt (length b.marks) (length b.lines) then Some (length b.marks + 1) else None

-- the uuid under which a line is sent
abbrev pub uuid_of : List ℕ → ℕ → List ℕ
uuid_of name line = name ++ (codes "-" ++ decimal line)

-- what is read of the body of a line, counted from 1
abbrev pub body_data : BatchValue → ℕ → Option Data
body_data b line = option_and_then (named_in (uuid_of b.name line)) (slice_get b.lines (line - 1))

-- the marks that so many lines may have
pub record AreMarks (lines : ℕ) (marks : List Mark) : Type 0 where
  pub few : length marks ≤ lines
  pub good : list_all is_mark marks ≡ true
