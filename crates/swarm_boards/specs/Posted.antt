-- What a poster has published, and what is pending.
use Rattle.std.specs.Prelude.{◌≡◌, List, [], ◌++◌, Some, Result, MatchResult}
use Rattle.std.specs.declared.alloc.AllocError.{AllocError}
use Rattle.swarm_model.specs.declared.pool_state.PoolState.{PoolState}
use Rattle.swarm_model.specs.declared.entry.Entry.{Entry}
use Rattle.swarm_model.specs.Bases.{Base}
use Rattle.swarm_model.specs.History.{IsLegal}
use Rattle.row_copies.specs.declared.kept.Kept.{Kept}
use Rattle.swarm_boards.specs.declared.rule.Seen.{Seen}

-- the base from which the log begins, the entries that are published, and those that are pending
pub record Posted : Type 0 where
  pub start : Base
  pub published : List Entry
  pub pending : List Entry

-- the writer knows the base and what the copy shows, and what is pending may follow that
pub record IsPosted (rows : PoolState) (kept : Kept) (v : Seen) (entries : List Entry) : Type 0 where
  pub base : kept.base ≡ rows
  pub known : v.base ≡ Some rows
  pub seen : v.seen ≡ kept.log
  pub legal : IsLegal rows (kept.log ++ entries)

-- the writer shows another copy, which has what was pending, and knows so; nothing is pending any more
pub record IsShown (kept : Kept) (entries : List Entry) (kept' : Kept) (w : Seen) (entries' : List Entry) : Type 0 where
  pub posted : IsPosted kept.base kept' w entries'
  pub published : kept'.log ≡ kept.log ++ entries
  pub none_left : entries' ≡ []

-- all stays
pub record StaysShown (kept : Kept) (v : Seen) (entries : List Entry) (kept' : Kept) (w : Seen) (entries' : List Entry) : Type 0 where
  pub copy : kept' ≡ kept
  pub known : w ≡ v
  pub pending : entries' ≡ entries

-- what was pending is published, or for want of memory all stays
abbrev pub IsPublished : Kept → Seen → List Entry → Kept → Seen → List Entry → Result (Unit {0}) AllocError → Type 0
IsPublished kept v entries kept' w entries' result = MatchResult result (λ _. IsShown kept entries kept' w entries') (λ _. StaysShown kept v entries kept' w entries')
