-- The rule of the copies: what is shown, and what was seen and told of it.
use Rattle.std.specs.Prelude.{◌≡◌, ℕ, List, [], ◌∷◌, Some, None, IfSome}
use Rattle.std.specs.List.{All}
use mathlib.Core.List.{IsPrefix}
use mathlib.Core.Option.{some}
use lib.ListN.{get_elem?}
use Rattle.swarm_model.specs.declared.pool_state.PoolState.{PoolState}
use Rattle.swarm_model.specs.declared.entry.Entry.{Entry}
use Rattle.swarm_model.specs.History.{replay, IsLegal}
use Rattle.swarm_model.specs.Soundness.{IsSound}
use Rattle.row_copies.specs.declared.kept.Kept.{Kept}
use Rattle.row_copies.specs.declared.row_copy.RowCopy.{RowCopy}
use Rattle.row_copies.specs.Kept.{kept_of, rows_alone}
use Rattle.swarm_boards.specs.declared.rule.Seen.{Seen}

-- a reader that has seen nothing, and was told nothing
abbrev pub newcomer : Seen
newcomer = record { base = None; seen = []; told = [] }

-- the entries are a log of the base, and the copy stands for the rows after them
pub record Shown (kept : Kept) : Type 0 where
  pub sound : IsSound kept.base
  pub legal : IsLegal kept.base kept.log
  pub replayed : kept.now ≡ rows_alone (replay kept.base kept.log)

-- what is known is true of the base and of this list
pub record Knows (base : PoolState) (list : List Entry) (v : Seen) : Type 0 where
  pub base_is : IfSome v.base (λ b. b ≡ base)
  pub seen : IsPrefix v.seen list
  pub told : All (λ front. IsPrefix front list) v.told

-- the copy shows a list that begins with all that anyone has seen or was told
pub record KeepsList (kept : Kept) (views : List Seen) : Type 0 where
  pub shown : Shown kept
  pub known : (seat : ℕ) (v : Seen) → get_elem? views seat ≡ some v → Knows kept.base kept.log v

abbrev pub Keeps : RowCopy → List Seen → Type 0
Keeps copy views = KeepsList (kept_of copy) views

-- what is seen afterwards is what this copy shows, and begins with what was seen and told before
pub record Sights (kept : Kept) (v w : Seen) : Type 0 where
  pub shown : Shown kept
  pub seen : w.seen ≡ kept.log
  pub base : w.base ≡ Some kept.base
  pub told_is : w.told ≡ v.told
  pub before : Knows kept.base kept.log v

-- a reader's step: the copy stays
abbrev pub Shows : Seen → RowCopy → RowCopy → Seen → Type 0
Shows v x y w = (y ≡ x) × Sights (kept_of x) v w

-- the writer's step: another copy is shown
abbrev pub Publishes : Seen → RowCopy → RowCopy → Seen → Type 0
Publishes v x y w = Sights (kept_of y) v w

-- what a reader knows that was told what another has seen
abbrev pub informed : Seen → Seen → Seen
informed v w = record { base = w.base; seen = v.seen; told = w.seen ∷ v.told }
