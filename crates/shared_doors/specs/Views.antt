-- What is known of the passes of a server.
use Rattle.std.specs.Prelude.{◌≡◌, ℕ, List, [], ◌∷◌, map, length, ◌<◌, ◌≤◌, ◌^◌, get_or, slice_index_or, Option, Some, None, IsTrue, is_some}
use Rattle.std.specs.List.{All}
use Rattle.shared_doors.specs.Types.{Entry, Pass, Turnstile}
use Rattle.turnstile.specs.Passes.{IsPassOf, seen, number, numbers, made, told, turns}
use Rattle.shared_doors.specs.declared.view.Lasting.{Lasting}
use Rattle.shared_doors.specs.declared.view.PoolView.{PoolView}

-- what a pass that is out knows
abbrev pub nothing : PoolView
nothing = record { number = 0; turns = 0; numbers = []; made = 0; told = 0; seen = [] }

-- what the first pass of a pool knows, whose log is empty
abbrev pub first_view : PoolView
first_view = record { number = 0; turns = 0; numbers = 0 ∷ []; made = 1; told = 0; seen = [] }

-- what is known of the pass at a place
abbrev pub view_at : List PoolView → ℕ → PoolView
view_at views place = slice_index_or views place nothing

-- a length of the log that is no shorter than what the pass has seen, and than each front that it was told
abbrev pub IsFrontOf : PoolView → ℕ → Type 0
IsFrontOf v front = (length v.seen ≤ front) × (v.told ≤ front) × (front ≤ 2 ^ 32)

module _ {V : Type 0} where
  -- what a pass knows
  abbrev pub look : Pass V Entry Lasting → PoolView
  look p = record { number = number p; turns = turns p; numbers = numbers p; made = made p; told = told p; seen = seen p }

  -- what the pass knows that may be here
  abbrev pub view_or : Option (Pass V Entry Lasting) → PoolView
  view_or None = nothing
  view_or (Some pass) = look pass

  -- what passes know, by place
  abbrev pub views : List (Option (Pass V Entry Lasting)) → List PoolView
  views passes = map view_or passes

  -- below a place, the passes that are here are those of the turnstiles at their places
  abbrev pub EachBelow : ℕ → (V → Lasting) → List (Turnstile V Entry Lasting) → List (Option (Pass V Entry Lasting)) → Type 0
  EachBelow n fixed ts ps = (i : ℕ) (t : Turnstile V Entry Lasting) (p : Pass V Entry Lasting) → i < n → t ≡ get_or ts i t → Some p ≡ get_or ps i (Some p) → IsPassOf fixed t p

  -- the pass is of the turnstile at a place
  abbrev pub IsOneOf : (V → Lasting) → List (Turnstile V Entry Lasting) → ℕ → Pass V Entry Lasting → Type 0
  IsOneOf fixed ts place p = (t : Turnstile V Entry Lasting) → t ≡ get_or ts place t → IsPassOf fixed t p

  -- a pass of each turnstile, by place
  pub record AreOf (fixed : V → Lasting) (ts : List (Turnstile V Entry Lasting)) (ps : List (Option (Pass V Entry Lasting))) : Type 0 where
    pub count : length ps ≡ length ts
    pub whole : All (λ p. IsTrue (is_some p)) ps
    pub each : EachBelow (length ts) fixed ts ps
