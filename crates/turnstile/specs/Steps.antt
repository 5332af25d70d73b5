-- What each kind of step does to the view of its pass, and what it tells.
use Rattle.std.specs.Prelude.{map, ◌≡◌, ◌≢◌, ℕ, ◌+◌, ◌*◌, ◌^◌, ◌<◌, ◌≤◌, ◌==◌, min, max, true, false, List, [], ◌∷◌, ◌++◌, length, if◌then◌else◌}
use Rattle.std.specs.List.{AllByRecursion}
use mathlib.Core.List.{IsPrefix}
use Rattle.atomic_table.specs.Table.{Me, Step, rest}
use Rattle.turnstile.specs.declared.view.View.{View}
use Rattle.turnstile.specs.declared.view.Half.{Half}
use Rattle.turnstile.specs.Numbers.{times, own, longer_of}
use Rattle.turnstile.specs.Rule.{GoesOn}

module _ {V I : Type 0} where
  abbrev pub with_ticket : ℕ → View V I → View V I
  with_ticket n v = record v { has_ticket = true; ticket = n; turns = v.turns + 1 }

  abbrev pub with_turn : List I → View V I → View V I
  with_turn log v = record v { has_turn = true; seen = log }

  abbrev pub with_log : List I → View V I → View V I
  with_log log v = record v { seen = log }

  abbrev pub at_rest : View V I → View V I
  at_rest v = record v { has_ticket = false; has_turn = false }

  abbrev pub with_front : ℕ → View V I → View V I
  with_front n v = record v { told = n }

  -- a split: number 0 has made one pass more
  abbrev pub with_one_more : View V I → View V I
  with_one_more v = record v { made = v.made + 1 }

  -- and the new pass has the next number alone
  abbrev pub new_pass : View V I → View V I
  new_pass v = record v { number = v.made; made = 0; numbers = v.made ∷ []; turns = 0 }

  abbrev pub half : View V I → Half I
  half v = record { seen = v.seen; numbers = v.numbers }

  -- a join: one view of two
  abbrev pub joined : View V I → View V I → View V I
  joined v w = record {
    first = v.first;
    has_ticket = false;
    ticket = 0;
    has_turn = false;
    seen = longer_of v.seen w.seen;
    told = max v.told w.told;
    turns = v.turns + w.turns;
    number = min v.number w.number;
    made = if v.number == 0 then v.made else w.made;
    numbers = v.numbers ++ w.numbers;
    halves = half v ∷ half w ∷ [];
  }

  -- and what is left of the other
  abbrev pub spent : View V I
  spent = record {
    first = [];
    has_ticket = false;
    ticket = 0;
    has_turn = false;
    seen = [];
    told = 0;
    turns = 0;
    number = 1;
    made = 0;
    numbers = [];
    halves = [];
  }

  abbrev pub without_halves : View V I → View V I
  without_halves v = record v { halves = [] }

  -- a turn finds a log that goes on from what the view has seen, is as long as each front that it was told, and has no other entries of its numbers
  pub record Finds (by : I → ℕ) (v : View V I) (log : List I) : Type 0 where
    pub begins : IsPrefix v.seen log
    pub owns : (k : ℕ) → 0 < times k v.numbers → own by k log ≡ own by k v.seen
    pub told : v.told ≤ length log
    pub short : length log ≤ 2 ^ 32

  -- a joined view goes on from both halves, and has no number twice
  pub record IsSettled (by : I → ℕ) (v : View V I) : Type 0 where
    pub halves : AllByRecursion (GoesOn by v.seen) v.halves
    pub once : (k : ℕ) → times k v.numbers ≤ 1
    pub few : length v.numbers ≤ 64
    pub most : v.turns ≤ 2 ^ 40 * length v.numbers

  -- Below, a step finds r in its word, and m becomes m'.

  abbrev pub DrawsTicket : Step V → Me V (View V I) → ℕ → Me V (View V I) → Type 0
  DrawsTicket st m r m' = (m' ≡ (with_ticket r m.0, m.1)) × (r < 2 ^ 46)

  -- the value is with the view, which sees its whole log
  abbrev pub GetsTurn : {F : Type 0} → (V → List I) → (I → ℕ) → (V → F) → Me V (View V I) → Me V (View V I) → Type 0
  GetsTurn {F = F} log by fixed m m' = (x : V) × (m' ≡ (with_turn (log x) m.0, (0, x) ∷ m.1)) × Finds by m.0 (log x) × ((b : F) → map fixed m.0.first ≡ b ∷ [] → fixed x ≡ b)

  -- it does where its own ticket is served, and else nothing changes
  abbrev pub LooksForTurn : {F : Type 0} → (V → List I) → (I → ℕ) → (V → F) → Step V → Me V (View V I) → ℕ → Me V (View V I) → Type 0
  LooksForTurn log by fixed st m r m' = (r ≡ m.0.ticket → GetsTurn log by fixed m m') × (r ≢ m.0.ticket → m' ≡ m)

  -- the view sees the log of the value that is with it
  abbrev pub RaisesCount : (V → List I) → Step V → Me V (View V I) → ℕ → Me V (View V I) → Type 0
  RaisesCount log st m r m' = (x : V) → m.1 ≡ (0, x) ∷ [] → m' ≡ (with_log (log x) m.0, m.1)

  -- the value goes home
  abbrev pub ServesNext : Step V → Me V (View V I) → ℕ → Me V (View V I) → Type 0
  ServesNext st m r m' = m' ≡ (at_rest m.0, rest m.1)

  abbrev pub LoadsCount : Step V → Me V (View V I) → ℕ → Me V (View V I) → Type 0
  LoadsCount st m r m' = (m' ≡ (with_front r m.0, m.1)) × (m.0.told ≤ r) × (length m.0.seen ≤ r) × (r ≤ 2 ^ 32)

  abbrev pub SettlesJoin : (I → ℕ) → Step V → Me V (View V I) → ℕ → Me V (View V I) → Type 0
  SettlesJoin by st m r m' = (m' ≡ (without_halves m.0, m.1)) × IsSettled by m.0
