-- The rule of the turnstile: what holds of its words, its value and all views between any two steps.
use Rattle.std.specs.Prelude.{◌≡◌, ◌≢◌, ℕ, ◌*◌, ◌^◌, ◌<◌, ◌≤◌, true, false, List, [], ◌∷◌, length}
use Rattle.std.specs.List.{AllByRecursion}
use mathlib.Core.Option.{Option, some}
use mathlib.Core.List.{IsPrefix}
use lib.ListN.{get_elem?}
use Rattle.atomic_table.specs.Table.{State}
use Rattle.turnstile.specs.declared.view.View.{View}
use Rattle.turnstile.specs.declared.view.Half.{Half}
use Rattle.turnstile.specs.Numbers.{times, once_below, total, own}

module _ {I : Type 0} where
  -- a log goes on from that of one half, and has the same entries of each number of that half
  abbrev pub GoesOn : (I → ℕ) → List I → Half I → Type 0
  GoesOn by log h = IsPrefix h.seen log × ((k : ℕ) → 0 < times k h.numbers → own by k log ≡ own by k h.seen)

module _ {V I : Type 0} where
  -- the view of the first pass, which has seen the log of the value that the turnstile was made with
  abbrev pub first_view : V → List I → View V I
  first_view value log = record {
    first = value ∷ [];
    has_ticket = false;
    ticket = 0;
    has_turn = false;
    seen = log;
    told = 0;
    turns = 0;
    number = 0;
    made = 1;
    numbers = 0 ∷ [];
    halves = [];
  }

  -- what holds of one view, where `next` is the next ticket, `now` the one that is served, `all` the log and `made` how many passes were made
  pub record IsSound (by : I → ℕ) (opening : List I) (next now : ℕ) (all : List I) (made : ℕ) (v : View V I) : Type 0 where
    -- its ticket was drawn and has not been passed over
    pub held : v.has_ticket ≡ true → (now ≤ v.ticket) × (v.ticket < next) × (0 < length v.numbers)
    -- with its turn it sees the whole log
    pub turn : v.has_turn ≡ true → (v.has_ticket ≡ true) × (v.ticket ≡ now) × (v.seen ≡ all)
    pub seen : IsPrefix v.seen all
    pub told : v.told ≤ length all
    pub opens : 0 < length v.numbers → IsPrefix opening v.seen
    -- it has seen all entries of its numbers
    pub owns : (k : ℕ) → 0 < times k v.numbers → own by k v.seen ≡ own by k all
    -- number 0 counts the passes
    pub counts : v.number ≡ 0 → v.made ≡ made
    pub most : v.turns ≤ 2 ^ 40 * length v.numbers
    pub halves : AllByRecursion (GoesOn by v.seen) v.halves

  -- two views never have the same ticket, nor both the number 0
  abbrev pub AreApart : View V I → View V I → Type 0
  AreApart v w = (v.has_ticket ≡ true → w.has_ticket ≡ true → v.ticket ≢ w.ticket) × (v.number ≡ 0 → w.number ≢ 0)

  -- P holds of each view, and Q of any two
  pub record EachAndAnyTwo (P : View V I → Type 0) (Q : View V I → View V I → Type 0) (views : List (View V I)) : Type 0 where
    pub each : (i : ℕ) (v : View V I) → get_elem? views i ≡ some v → P v
    pub two : (i j : ℕ) (v w : View V I) → i ≢ j → get_elem? views i ≡ some v → get_elem? views j ≡ some w → Q v w

  abbrev pub NobodyServes : List (View V I) → Type 0
  NobodyServes views = (i : ℕ) (v : View V I) → get_elem? views i ≡ some v → v.has_turn ≡ false

  -- each number that was given stands once in the lists of all views, and each ticket that was drawn is one turn of a view
  pub record AddUp (next made : ℕ) (views : List (View V I)) : Type 0 where
    pub sizes : total (λ (v : View V I). length v.numbers) views ≡ made
    pub once : (k : ℕ) → total (λ (v : View V I). times k v.numbers) views ≡ once_below k made
    pub turns : total (λ (v : View V I). v.turns) views ≡ next

  -- the words, the value at home and the views are those of one log; `Same` says what never changes of the value
  pub record IsConsistent (log : V → List I) (by : I → ℕ) (Same : V → Type 0) (opening : List I) (s : State V (View V I)) : Type 0 where
    pub next : ℕ
    pub now : ℕ
    pub all : List I
    pub made : ℕ
    pub place : Option V
    pub words : s.words ≡ next ∷ now ∷ length all ∷ []
    pub homes : s.homes ≡ place ∷ []
    pub order : now ≤ next
    pub short : length all ≤ 2 ^ 32
    pub few : made ≤ 64
    pub begins : IsPrefix opening all
    -- past the opening no entry bears a number that was not given
    pub new : (k : ℕ) → made ≤ k → own by k all ≡ own by k opening
    pub views : EachAndAnyTwo (IsSound by opening next now all made) AreApart s.views
    pub sums : AddUp next made s.views
    pub home : NobodyServes s.views → (x : V) × (place ≡ some x) × (log x ≡ all) × Same x
