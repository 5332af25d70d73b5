-- A pass at rest, and a pass in its turn, from the view of its seat.
use Rattle.std.proofs.Common.{◌^◌, map, ◌≡◌, ℕ, ◌+◌, ◌∷◌, ◌++◌, ◌==◌, if◌then◌else◌, length-append, ◌<◌, ◌≤◌, true, false, List, [], length, sym, ap, ◌∙◌, subst, arith}
use Rattle.atomic_table.specs.Table.{Me}
use Rattle.turnstile.specs.declared.view.View.{View}
use Rattle.turnstile.specs.declared.pass.Pass.{Pass}
use Rattle.turnstile.specs.declared.turn.Turn.{Turn}
use Rattle.turnstile.specs.declared.turnstile.Turnstile.{Turnstile}
use Rattle.std.specs.Prelude.{min}
use native.Mathlib.Decide.{dec_le}
use mathlib.Core.Logic.{dite}
use Rattle.turnstile.specs.Numbers.{times}
use Rattle.turnstile.specs.Steps.{joined, without_halves, IsSettled}
use Rattle.turnstile.specs.Passes.{IsPassOf, IsTurn, Tallies}
use Rattle.turnstile.proofs.Totals.{times_length, times_append}
use Rattle.turnstile.proofs.Logs.{empty_list}

listed_min : (a b : ℕ) (xs ys : List ℕ) → 0 < times a xs → 0 < times b ys → 0 < times (min a b) (xs ++ ys)
listed_min a b xs ys h k = dite (dec_le a b)
    (λ le. let same : a ≡ min a b = omega (arith, le) in subst (λ n. 0 < times n (xs ++ ys)) same (omega (arith, h, times_append a xs ys)))
    (λ more. let same : b ≡ min a b = omega (arith, more) in subst (λ n. 0 < times n (xs ++ ys)) same (omega (arith, k, times_append b xs ys)))

module _ {V I : Type 0} where
  pub with_none : (m : Me V (View V I)) (w : View V I) (cs : List (ℕ × V)) → m ≡ (w, cs) → length cs ≡ 0 → m ≡ (w, [])
  with_none m w cs e none = e ∙ ap (λ (ds : List (ℕ × V)). (w, ds)) (empty_list cs none)

module _ {V I F : Type 0} where
  -- the numbers that a pass carries are those of the view
  pub record Fits (q : Pass V I F) (w : View V I) : Type 0 where
    pub number : w.number ≡ q.number
    pub made : w.made ≡ q.made
    pub parts : length w.numbers ≡ q.parts
    pub turns : w.turns ≡ q.turns
    pub listed : 0 < times q.number w.numbers
    pub few : q.parts ≤ 64
    pub small : q.number < 64
    pub most : q.turns ≤ 2 ^ 46

  tallied : (q : Pass V I F) (w : View V I) → q.seat.me.0 ≡ w → Fits q w → Tallies q
  tallied q w e f = record {
    number = ap (λ (v : View V I). v.number) e ∙ f.number;
    made = ap (λ (v : View V I). v.made) e ∙ f.made;
    parts = ap (λ (v : View V I). length v.numbers) e ∙ f.parts;
    turns = ap (λ (v : View V I). v.turns) e ∙ f.turns;
    listed = subst (λ (v : View V I). 0 < times q.number v.numbers) (sym e) f.listed;
    few = f.few;
    small = f.small;
    most = f.most;
  }

  pub rests : (fixed : V → F) (t : Turnstile V I F) (q : Pass V I F) (w : View V I) → q.seat.table_id ≡ t.table.shared.table_id → q.seat.me ≡ (w, []) → w.has_ticket ≡ false → w.has_turn ≡ false → w.halves ≡ [] → map fixed w.first ≡ fixed t.table.shared.key.value ∷ [] → Fits q w → IsPassOf fixed t q
  rests fixed t q w table e waits turn halves first f = record {
    table = table;
    holds_none = ap (λ (m : Me V (View V I)). length m.1) e;
    no_ticket = ap (λ (m : Me V (View V I)). m.0.has_ticket) e ∙ waits;
    no_turn = ap (λ (m : Me V (View V I)). m.0.has_turn) e ∙ turn;
    no_halves = ap (λ (m : Me V (View V I)). m.0.halves) e ∙ halves;
    first = ap (λ (m : Me V (View V I)). map fixed m.0.first) e ∙ first;
    tallies = tallied q w (ap (λ (m : Me V (View V I)). m.0) e) f;
  }

  pub serves : (fixed : V → F) (t : Turn V I F) (w : View V I) (cs : List (ℕ × V)) → t.pass.seat.table_id ≡ t.lock.now.table.shared.table_id → t.pass.seat.me ≡ (w, cs) → w.has_ticket ≡ true → w.has_turn ≡ true → w.halves ≡ [] → map fixed w.first ≡ fixed t.lock.now.table.shared.key.value ∷ [] → w.ticket ≡ t.ticket → t.ticket < 2 ^ 46 → Fits t.pass w → IsTurn fixed t
  serves fixed t w cs table e waits turn halves first ticket fits f = record {
    table = table;
    has_ticket = ap (λ (m : Me V (View V I)). m.0.has_ticket) e ∙ waits;
    has_turn = ap (λ (m : Me V (View V I)). m.0.has_turn) e ∙ turn;
    no_halves = ap (λ (m : Me V (View V I)). m.0.halves) e ∙ halves;
    first = ap (λ (m : Me V (View V I)). map fixed m.0.first) e ∙ first;
    ticket = ap (λ (m : Me V (View V I)). m.0.ticket) e ∙ ticket;
    fits = fits;
    tallies = tallied t.pass w (ap (λ (m : Me V (View V I)). m.0) e) f;
  }

  -- a pass has a number
  pub some_number : (p : Pass V I F) → Tallies p → 0 < length p.seat.me.0.numbers
  some_number p t = omega (arith, t.listed, times_length p.number p.seat.me.0.numbers)

  pub joined_fits : (by : I → ℕ) (p q r : Pass V I F) → Tallies p → Tallies q → IsSettled by (joined p.seat.me.0 q.seat.me.0) → r.number ≡ min p.number q.number → r.made ≡ (if p.number == 0 then p.made else q.made) → r.parts ≡ p.parts + q.parts → r.turns ≡ p.turns + q.turns → Fits r (without_halves (joined p.seat.me.0 q.seat.me.0))
  joined_fits by p q r t u s number made parts turns =
      let v = p.seat.me.0 in
      let w = q.seat.me.0 in
      let sizes = length-append v.numbers w.numbers in record {
        number = (λ k. min (t.number k) (u.number k)) ∙ sym number;
        made = (λ k. if t.number k == 0 then t.made k else u.made k) ∙ sym made;
        parts = omega (arith, sizes, t.parts, u.parts, parts);
        turns = omega (arith, t.turns, u.turns, turns);
        listed = subst (λ n. 0 < times n (v.numbers ++ w.numbers)) (sym number) (listed_min p.number q.number v.numbers w.numbers t.listed u.listed);
        few = omega (arith, s.few, sizes, t.parts, u.parts, parts);
        small = omega (arith, number, t.small, u.small);
        most = omega (arith, s.most, s.few, t.turns, u.turns, turns);
      }

  pub own_listed : (p : Pass V I F) → Tallies p → 0 < times p.seat.me.0.number p.seat.me.0.numbers
  own_listed p t = subst (λ n. 0 < times n p.seat.me.0.numbers) (sym t.number) t.listed
