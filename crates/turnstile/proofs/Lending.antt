-- A turn, after a write to the value that is with it.
use Rattle.std.proofs.Common.{◌≡◌, ℕ, List, ◌∷◌, sym, ap, ◌∙◌}
use Rattle.atomic_table.specs.Table.{rest}
use Rattle.turnstile.specs.declared.turn.Turn.{Turn}
use Rattle.turnstile.specs.Lending.{turn_with}
use Rattle.turnstile.specs.Passes.{IsTurn, Holds, first_of}

module _ {V I F : Type 0} where
  pub IsTurn-turn_with : (fixed : V → F) (t : Turn V I F) (x : V) → IsTurn fixed t → IsTurn fixed (turn_with t x)
  IsTurn-turn_with fixed t x h = record {
    table = h.table;
    has_ticket = h.has_ticket;
    has_turn = h.has_turn;
    no_halves = h.no_halves;
    first = h.first;
    ticket = h.ticket;
    fits = h.fits;
    tallies = record {
      number = h.tallies.number;
      made = h.tallies.made;
      parts = h.tallies.parts;
      turns = h.tallies.turns;
      listed = h.tallies.listed;
      few = h.tallies.few;
      small = h.tallies.small;
      most = h.tallies.most;
    };
  }

  -- the value that was written is with the turn
  pub Holds-turn_with : (t : Turn V I F) (x y : V) → Holds t x → Holds (turn_with t y) y
  Holds-turn_with t x y is = ap (λ (cs : List (ℕ × V)). (0, y) ∷ rest cs) is

  -- where nothing was written, the turn stays
  pub turn_with-same : (t : Turn V I F) (x : V) → Holds t x → turn_with t x ≡ t
  turn_with-same t x is = ap (λ (cs : List (ℕ × V)). record t { pass = record (t.pass) { seat = record (t.pass.seat) { me = (t.pass.seat.me.0, cs) } } }) (Holds-turn_with t x x is ∙ sym is)

  -- one value is with a turn
  pub Holds-one : (t : Turn V I F) (x y : V) → Holds t x → Holds t y → x ≡ y
  Holds-one t x y a b = ap (first_of (λ (z : V). z) x) (sym a ∙ b)
