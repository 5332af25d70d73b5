-- Writing, one piece after another.
use Rattle.std.proofs.Common.{◌≡◌, ℕ, List, [], ◌++◌, refl, sym, ap, ◌∙◌, append_assoc, append-nil, Result, Ok, Err, subst}
use Rattle.std.specs.Prelude.{OnOk}
use Rattle.sw_base.specs.Faults.{Rose, CountsFault}
use Rattle.sw_base.specs.Link.{LinkState, Moves, SameInput, Flushes}
use Rattle.sw_base.proofs.Moving.{Moves-refl, Moves-trans, SameInput-refl, SameInput-trans}
use Rattle.link_writer.specs.Sends.{Written, Sends}

-- so much was written, and no write failed
pub record SoFar (s t : LinkState) (text back : List ℕ) : Type 0 where
  pub written : Written s t text back
  pub well : t.write_faults ≡ s.write_faults

pub none_written : (s : LinkState) (text : List ℕ) → SoFar s s text text
none_written s text = record { written = record { sent = []; moves = Moves-refl s; input = SameInput-refl s; whole = refl }; well = refl }

pub more_written : {s t u : LinkState} {text back piece rest : List ℕ} → SoFar s t text back → Moves t u [] piece → SameInput t u → u.write_faults ≡ t.write_faults → back ≡ piece ++ rest → SoFar s u text rest
more_written {piece = piece} {rest = rest} x m input well is =
    let w = x.written in
    record {
      written = record {
        sent = w.sent ++ piece;
        moves = Moves-trans w.moves m;
        input = SameInput-trans w.input input;
        whole = w.whole ∙ ap (λ l. w.sent ++ l) is ∙ sym (append_assoc w.sent piece rest);
      };
      well = well ∙ x.well;
    }

-- a write failed after others
pub write_failed : {T E : Type 0} {e : E} {s t u : LinkState} {text back : List ℕ} → SoFar s t text back → Moves t u [] [] → SameInput t u → Rose t.write_faults u.write_faults → Sends {T = T} s u text (Err e)
write_failed {s = s} {u = u} x m input rose =
    let w = x.written in
    record {
      back = _;
      written = record {
        sent = w.sent;
        moves = subst (Moves s u []) (append-nil w.sent) (Moves-trans w.moves m);
        input = SameInput-trans w.input input;
        whole = w.whole;
      };
      faults = subst (λ n. Rose n u.write_faults) x.well rose;
      outcome = tt;
    }

on_ok : {T E P : Type 0} (r : Result T E) → P → OnOk r P
on_ok (Ok v) p = p
on_ok (Err e) p = tt

-- a text that was flushed
pub flushed : {T U E F : Type 0} {s t u : LinkState} {a : List ℕ} {r : Result T E} {q : Result U F}
    → (p : Sends s t a r) → p.back ≡ [] → t.write_faults ≡ s.write_faults → Flushes t u q → Sends s u a q
flushed {s = s} {u = u} {q = q} p all well f = record {
  back = [];
  written = record {
    sent = p.written.sent;
    moves = subst (Moves s u []) (append-nil p.written.sent) (Moves-trans p.written.moves f.moves);
    input = SameInput-trans p.written.input f.input;
    whole = p.written.whole ∙ ap (λ l. p.written.sent ++ l) all;
  };
  faults = subst (λ n. CountsFault q n u.write_faults) well f.faults;
  outcome = on_ok q refl;
}

-- one text was written, and then of another one
pub both_sent : {T U E F : Type 0} {s t u : LinkState} {a b : List ℕ} {r : Result T E} {q : Result U F}
    → (p : Sends s t a r) → p.back ≡ [] → t.write_faults ≡ s.write_faults → Sends t u b q → Sends s u (a ++ b) q
both_sent {u = u} {b = b} {q = q} p all well f =
    let x = p.written in
    let y = f.written in
    record {
      back = f.back;
      written = record {
        sent = x.sent ++ y.sent;
        moves = Moves-trans x.moves y.moves;
        input = SameInput-trans x.input y.input;
        whole = ap (λ l. l ++ b) (x.whole ∙ ap (λ l. x.sent ++ l) all ∙ append-nil x.sent) ∙ ap (λ l. x.sent ++ l) y.whole ∙ sym (append_assoc x.sent y.sent f.back);
      };
      faults = subst (λ n. CountsFault q n u.write_faults) well f.faults;
      outcome = f.outcome;
    }

-- a text was not written whole, nor any of what stands behind it
pub front_cut : {T U E : Type 0} {e : E} {s t : LinkState} {a : List ℕ} (b : List ℕ) → Sends {T = T} s t a (Err e) → Sends {T = U} s t (a ++ b) (Err e)
front_cut b p =
    let x = p.written in
    record {
      back = p.back ++ b;
      written = record { sent = x.sent; moves = x.moves; input = x.input; whole = ap (λ l. l ++ b) x.whole ∙ append_assoc x.sent p.back b };
      faults = p.faults;
      outcome = tt;
    }
