-- Calls on a link, one after another.
use Rattle.std.proofs.Common.{◌≡◌, ◌∙◌, ℕ, List, [], ◌++◌, ◌∷◌, refl, sym, arith}
use Rattle.std.proofs.KnownBytes.{Consumes-nil, Consumes-trans, Appends-nil, Appends-trans}
use Rattle.sw_base.specs.Link.{LinkState, IsClean, Moves, SameInput, SameOutput, NoFault}

nil_left : (p q : List ℕ) → p ++ q ≡ [] → p ≡ []
nil_left [] q e = refl
nil_left (x ∷ p) q e = absurd (cc)

nil_right : (p q : List ℕ) → p ++ q ≡ [] → q ≡ []
nil_right [] q e = e
nil_right (x ∷ p) q e = absurd (cc)

pub Moves-refl : (s : LinkState) → Moves s s [] []
Moves-refl s = record {
  read = Consumes-nil s.left;
  written = Appends-nil s.written;
  reads = omega arith;
  writes = omega arith;
  clean = λ e c. c;
}

pub Moves-trans : {s t u : LinkState} {x y p q : List ℕ} → Moves s t x p → Moves t u y q → Moves s u (x ++ y) (p ++ q)
Moves-trans {s = s} {t = t} {u = u} {x = x} {y = y} {p = p} {q = q} m n = record {
  read = Consumes-trans s.left t.left u.left x y m.read n.read;
  written = Appends-trans s.written t.written u.written p q m.written n.written;
  reads = omega arith;
  writes = omega arith;
  clean = λ e c. n.clean (nil_right p q e) (m.clean (nil_left p q e) c);
}

pub SameInput-refl : (s : LinkState) → SameInput s s
SameInput-refl s = record { left = refl; read_faults = refl }

pub SameInput-trans : {s t u : LinkState} → SameInput s t → SameInput t u → SameInput s u
SameInput-trans x y = record { left = y.left ∙ x.left; read_faults = y.read_faults ∙ x.read_faults }

pub SameOutput-refl : (s : LinkState) → SameOutput s s
SameOutput-refl s = record { written = refl; flushed = refl; write_faults = refl }

pub SameOutput-trans : {s t u : LinkState} → SameOutput s t → SameOutput t u → SameOutput s u
SameOutput-trans x y = record { written = y.written ∙ x.written; flushed = y.flushed ∙ x.flushed; write_faults = y.write_faults ∙ x.write_faults }

pub NoFault-refl : (s : LinkState) → NoFault s s
NoFault-refl s = record { reads = refl; writes = refl }

pub NoFault-trans : {s t u : LinkState} → NoFault s t → NoFault t u → NoFault s u
NoFault-trans x y = record { reads = y.reads ∙ x.reads; writes = y.writes ∙ x.writes }

-- a link to which nothing was written is as clean as before
pub clean_still : {s t : LinkState} → SameOutput s t → IsClean s → IsClean t
clean_still x clean = x.flushed ∙ clean ∙ sym x.written
