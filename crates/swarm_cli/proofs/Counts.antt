-- How a store's count of faults follows those of its keepers.
use Rattle.std.proofs.Common.{◌≡◌, ℕ, zero, suc, ◌+◌, ◌<◌, ◌≤◌, refl, sym, subst, ◌∙◌, Bool, true, false, arith}
use Rattle.std.specs.Prelude.{◌==◌, MatchBool}
use Rattle.std.proofs.lemmas.Bool.{eqb-true, eq-eqb}
use Rattle.sw_base.specs.Faults.{Rose}
use Rattle.swarm_cli.specs.Attaching.{CountsKeepers}

pub Rose-trans : (a b c : ℕ) → Rose a b → Rose b c → Rose a c
Rose-trans a b c first second = omega arith

not_zero : (m : ℕ) → 0 < m → (m == 0) ≡ false
not_zero m some = by_cases (m == 0) refl
  where
    by_cases : (t : Bool) → (m == 0) ≡ t → t ≡ false
    by_cases false is = refl
    by_cases true is = let zero_is : m ≡ 0 = eqb-true m 0 is in absurd (omega arith)

above : (m : ℕ) → (m == 0) ≡ false → 0 < m
above zero is = absurd (cc)
above (suc m) is = omega arith

-- none of the keepers has failed
pub counts_none : (m a b : ℕ) → CountsKeepers m a b → m ≡ 0 → a ≡ b
counts_none m a b counts none = subst (λ (t : Bool). MatchBool t (a ≡ b) (Rose a b)) (eq-eqb m 0 none) counts

-- some keeper has failed
pub counts_some : (m a b : ℕ) → CountsKeepers m a b → 0 < m → Rose a b
counts_some m a b counts some = subst (λ (t : Bool). MatchBool t (a ≡ b) (Rose a b)) (not_zero m some) counts

from_none : (m a b : ℕ) → m ≡ 0 → a ≡ b → CountsKeepers m a b
from_none m a b none same = subst (λ (t : Bool). MatchBool t (a ≡ b) (Rose a b)) (sym (eq-eqb m 0 none)) same

from_some : (m a b : ℕ) → 0 < m → Rose a b → CountsKeepers m a b
from_some m a b some rose = subst (λ (t : Bool). MatchBool t (a ≡ b) (Rose a b)) (sym (not_zero m some)) rose

pub counts-none : (a : ℕ) → CountsKeepers 0 a a
counts-none a = from_none 0 a a refl refl

-- one more keeper was taken back
pub counts-more : (m n a b c : ℕ) → CountsKeepers m a b → CountsKeepers n b c → CountsKeepers (m + n) a c
counts-more m n a b c first second = by_first (m == 0) refl (n == 0) refl
  where
    by_first : (t : Bool) → (m == 0) ≡ t → (u : Bool) → (n == 0) ≡ u → CountsKeepers (m + n) a c
    by_first true is true nis =
        let m_none : m ≡ 0 = eqb-true m 0 is in
        let n_none : n ≡ 0 = eqb-true n 0 nis in
        from_none (m + n) a c (omega arith) (counts_none m a b first m_none ∙ counts_none n b c second n_none)
    by_first true is false nis =
        let m_none : m ≡ 0 = eqb-true m 0 is in
        let some = above n nis in
        from_some (m + n) a c (omega arith) (subst (λ (x : ℕ). Rose x c) (sym (counts_none m a b first m_none)) (counts_some n b c second some))
    by_first false is true nis =
        let n_none : n ≡ 0 = eqb-true n 0 nis in
        let some = above m is in
        from_some (m + n) a c (omega arith) (subst (λ (x : ℕ). Rose a x) (counts_none n b c second n_none) (counts_some m a b first some))
    by_first false is false nis =
        let some = above m is in
        from_some (m + n) a c (omega arith) (Rose-trans a b c (counts_some m a b first some) (counts_some n b c second (above n nis)))

-- keepers of which none had failed
pub rose_above : (m n : ℕ) → m ≡ 0 → Rose m n → 0 < n
rose_above m n none rose = omega arith

-- a count that rose from where one was that had not fallen
pub rose_from : (m d n : ℕ) → m ≤ d → Rose d n → Rose m n
rose_from m d n within rose = omega arith
