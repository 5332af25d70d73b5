-- Numbers one after another, and the entries that bear them.
use Rattle.std.proofs.Common.{◌≡◌, ℕ, zero, suc, ◌+◌, ◌<◌, ◌==◌, Bool, true, false, List, [], ◌∷◌, length, filter, if◌then◌else◌, refl, ap, arith, ◌⊎◌, inl, inr}
use Rattle.std.proofs.lemmas.Bool.{eqb-true}
use Rattle.swarm_model.specs.declared.entry.Entry.{Entry}
use Rattle.turnstile.specs.Numbers.{times, own}
use Rattle.swarm_http.specs.Exchange.{has_pass}
use Rattle.shared_doors.specs.Joined.{by}

-- the two spellings of the entries of a number
pub own_filter : (k : ℕ) (log : List Entry) → own by k log ≡ filter (has_pass k) log
own_filter k [] = refl
own_filter k (e ∷ log) = (elim (e.pass == k) as (λ b. (if b then e ∷ own by k log else own by k log) ≡ (if b then e ∷ filter (has_pass k) log else filter (has_pass k) log)) [
  | true ↦ ap (λ l. e ∷ l) (own_filter k log)
  | false ↦ own_filter k log
])

-- the n numbers from k on
abbrev pub numbers_from : ℕ → ℕ → List ℕ
numbers_from k zero = []
numbers_from k (suc n) = k ∷ numbers_from (k + 1) n

pub length_from : (k n : ℕ) → length (numbers_from k n) ≡ n
length_from k zero = refl
length_from k (suc n) = ap suc (length_from (k + 1) n)

first_or_later : (j k n : ℕ) → 0 < (if k == j then 1 else 0) + n → (k ≡ j) ⊎ (0 < n)
first_or_later j k n has = pick (k == j) refl has
  where
    pick : (b : Bool) → (k == j) ≡ b → 0 < (if b then 1 else 0) + n → (k ≡ j) ⊎ (0 < n)
    pick true is has = inl (eqb-true k j is)
    pick false is has = inr (omega (arith, has))

past_first : (j k n : ℕ) → (j < (k + 1) + n) ⊎ (k ≡ j) → j < k + suc n
past_first j k n (inl low) = omega (arith, low)
past_first j k n (inr is) = omega (arith, is)

or_first : (j k n : ℕ) (later : ℕ) → (0 < later → j < (k + 1) + n) → (k ≡ j) ⊎ (0 < later) → (j < (k + 1) + n) ⊎ (k ≡ j)
or_first j k n later low (inl is) = inr is
or_first j k n later low (inr has) = inl (low has)

-- none of them is past the last
pub times_from : (j k n : ℕ) → 0 < times j (numbers_from k n) → j < k + n
times_from j k zero has = absurd (omega (arith, has))
times_from j k (suc n) has =
    let later = times j (numbers_from (k + 1) n) in
    past_first j k n (or_first j k n later (times_from j (k + 1) n) (first_or_later j k later has))

-- a number stands in its own list
pub times_itself : (k : ℕ) → 0 < times k (k ∷ [])
times_itself k = grind (arith)
