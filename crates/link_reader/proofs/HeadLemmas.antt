-- Where a head ends.
use Rattle.std.proofs.Common.{◌≡◌, ℕ, ◌+◌, ◌-◌, ◌≤◌, List, ◌++◌, length, take, drop, get_or, arith, subst, ap, ◌∙◌, append_assoc, append-nil, add_assoc, length-append, length-drop, refl, sym, [], inl, inr, Result, Ok}
use Rattle.std.proofs.lemmas.Bool.{cases_lt}
use Rattle.std.proofs.lemmas.List.{nil_from_length, get_or-drop, get_or_append_left, take_at, length-take-le}
use Rattle.std.proofs.Math.Seq.{take-add}
use Rattle.sw_base.specs.Link.{LinkState, IsClean, Reads}
use Rattle.sw_base.proofs.Moving.{Moves-refl, Moves-trans, SameOutput-refl, SameOutput-trans, clean_still}
use Rattle.memchr.specs.Find.{OccursAt, NoneBefore}
use Rattle.link_reader.specs.Heads.{blank_line, HasNoEnd, HasNoEndBefore, IsHeadEnd, Grows, Fills}

-- what occurs behind the first n bytes occurs in the bytes n places later
occurs_later : (bytes needle : List ℕ) (n k : ℕ) → n ≤ length bytes → OccursAt (drop n bytes) needle k → OccursAt bytes needle (n + k)
occurs_later bytes needle n k within x = record {
  fits = omega (arith, x.fits, length-drop n bytes);
  reads = λ j low. ap (λ i. get_or bytes i 0) (add_assoc n k j) ∙ sym (get_or-drop n bytes (k + j) 0) ∙ x.reads j low;
}

-- what occurs n places later or more occurs behind the first n bytes
occurs_behind : (bytes needle : List ℕ) (n k : ℕ) → n ≤ k → OccursAt bytes needle k → OccursAt (drop n bytes) needle (k - n)
occurs_behind bytes needle n k low x = record {
  fits = omega (arith, x.fits, length-drop n bytes);
  reads = λ j less. get_or-drop n bytes (k - n + j) 0 ∙ ap (λ i. get_or bytes i 0) (omega arith) ∙ x.reads j less;
}

-- what occurs in bytes with room for it among the first of them occurs in those
occurs_in_front : (front rest needle : List ℕ) (k : ℕ) → k + length needle ≤ length front → OccursAt (front ++ rest) needle k → OccursAt front needle k
occurs_in_front front rest needle k fits x = record {
  fits = fits;
  reads = λ j less. sym (get_or_append_left front rest 0 (k + j) (omega arith)) ∙ x.reads j less;
}

-- no end begins before place k of the bytes, where none begins before `from`, nor in what is behind
none_joined : (bytes : List ℕ) (from to : ℕ) → HasNoEndBefore bytes from → HasNoEndBefore (drop from bytes) to → HasNoEndBefore bytes (from + to)
none_joined bytes from to before behind k low high =
    elim (cases_lt k from) [
      | inl less ↦ before k low less
      | inr more ↦ λ x. behind (k - from) (omega arith) (omega arith) (occurs_behind bytes blank_line from k more x)
    ]

pub none_behind : (bytes : List ℕ) (from : ℕ) → from ≤ length bytes → HasNoEndBefore bytes from → HasNoEnd (drop from bytes) → HasNoEnd bytes
none_behind bytes from within before behind =
    let sum : from + (length (drop from bytes) + 1) ≡ length bytes + 1 = omega (arith, length-drop from bytes) in
    subst (HasNoEndBefore bytes) sum (none_joined bytes from (length (drop from bytes) + 1) before behind)

pub head_at : (bytes : List ℕ) (from at : ℕ) → from ≤ length bytes → HasNoEndBefore bytes from
    → NoneBefore (OccursAt (drop from bytes) blank_line) 0 (length (drop from bytes) + 1) at × OccursAt (drop from bytes) blank_line at
    → IsHeadEnd bytes (from + at + 4)
head_at bytes from at within before found =
    let here : OccursAt bytes blank_line (from + at) = occurs_later bytes blank_line from at within found.1 in
    let fits : from + at + 4 ≤ length bytes = here.fits in
    let back : from + at ≡ (from + at + 4) - 4 = omega arith in
    record {
      low = omega arith;
      within = fits;
      occurs = subst (OccursAt bytes blank_line) back here;
      first = subst (HasNoEndBefore bytes) back (none_joined bytes from at before found.0.before);
    }

-- where no head ends in bytes, none begins its end before their last three, whatever comes behind them
pub none_in_front : (front rest : List ℕ) → HasNoEnd front → HasNoEndBefore (front ++ rest) (length front - 3)
none_in_front front rest none k low high x = none k low (omega arith) (occurs_in_front front rest blank_line k (omega arith) x)

-- reads, one after another
pub Grows-trans : {s t u : LinkState} {a b c : List ℕ} → Grows s t a b → Grows t u b c → Grows s u a c
Grows-trans {a = a} x y = record {
  taken = x.taken ++ y.taken;
  moves = Moves-trans x.moves y.moves;
  output = SameOutput-trans x.output y.output;
  grown = y.grown ∙ ap (λ l. l ++ y.taken) x.grown ∙ append_assoc a x.taken y.taken;
}

-- what hasn't grown longer is the same
pub nothing_read : {s t : LinkState} {a b : List ℕ} → Grows s t a b → length b ≤ length a → a ≡ b
nothing_read {a = a} x le =
    let none : x.taken ≡ [] = nil_from_length x.taken (omega (arith, ap length x.grown, length-append a x.taken)) in
    sym (x.grown ∙ ap (λ l. a ++ l) none ∙ append-nil a)

-- reads so far, of which none failed, and how far what came was searched
pub record SoFar (before now : LinkState) (old pending : List ℕ) (searched : ℕ) : Type 0 where
  pub grows : Grows before now old pending
  pub faults : now.read_faults ≡ before.read_faults
  pub within : searched ≤ length pending
  pub none : HasNoEndBefore pending searched

pub none_read : (s : LinkState) (pending : List ℕ) → SoFar s s pending pending 0
none_read s pending = record {
  grows = record { taken = []; moves = Moves-refl s; output = SameOutput-refl s; grown = sym (append-nil pending) };
  faults = refl;
  within = omega arith;
  none = λ k low high. absurd (omega arith);
}

-- one more read, behind bytes in which no head ends
pub one_more : {E : Type 0} {s t u : LinkState} {old now new : List ℕ} {searched next : ℕ} {result : Result ℕ E}
    → SoFar s t old now searched → HasNoEnd now → (f : Fills t u now new result) → u.read_faults ≡ t.read_faults → next ≤ length now - 3
    → SoFar s u old new next
one_more {now = now} {new = new} {next = next} x none f well far =
    let more : length new ≡ length now + length f.grows.taken = ap length f.grows.grown ∙ length-append now f.grows.taken in
    record {
      grows = Grows-trans x.grows f.grows;
      faults = well ∙ x.faults;
      within = omega arith;
      none = subst (λ l. HasNoEndBefore l next) (sym f.grows.grown) (λ k low high. none_in_front now f.grows.taken none k low (omega arith));
    }

-- what stands behind the first `at` bytes of `new` was read there, and the first `n` of it are pending too
pub filled : {E : Type 0} {s t : LinkState} (old new rest : List ℕ) (len at n : ℕ) → length new ≡ len → take at new ≡ old → length old ≡ at
    → Reads {E = E} s t (Ok n) (drop at new) → Fills {E = E} s t old (take (at + n) (take len (new ++ rest))) (Ok n)
filled {E = E} {s = s} {t = t} old new rest len at n size kept short r =
    let grown : take (at + n) new ≡ old ++ take n (drop at new) = take-add at n new ∙ ap (λ l. l ++ take n (drop at new)) kept in
    let more : length (take n (drop at new)) ≡ n = length-take-le n (drop at new) r.bound in
    let here : Fills {E = E} s t old (take (at + n) new) (Ok n) = record {
      grows = record { taken = take n (drop at new); moves = r.moves; output = r.output; grown = grown };
      faults = r.faults;
      outcome = (ap length grown ∙ length-append old (take n (drop at new)) ∙ ap (λ k. length old + k) more, r.end);
    } in subst (λ l. Fills {E = E} s t old (take (at + n) l) (Ok n)) (sym (take_at new rest len size)) here

pub still_clean : {s t : LinkState} {old pending : List ℕ} {searched : ℕ} → SoFar s t old pending searched → IsClean s → IsClean t
still_clean x clean = clean_still x.grows.output clean
