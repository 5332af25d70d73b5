-- Answers that are taken by another call than a look.
use Rattle.std.proofs.Common.{◌≡◌, ℕ, zero, suc, ◌+◌, ◌<◌, Some, List, [], ◌∷◌, ◌++◌, length, drop, refl, ap, sym, ◌∙◌, arith}
use Rattle.std.proofs.Math.Seq.{drop-length}
use Rattle.runners.specs.declared.answer.RunnerAnswer.{RunnerAnswer}
use Rattle.runners.specs.declared.answer.RunnerAnswer.TheVariants as answer
use Rattle.runners.specs.declared.call.RunnerCall.{RunnerCall}
use Rattle.runners.specs.Answers.{first_taken, as_answer, answer_for, as_done, as_file, as_sizes}
use Rattle.runners.specs.InMemory.{with_output, unless_output}
use Rattle.runners.specs.Calls.{TakesAnswer}

-- an output of which some is left to be shown
pub taken_output : (n : ℕ) (xs : List ℕ) (rest : List RunnerAnswer) → n < length xs → first_taken unless_output (with_output (drop n xs) rest) ≡ (answer.Failure, rest)
taken_output zero [] rest h = absurd (omega arith)
taken_output (suc n) [] rest h = absurd (omega arith)
taken_output zero (x ∷ xs) rest h = refl
taken_output (suc n) (x ∷ xs) rest h = taken_output n xs rest (omega arith)

-- such an output is one answer of those that are left
pub count_left : (n : ℕ) (xs : List ℕ) (rest : List RunnerAnswer) → n < length xs → length (with_output (drop n xs) rest) ≡ length rest + 1
count_left zero [] rest h = absurd (omega arith)
count_left (suc n) [] rest h = absurd (omega arith)
count_left zero (x ∷ xs) rest h = omega arith
count_left (suc n) (x ∷ xs) rest h = count_left n xs rest (omega arith)

module _ (taken : RunnerAnswer → List RunnerAnswer → RunnerAnswer × List RunnerAnswer)
    (output : (bytes : List ℕ) (rest : List RunnerAnswer) → taken (answer.Output bytes) rest ≡ (answer.Failure, rest))
    (failure : (rest : List RunnerAnswer) → taken answer.Failure rest ≡ (answer.Failure, rest)) where
  taken_pair : (p q : RunnerAnswer × List RunnerAnswer) → p ≡ q → taken p.0 p.1 ≡ taken q.0 q.1
  taken_pair p q h = ap (λ (x : RunnerAnswer × List RunnerAnswer). taken x.0 x.1) h

  -- where an output is a failure, the first answer is taken alike whether or not outputs are told apart before
  taken_as : (left new : List RunnerAnswer) (a : RunnerAnswer) → first_taken unless_output left ≡ (a, new) → first_taken taken left ≡ taken a new
  taken_as [] new a h = sym (failure []) ∙ taken_pair (answer.Failure, []) (a, new) h
  taken_as (answer.Output bytes ∷ rest) new a h = output bytes rest ∙ sym (failure rest) ∙ taken_pair (answer.Failure, rest) (a, new) h
  taken_as (b ∷ rest) new a h = taken_pair (b, rest) (a, new) h

pub taken_as_done : (left new : List RunnerAnswer) (a : RunnerAnswer) → first_taken unless_output left ≡ (a, new) → first_taken as_done left ≡ as_done a new
taken_as_done = taken_as as_done (λ bytes rest. refl) (λ rest. refl)

pub taken_as_file : (left new : List RunnerAnswer) (a : RunnerAnswer) → first_taken unless_output left ≡ (a, new) → first_taken as_file left ≡ as_file a new
taken_as_file = taken_as as_file (λ bytes rest. refl) (λ rest. refl)

pub taken_as_sizes : (left new : List RunnerAnswer) (a : RunnerAnswer) (n : ℕ) → first_taken unless_output left ≡ (a, new) → first_taken (as_sizes n) left ≡ as_sizes n a new
taken_as_sizes left new a n h = taken_as (as_sizes n) (λ bytes rest. refl) (λ rest. refl) left new a h

-- the answer to a call that answers nothing more
answer_as_done : (call : RunnerCall) (left : List RunnerAnswer) → ((a : RunnerAnswer) (rest : List RunnerAnswer) → as_answer call a rest ≡ as_done a rest)
    → answer_for call left ≡ first_taken as_done left
answer_as_done call [] plain = refl
answer_as_done call (a ∷ rest) plain = plain a rest

-- such a call was told, and took its answer; of the output that was shown, nothing is left
pub takes_done : (call : RunnerCall) → ((a : RunnerAnswer) (rest : List RunnerAnswer) → as_answer call a rest ≡ as_done a rest)
    → (made calls : List RunnerCall) → calls ≡ made ++ call ∷ []
    → (output lent : List ℕ) → lent ≡ output
    → (before after : ℕ) (answers rest : List RunnerAnswer) (a : RunnerAnswer) → first_taken as_done (with_output (drop before lent) answers) ≡ (a, rest) → after ≡ length lent
    → (f g : ℕ) → TakesAnswer (record { calls = Some made; answers = Some (with_output (drop before output) answers); faults = f }) (record { calls = Some calls; answers = Some (with_output (drop after output) rest); faults = g }) call a
takes_done call plain made calls told output lent same before after answers rest a taken done f g = record {
  calls = ap (λ (cs : List RunnerCall). Some cs) told;
  answers = (
    rest,
    answer_as_done call (with_output (drop before output) answers) plain ∙ ap (λ (xs : List ℕ). first_taken as_done (with_output (drop before xs) answers)) (sym same) ∙ taken,
    ap (λ (k : ℕ). Some (with_output (drop k output) rest)) (done ∙ ap length same) ∙ ap (λ (xs : List ℕ). Some (with_output xs rest)) (drop-length output),
  );
}
