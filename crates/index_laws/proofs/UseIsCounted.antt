-- A blob is used exactly where the count of its uses is not 0.
use Rattle.std.proofs.Common.{◌≡◌, ℕ, ◌+◌, ◌<◌, ◌||◌, ◌&&◌, not, Bool, true, false, cond, List, [], ◌∷◌, refl, sym, ap, ◌∙◌, arith, Option, Some, None}
use Rattle.std.specs.Prelude.{nat_lt}
use Rattle.std.specs.List.{list_any, count_by, sum_by}
use Rattle.std.specs.Option.{option_map_or}
use Rattle.std.proofs.lemmas.Bool.{lt-ltb, ltb-true, ltb-false}
use Rattle.std.proofs.lemmas.List.Sums.{sum_by-cons}
use Rattle.index_laws.specs.Types.{Attempt, Retried, TaskRow}
use Rattle.swarm_model.specs.Finding.{is_final}
use Rattle.swarm_model.specs.Uses.{is_file_of, has_input, is_chunk_of, has_chunk, needs}
use Rattle.index_laws.specs.TaskUses.{inputs_with, uses_of_slices, chunks_with, times_named, uses_of, UseIsCounted}

-- a sum is not 0 where one of its parts is not
sum_above : (a b : ℕ) → (nat_lt 0 a || nat_lt 0 b) ≡ nat_lt 0 (a + b)
sum_above a b = by_tests (nat_lt 0 a) (nat_lt 0 b) refl refl
  where
    by_tests : (c d : Bool) → nat_lt 0 a ≡ c → nat_lt 0 b ≡ d → (c || d) ≡ nat_lt 0 (a + b)
    by_tests true d e f = (let is : 0 < a = ltb-true 0 a e in sym (lt-ltb 0 (a + b) (omega (arith, is))))
    by_tests false true e f = (let is : 0 < b = ltb-true 0 b f in sym (lt-ltb 0 (a + b) (omega (arith, is))))
    by_tests false false e f = (let low = ltb-false 0 a e in let less = ltb-false 0 b f in let none : a + b ≡ 0 = omega (arith, low, less) in sym (ap (nat_lt 0) none))

-- some element passes where the sum of what each adds is not 0
any_counted : {X : Type 0} (test : X → Bool) (weight : X → ℕ) → ((x : X) → test x ≡ nat_lt 0 (weight x)) → (xs : List X) → list_any test xs ≡ nat_lt 0 (sum_by weight xs)
any_counted test weight is [] = refl
any_counted test weight is (x ∷ xs) =
    ap (λ (c : Bool). c || list_any test xs) (is x)
    ∙ ap (λ (c : Bool). nat_lt 0 (weight x) || c) (any_counted test weight is xs)
    ∙ sum_above (weight x) (sum_by weight xs)
    ∙ sym (ap (nat_lt 0) (sum_by-cons weight x xs))

one_above : (b : Bool) → b ≡ nat_lt 0 (cond b 1 0)
one_above true = refl
one_above false = refl

-- so a count is not 0 where some element passes
any_passes : {X : Type 0} (test : X → Bool) (xs : List X) → list_any test xs ≡ nat_lt 0 (count_by test xs)
any_passes {X = X} test xs = any_counted test (λ (x : X). cond (test x) 1 0) (λ x. one_above (test x)) xs

-- the output of a task's runs has a chunk of the digest
abbrev has_output : List ℕ → TaskRow → Bool
has_output digest x = option_map_or (has_chunk digest) x.attempt false || option_map_or (λ (lost : Retried). has_chunk digest lost.attempt) x.retried false

-- so many
abbrev output_with : List ℕ → TaskRow → ℕ
output_with digest x = option_map_or (chunks_with digest) x.attempt 0 + option_map_or (λ (lost : Retried). chunks_with digest lost.attempt) x.retried 0

output_counted : (digest : List ℕ) (x : TaskRow) → has_output digest x ≡ nat_lt 0 (output_with digest x)
output_counted digest x =
    ap (λ (c : Bool). c || option_map_or (λ (lost : Retried). has_chunk digest lost.attempt) x.retried false) (of_last x.attempt)
    ∙ ap (λ (c : Bool). nat_lt 0 (option_map_or (chunks_with digest) x.attempt 0) || c) (of_lost x.retried)
    ∙ sum_above (option_map_or (chunks_with digest) x.attempt 0) (option_map_or (λ (lost : Retried). chunks_with digest lost.attempt) x.retried 0)
  where
    of_last : (r : Option Attempt) → option_map_or (has_chunk digest) r false ≡ nat_lt 0 (option_map_or (chunks_with digest) r 0)
    of_last None = refl
    of_last (Some attempt) = any_passes (is_chunk_of digest) attempt.chunks

    of_lost : (r : Option Retried) → option_map_or (λ (lost : Retried). has_chunk digest lost.attempt) r false ≡ nat_lt 0 (option_map_or (λ (lost : Retried). chunks_with digest lost.attempt) r 0)
    of_lost None = refl
    of_lost (Some lost) = any_passes (is_chunk_of digest) lost.attempt.chunks

need_counted : (digest : List ℕ) (x : TaskRow) → needs digest x ≡ nat_lt 0 (uses_of digest x)
need_counted digest x = by_final (is_final x.state)
  where
    by_final : (c : Bool) → (not c && (list_any (has_input digest) x.request.task_slices || has_output digest x)) ≡ nat_lt 0 (cond c 0 (times_named digest x))
    by_final true = refl
    by_final false =
        ap (λ (c : Bool). c || has_output digest x)
        (any_counted (has_input digest) (inputs_with digest) (λ slice. any_passes (is_file_of digest) slice.properties.inputs) x.request.task_slices)
        ∙ ap (λ (c : Bool). nat_lt 0 (uses_of_slices digest x.request.task_slices) || c) (output_counted digest x)
        ∙ sum_above (uses_of_slices digest x.request.task_slices) (output_with digest x)

pub use_is_counted : UseIsCounted
use_is_counted s digest = any_counted (needs digest) (uses_of digest) (need_counted digest) s.tasks
