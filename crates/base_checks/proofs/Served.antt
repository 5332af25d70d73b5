-- What tasks need is held exactly where each digest that one needs is that of a blob.
use Rattle.std.proofs.Common.{◌≡◌, ℕ, ◌&&◌, ◌||◌, not, Bool, true, false, Decides, List, [], ◌∷◌, inl, inr, refl, sym, ◌∙◌, subst, Option, Some, None}
use Rattle.std.specs.List.{list_any, list_all}
use Rattle.std.specs.Option.{option_map_or}
use Rattle.std.proofs.lemmas.Bool.{and_parts, and_from, or_cases, or_left, or_right}
use Rattle.dimensions.specs.Alike.{same}
use Rattle.base_checks.specs.Types.{File, Slice, BlobRow, Attempt, Chunk, Retried, TaskRow}
use Rattle.swarm_model.specs.Finding.{is_final}
use Rattle.swarm_model.specs.Uses.{is_file_of, has_input, is_chunk_of, has_chunk, needs}
use Rattle.pool_laws.proofs.Alike.{same_is, is_same}
use Rattle.base_checks.specs.Needs.{is_held, AreDigestsOf, file_is_held, inputs_are_held, chunk_is_held, output_is_held, lost_output_is_held, needs_are_held, AreServed}

module _ (held : List (List ℕ)) where
  -- each digest that a test names is held
  abbrev AreHeld : (List ℕ → Bool) → Type 0
  AreHeld named = (digest : List ℕ) → named digest ≡ true → is_held held digest ≡ true

  -- the digests of the one and of the other
  both_held : (a b : List ℕ → Bool) (p q : Bool) → Decides p (AreHeld a) → Decides q (AreHeld b) → Decides (p && q) (AreHeld (λ (digest : List ℕ). a digest || b digest))
  both_held a b p q of_a of_b = (there, back)
    where
      there : (p && q) ≡ true → AreHeld (λ (digest : List ℕ). a digest || b digest)
      there e digest t =
          let parts = and_parts p q e in
          elim (or_cases (a digest) (b digest) t) [ inl f ↦ of_a.0 parts.0 digest f | inr f ↦ of_b.0 parts.1 digest f ]

      back : AreHeld (λ (digest : List ℕ). a digest || b digest) → (p && q) ≡ true
      back h =
          and_from p q (of_a.1 (λ digest f. h digest (or_left (a digest) (b digest) f))) (of_b.1 (λ digest f. h digest (or_right (a digest) (b digest) f)))

  module _ {X : Type 0} (named : List ℕ → X → Bool) (test : X → Bool) (each : (x : X) → Decides (test x) (AreHeld (λ (digest : List ℕ). named digest x))) where
    -- those of all elements
    all_held : (xs : List X) → Decides (list_all test xs) (AreHeld (λ (digest : List ℕ). list_any (named digest) xs))
    all_held [] = (λ e digest t. absurd (cc (t)), λ h. refl)
    all_held (x ∷ xs) =
        both_held (λ (digest : List ℕ). named digest x) (λ (digest : List ℕ). list_any (named digest) xs) (test x) (list_all test xs) (each x) (all_held xs)

    -- those of the value, where there is one
    some_held : (o : Option X) → Decides (option_map_or test o true) (AreHeld (λ (digest : List ℕ). option_map_or (named digest) o false))
    some_held None = (λ e digest t. absurd (cc (t)), λ h. refl)
    some_held (Some x) = each x

  -- one digest
  one_held : (own : List ℕ) → Decides (is_held held own) (AreHeld (λ (digest : List ℕ). same own digest))
  one_held own = (
    λ e digest t. subst (λ (d : List ℕ). is_held held d ≡ true) (same_is own digest t) e,
    λ h. h own (is_same own own refl),
  )

  -- what has ended needs none
  unless_final : (final rest : Bool) (named : List ℕ → Bool) → Decides rest (AreHeld named) → Decides (final || rest) (AreHeld (λ (digest : List ℕ). not final && named digest))
  unless_final true rest named h = (λ e digest t. absurd (cc (t)), λ k. refl)
  unless_final false rest named h = h

  inputs_held : (slice : Slice) → Decides (inputs_are_held held slice) (AreHeld (λ (digest : List ℕ). has_input digest slice))
  inputs_held slice = all_held is_file_of (file_is_held held) (λ (file : File). one_held file.digest) slice.properties.inputs

  output_held : (a : Attempt) → Decides (output_is_held held a) (AreHeld (λ (digest : List ℕ). has_chunk digest a))
  output_held a = all_held is_chunk_of (chunk_is_held held) (λ (chunk : Chunk). one_held chunk.digest) a.chunks

  abbrev has_lost_chunk : List ℕ → Retried → Bool
  has_lost_chunk digest lost = has_chunk digest lost.attempt

  lost_output_held : (lost : Retried) → Decides (lost_output_is_held held lost) (AreHeld (λ (digest : List ℕ). has_lost_chunk digest lost))
  lost_output_held lost = output_held lost.attempt

  needs_held : (x : TaskRow) → Decides (needs_are_held held x) (AreHeld (λ (digest : List ℕ). needs digest x))
  needs_held x =
      let slices = x.request.task_slices in
      let of_inputs : Bool = list_all (inputs_are_held held) slices in
      let of_output : Bool = option_map_or (output_is_held held) x.attempt true in
      let of_lost : Bool = option_map_or (lost_output_is_held held) x.retried true in
      let input = λ (digest : List ℕ). list_any (has_input digest) slices in
      let output = λ (digest : List ℕ). option_map_or (has_chunk digest) x.attempt false in
      let lost = λ (digest : List ℕ). option_map_or (has_lost_chunk digest) x.retried false in
      unless_final (is_final x.state) (of_inputs && (of_output && of_lost)) (λ (digest : List ℕ). input digest || (output digest || lost digest))
      (both_held input (λ (digest : List ℕ). output digest || lost digest) of_inputs (of_output && of_lost)
      (all_held has_input (inputs_are_held held) inputs_held slices)
      (both_held output lost of_output of_lost
      (some_held has_chunk (output_is_held held) output_held x.attempt)
      (some_held has_lost_chunk (lost_output_is_held held) lost_output_held x.retried)))

  -- what is told of the digests that are held is told of the blobs
  pub served_by : (tasks : List TaskRow) (blobs : List BlobRow) → AreDigestsOf blobs held → Decides (list_all (needs_are_held held) tasks) (AreServed tasks blobs)
  served_by tasks blobs are =
      let of_held = all_held needs (needs_are_held held) needs_held tasks in
      (λ e digest t. sym (are digest) ∙ of_held.0 e digest t, λ served. of_held.1 (λ digest t. are digest ∙ served digest t))
