-- No two queues have the same set, also where one of them changes.
use Rattle.std.proofs.Common.{◌≡◌, ◌≢◌, ℕ, ◌<◌, List, ◌⊎◌, inl, inr, length, sym, ap, ◌∙◌, arith, Result, Ok, Err}
use Rattle.std.specs.Prelude.{OnOk, OnErr}
use Rattle.std.proofs.lemmas.Bool.{cases_eq}
use Rattle.dim_queue.specs.declared.queue_set.QueueSet.{QueueSet}
use Rattle.dim_queue.specs.Plain.{QueueState, queue_at, AreApart}
use Rattle.dim_queue.specs.QueueList.{LackSet, SameOthers}

pub on_both : {T E P Q : Type 0} (r : Result T E) → OnOk r P → OnErr r Q → P ⊎ Q
on_both (Ok x) p q = inl p
on_both (Err e) p q = inr q

module _ (old new : List QueueState) where
  pub apart_same : length new ≡ length old → ((k : ℕ) → (queue_at new k).set ≡ (queue_at old k).set) → AreApart old → AreApart new
  apart_same size same apart i j low high e = apart i j (omega (arith, size)) (omega (arith, size)) (sym (same i) ∙ e ∙ same j)

  -- only tasks change
  pub apart_others : (at : ℕ) → length new ≡ length old → SameOthers at old new → AreApart old → AreApart new
  apart_others at size same apart = apart_same size same_set apart
    where
      same_set : (k : ℕ) → (queue_at new k).set ≡ (queue_at old k).set
      same_set k = elim (cases_eq k at) [
        | inl e ↦ ap (λ (i : ℕ). (queue_at new i).set) e ∙ same.set ∙ ap (λ (i : ℕ). (queue_at old i).set) (sym e)
        | inr ne ↦ ap (λ (l : QueueState). l.set) (same.other k ne)
      ]

  -- one place has a set that no queue had
  module _ (at : ℕ) (set : QueueSet) (others : (k : ℕ) → k < length new → k ≢ at → (k < length old) × ((queue_at new k).set ≡ (queue_at old k).set))
      (is : (queue_at new at).set ≡ set) (lack : LackSet set old (length old)) (apart : AreApart old) where
    other : (k : ℕ) → k < length new → k ≢ at → (queue_at new k).set ≢ set
    other k low ne e = let two = others k low ne in lack k two.0 (sym two.1 ∙ e)

    pub apart_one : AreApart new
    apart_one i j low high e = elim (cases_eq i at) [
      | inl first ↦ elim (cases_eq j at) [
        | inl second ↦ first ∙ sym second
        | inr ne ↦ absurd (other j high ne (sym e ∙ ap (λ (k : ℕ). (queue_at new k).set) first ∙ is))
      ]
      | inr ne ↦ elim (cases_eq j at) [
        | inl second ↦ absurd (other i low ne (e ∙ ap (λ (k : ℕ). (queue_at new k).set) second ∙ is))
        | inr off ↦
            let a = others i low ne in
            let b = others j high off in
            apart i j a.0 b.0 (sym a.1 ∙ e ∙ b.1)
      ]
    ]
