-- The last row of a hash is the newest source, where it is young enough.
use Rattle.std.proofs.Common.{◌≡◌, ℕ, ◌+◌, ◌<◌, ◌≤◌, ◌&&◌, Bool, true, false, cond, List, [], ◌∷◌, ◌⊎◌, inl, inr, refl, sym, ap, ◌∙◌, subst, arith, Option, Some, None, IfSome}
use Rattle.std.specs.List.{fold}
use Rattle.std.specs.Option.{option_map, option_and_then}
use Rattle.std.proofs.lemmas.Bool.{cond-true, cond-false, cond_both, false_from_ne_true, ltb-true, lt-ltb}
use Rattle.std.proofs.lemmas.Option.{same_Some}
use Rattle.index_laws.specs.Types.{TaskRow, PoolState}
use Rattle.swarm_model.specs.Finding.{task_of}
use Rattle.swarm_model.specs.Reuse.{ended_well, is_young, ran_hash, is_source, newer}
use Rattle.swarm_model.specs.Effects.{no_of_task}
use Rattle.swarm_model.specs.Soundness.{IsSound}
use Rattle.pool_laws.proofs.Lists.{Among, here, later}
use Rattle.pool_laws.proofs.Rows.{find_task}
use Rattle.swarm_model.specs.BaseRules.{AreCreatedInOrder}
use Rattle.pool_laws.proofs.BaseOrder.{first_in_order, rest_in_order}
use Rattle.index_laws.specs.TaskSources.{has_source_hash, last_source, if_young, SourceIsFound}

-- two of three tests first
regroup : (a b c : Bool) → (a && (b && c)) ≡ ((a && c) && b)
regroup false b c = refl
regroup true true true = refl
regroup true true false = refl
regroup true false true = refl
regroup true false false = refl

module _ (test both young : TaskRow → Bool) (is : (x : TaskRow) → both x ≡ (test x && young x)) (lasts : (x y : TaskRow) → x.created ≤ y.created → young x ≡ true → young y ≡ true) where
  abbrev if_so : TaskRow → Option TaskRow
  if_so x = cond (young x) (Some x) None

  -- where a row isn't young, no earlier one is
  none_young : (best : Option TaskRow) (x : TaskRow) → young x ≡ false → IfSome best (λ b. b.created ≤ x.created) → option_and_then if_so best ≡ None
  none_young None x f low = refl
  none_young (Some b) x f low = cond-false (young b) (Some b) None (false_from_ne_true (young b) (λ t. let later_is = lasts b x low t in cc (later_is, f)))

  step : (best : Option TaskRow) (x : TaskRow) → IfSome best (λ b. b.created ≤ x.created) → option_and_then if_so (newer test best x) ≡ newer both (option_and_then if_so best) x
  step best x low = by_tests (test x) (young x) refl ∙ sym (ap (λ (c : Bool). cond c (Some x) (option_and_then if_so best)) (is x))
    where
      by_tests : (c d : Bool) → young x ≡ d → option_and_then if_so (cond c (Some x) best) ≡ cond (c && d) (Some x) (option_and_then if_so best)
      by_tests true true e = cond-true (young x) (Some x) None e
      by_tests true false e = cond-false (young x) (Some x) None e ∙ sym (none_young best x e low)
      by_tests false d e = refl

  no_later : (best : Option TaskRow) (x : TaskRow) (xs : List TaskRow) → IfSome best (λ b. (y : TaskRow) → Among y (x ∷ xs) → b.created ≤ y.created) → IfSome best (λ b. b.created ≤ x.created)
  no_later None x xs low = tt
  no_later (Some b) x xs low = low x here

  low_next : (best : Option TaskRow) (x : TaskRow) (xs : List TaskRow) (c : Bool) → IfSome best (λ b. (y : TaskRow) → Among y (x ∷ xs) → b.created ≤ y.created) → ((y : TaskRow) → Among y xs → x.created ≤ y.created) →
      IfSome (cond c (Some x) best) (λ b. (y : TaskRow) → Among y xs → b.created ≤ y.created)
  low_next best x xs true low first = first
  low_next None x xs false low first = tt
  low_next (Some b) x xs false low first = λ y a. low y (later a)

  -- the last row that passes is the last that passes and is young, where it is young
  last_young : (best : Option TaskRow) (xs : List TaskRow) → AreCreatedInOrder xs → IfSome best (λ b. (y : TaskRow) → Among y xs → b.created ≤ y.created) →
      option_and_then if_so (fold (newer test) best xs) ≡ fold (newer both) (option_and_then if_so best) xs
  last_young best [] order low = refl
  last_young best (x ∷ xs) order low =
      last_young (newer test best x) xs (rest_in_order x xs order) (low_next best x xs (test x) low (first_in_order x xs order))
      ∙ ap (λ (o : Option TaskRow). fold (newer both) o xs) (step best x (no_later best x xs low))

-- a row that was created later is young too
young_lasts : (age moment : ℕ) (x y : TaskRow) → x.created ≤ y.created → is_young age moment x ≡ true → is_young age moment y ≡ true
young_lasts age moment x y low t = let is : moment < x.created + age = ltb-true moment (x.created + age) t in lt-ltb moment (y.created + age) (omega (arith, is, low))

-- the last row that passes is one of the rows
last_among : (test : TaskRow → Bool) (best : Option TaskRow) (xs : List TaskRow) (r : TaskRow) → fold (newer test) best xs ≡ Some r → (best ≡ Some r) ⊎ Among r xs
last_among test best [] r e = inl e
last_among test best (x ∷ xs) r e = elim (last_among test (newer test best x) xs r e) [
  | inl g ↦ cond_both (test x) (Some x) best (λ (o : Option TaskRow). o ≡ Some r → (best ≡ Some r) ⊎ Among r (x ∷ xs)) (λ t h. inr (subst (λ (z : TaskRow). Among z (x ∷ xs)) (same_Some _ _ h) here)) (λ f h. inl h) g
  | inr a ↦ inr (later a)
]

-- the number of the last row finds it
row_of_last : (s : PoolState) → IsSound s → (digest : List ℕ) → option_and_then (task_of s) (option_map no_of_task (last_source s.tasks digest)) ≡ last_source s.tasks digest
row_of_last s o digest = by_found (last_source s.tasks digest) refl
  where
    of_found : (r : TaskRow) → (None ≡ Some r) ⊎ Among r s.tasks → task_of s r.no ≡ Some r
    of_found r (inl g) = absurd (cc (g))
    of_found r (inr a) = find_task s o r r.no a refl

    by_found : (r : Option TaskRow) → last_source s.tasks digest ≡ r → option_and_then (task_of s) (option_map no_of_task r) ≡ r
    by_found None e = refl
    by_found (Some r) e = of_found r (last_among (has_source_hash digest) None s.tasks r e)

pub source_is_found : SourceIsFound
source_is_found s o order links are digest moment =
    ap (λ (n : Option ℕ). option_and_then (if_young s moment) (option_and_then (task_of s) n)) (are.each digest)
    ∙ ap (option_and_then (if_young s moment)) (row_of_last s o digest)
    ∙ last_young (has_source_hash digest) (is_source s.settings.reuse_age_secs moment digest) (is_young s.settings.reuse_age_secs moment)
    (λ x. regroup (ended_well x) (is_young s.settings.reuse_age_secs moment x) (ran_hash digest x)) (young_lasts s.settings.reuse_age_secs moment) None s.tasks order tt
