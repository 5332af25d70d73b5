-- The source of a slice is the newest, and the first slice that has one takes it.
use Rattle.std.proofs.Common.{◌≡◌, ℕ, suc, ◌+◌, ◌<◌, ◌≤◌, ◌⊎◌, inl, inr, List, [], ◌∷◌, refl, ap, subst, cond, true, false, Bool, Option, Some, None, IfSome, arith, take}
use Rattle.std.specs.Prelude.{MatchOption, slice_get}
use Rattle.std.specs.List.{All, Contains, fold}
use Rattle.std.specs.Option.{option_map}
use Rattle.std.proofs.lemmas.Option.{same_Some}
use Rattle.std.proofs.lemmas.List.Elements.{All-nil, All-cons, All-contains_itself}
use Rattle.dimensions.specs.Choosing.{◌or_else◌}
use Rattle.pool_laws.specs.Types.{Slice, TaskRow, PoolState, Reuse}
use Rattle.swarm_model.specs.Numbers.{AreNumbered}
use Rattle.swarm_model.specs.Effects.{no_of_task}
use Rattle.swarm_model.specs.Reuse.{newer, newest_source, is_source, source_for, at_slice, reuse_from, reuse}
use Rattle.swarm_model.specs.ReuseLaw.{IsNewestSource, SourceIsNewest, IsFirstReuse, ReuseIsFirst}
use Rattle.pool_laws.proofs.Lists.{Among, here, later, Found, each, all}
use Rattle.pool_laws.proofs.Reusing.{newest_is}

-- ---- the newest source

module _ (test : TaskRow → Bool) where
  -- no passing row of a list has a greater number, nor has the best so far
  record IsNewest (best : Option TaskRow) (xs : List TaskRow) (r : TaskRow) : Type 0 where
    best_so_far : IfSome best (λ b. b.no ≤ r.no)
    others : (y : TaskRow) → Among y xs → test y ≡ true → y.no ≤ r.no

  below_more : (best : Option TaskRow) (n : ℕ) → IfSome best (λ b. b.no < n) → IfSome best (λ b. b.no < n + 1)
  below_more None n h = tt
  below_more (Some b) n h = omega (arith, h)

  below_some : (best : Option TaskRow) (n m : ℕ) → IfSome best (λ b. b.no < n) → n ≤ m → IfSome best (λ b. b.no ≤ m)
  below_some None n m h l = tt
  below_some (Some b) n m h l = omega (arith, h, l)

  newest_last : (best : Option TaskRow) (n : ℕ) (xs : List TaskRow) (r : TaskRow) → AreNumbered no_of_task n xs → IfSome best (λ b. b.no < n) → fold (newer test) best xs ≡ Some r → IsNewest best xs r
  newest_last None n [] r c low e = absurd (cc (e))
  newest_last (Some b) n [] r c low e =
      let q : b.no ≡ r.no = ap (λ (x : TaskRow). x.no) (same_Some _ _ e) in record { best_so_far = omega (arith, q); others = λ y a t. elim a [ ] }
  newest_last best n (x ∷ xs) r c low e = by_test (test x) refl e (λ o. newest_last o (n + 1) xs r c.1)
    where
      both : (test x ≡ true → x.no ≤ r.no) → ((y : TaskRow) → Among y xs → test y ≡ true → y.no ≤ r.no) → (y : TaskRow) → Among y (x ∷ xs) → test y ≡ true → y.no ≤ r.no
      both p q y here = p
      both p q y (later a) = q y a

      by_test : (b : Bool) → test x ≡ b → fold (newer test) (cond b (Some x) best) xs ≡ Some r →
          ((o : Option TaskRow) → IfSome o (λ b. b.no < n + 1) → fold (newer test) o xs ≡ Some r → IsNewest o xs r) → IsNewest best (x ∷ xs) r
      by_test true t g rest =
          (let at = c.0 in
          let f = rest (Some x) (omega (arith, at)) g in
          let low_x : x.no ≤ r.no = f.best_so_far in
          record { best_so_far = below_some best n r.no low (omega (arith, at, low_x)); others = both (λ p. low_x) f.others })
      by_test false t g rest =
          (let f = rest best (below_more best n low) g in
          record { best_so_far = f.best_so_far; others = both (λ p. absurd (cc (p, t))) f.others })

  -- where none is found, none passes
  none_passes : (best : Option TaskRow) (xs : List TaskRow) → fold (newer test) best xs ≡ None → (best ≡ None) × ((y : TaskRow) → Among y xs → test y ≡ false)
  none_passes best [] e = (e, λ y a. elim a [ ])
  none_passes best (x ∷ xs) e = by_test (test x) refl (none_passes (cond (test x) (Some x) best) xs e)
    where
      both : test x ≡ false → ((y : TaskRow) → Among y xs → test y ≡ false) → (y : TaskRow) → Among y (x ∷ xs) → test y ≡ false
      both p q y here = p
      both p q y (later a) = q y a

      by_test : (b : Bool) → test x ≡ b → (cond b (Some x) best ≡ None) × ((y : TaskRow) → Among y xs → test y ≡ false) → (best ≡ None) × ((y : TaskRow) → Among y (x ∷ xs) → test y ≡ false)
      by_test true t f = absurd (let g = f.0 in cc (g))
      by_test false t f = (f.0, both t f.1)

pub source_is_newest : SourceIsNewest
source_is_newest s moment digest c = by_found (newest_source s moment digest) refl
  where
    test : TaskRow → Bool
    test = is_source s.settings.reuse_age_secs moment digest

    of_found : (r : TaskRow) → (None ≡ Some r) ⊎ Found test s.tasks r → Found test s.tasks r
    of_found r (inl g) = absurd (cc (g))
    of_found r (inr f) = f

    by_found : (o : Option TaskRow) → newest_source s moment digest ≡ o →
        MatchOption o (All (λ task. is_source s.settings.reuse_age_secs moment digest task ≡ false) s.tasks) (IsNewestSource s moment digest)
    by_found None e = all (λ (task : TaskRow). is_source s.settings.reuse_age_secs moment digest task ≡ false) s.tasks (none_passes test None s.tasks e).1
    by_found (Some r) e =
        (let f : Found test s.tasks r = of_found r (newest_is test None s.tasks r e) in
        record {
          of_pool = each (Contains s.tasks) s.tasks (All-contains_itself s.tasks) r f.among;
          is = f.passes;
          newest = all (λ (task : TaskRow). test task ≡ true → task.no ≤ r.no) s.tasks (newest_last test None 1 s.tasks r c tt e).others;
        })

-- ---- the first slice that has a source

module _ (s : PoolState) (moment : ℕ) where
  -- what a search finds that begins at a place
  record IsFirstFrom (place : ℕ) (slices : List Slice) (found : Reuse) : Type 0 where
    index : ℕ
    placed : found.slice ≡ place + index
    slice : Slice
    is_slice : slice_get slices index ≡ Some slice
    source : TaskRow
    has_source : source_for s moment slice ≡ Some source
    number : source.no ≡ found.source
    before : All (λ slice. source_for s moment slice ≡ None) (take index slices)

  first_from : (place : ℕ) (slices : List Slice) → MatchOption (reuse_from s moment place slices) (All (λ slice. source_for s moment slice ≡ None) slices) (IsFirstFrom place slices)
  first_from place [] = All-nil (λ (slice : Slice). source_for s moment slice ≡ None)
  first_from place (x ∷ xs) = by_source (source_for s moment x) refl (reuse_from s moment (place + 1) xs) (first_from (place + 1) xs)
    where
      by_rest : source_for s moment x ≡ None → (r : Option Reuse) → MatchOption r (All (λ slice. source_for s moment slice ≡ None) xs) (IsFirstFrom (place + 1) xs) →
          MatchOption r (All (λ slice. source_for s moment slice ≡ None) (x ∷ xs)) (IsFirstFrom place (x ∷ xs))
      by_rest e None rest = All-cons (λ (slice : Slice). source_for s moment slice ≡ None) x xs e rest
      by_rest e (Some r) f =
          (let placed = f.placed in
          record {
            index = suc f.index;
            placed = omega (arith, placed);
            slice = f.slice;
            is_slice = f.is_slice;
            source = f.source;
            has_source = f.has_source;
            number = f.number;
            before = All-cons (λ (slice : Slice). source_for s moment slice ≡ None) x (take f.index xs) e f.before;
          })

      by_source : (o : Option TaskRow) → source_for s moment x ≡ o → (r : Option Reuse) → MatchOption r (All (λ slice. source_for s moment slice ≡ None) xs) (IsFirstFrom (place + 1) xs) →
          MatchOption (option_map (at_slice place) o or_else r) (All (λ slice. source_for s moment slice ≡ None) (x ∷ xs)) (IsFirstFrom place (x ∷ xs))
      by_source None e r rest = by_rest e r rest
      by_source (Some y) e r rest =
          record { index = 0; placed = omega arith; slice = x; is_slice = refl; source = y; has_source = e; number = refl; before = All-nil (λ (slice : Slice). source_for s moment slice ≡ None) }

pub reuse_is_first : ReuseIsFirst
reuse_is_first s moment slices = by_found (reuse s moment slices) (first_from s moment 0 slices)
  where
    by_found : (o : Option Reuse) → MatchOption o (All (λ slice. source_for s moment slice ≡ None) slices) (IsFirstFrom s moment 0 slices) →
        MatchOption o (All (λ slice. source_for s moment slice ≡ None) slices) (IsFirstReuse s moment slices)
    by_found None rest = rest
    by_found (Some r) f =
        (let placed = f.placed in
        let at : f.index ≡ r.slice = omega (arith, placed) in
        record {
          slice = f.slice;
          is_slice = subst (λ (i : ℕ). slice_get slices i ≡ Some f.slice) at f.is_slice;
          source = f.source;
          is_source = f.has_source;
          is_number = f.number;
          none_before = subst (λ (i : ℕ). All (λ (before : Slice). source_for s moment before ≡ None) (take i slices)) at f.before;
        })
