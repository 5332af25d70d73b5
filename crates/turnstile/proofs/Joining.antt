-- The table at its start and its end, and how passes are made and joined.
use Rattle.std.proofs.Common.{◌^◌, ◌≡◌, ◌≢◌, ◌⊎◌, ℕ, zero, suc, ◌+◌, ◌<◌, ◌==◌, true, false, List, [], ◌∷◌, ◌++◌, length, set, length-append, append-nil, refl, sym, ap, ◌∙◌, subst, ⊎_elim, inl, inr, arith, if◌then◌else◌}
use Rattle.std.specs.Prelude.{min}
use Rattle.std.proofs.lemmas.Bool.Decides.{nat_tests}
use mathlib.Core.Option.{Option, some, some-ne-none, some-injective}
use mathlib.Core.Logic.{dite}
use native.Mathlib.Decide.{ℕ_discrete, dec_le}
use lib.ListN.{get_elem?}
use Rattle.atomic_table.specs.Table.{State, opening, Splits, Joins, Final, Seen}
use Rattle.atomic_table.proofs.Lists.{at_set, set_else, at_longer}
use Rattle.turnstile.specs.declared.view.View.{View}
use Rattle.turnstile.specs.Numbers.{times, once_below, own, longer_of, Adds}
use Rattle.turnstile.specs.Rule.{IsConsistent, IsSound, AreApart, EachAndAnyTwo, NobodyServes, first_view}
use Rattle.turnstile.specs.Steps.{with_one_more, new_pass, joined, spent}
use Rattle.turnstile.proofs.Totals.{total_at, total_two, total_set, total_snoc, total_only, times_append, times_length, times_one, once_more, once_at, never_at}
use Rattle.turnstile.proofs.Logs.{begins_itself, begins_trans, longest, between, own_rest, none_at_all, by_listed}
use Rattle.turnstile.proofs.Views.{set_apart, one_value, each_set, each_snoc, nobody_before}
use Rattle.turnstile.proofs.Keeps.{off, not_true, apart_from}

one_zero : (a b : ℕ) → min a b ≡ 0 → (a ≡ 0) ⊎ (b ≡ 0)
one_zero a b e = dite (ℕ_discrete a 0) (λ yes. inl yes) (λ no. inr (omega (arith, e, no)))

is_zero : (a : ℕ) → (a == 0) ≡ true → a ≡ 0
is_zero a e = grind (arith, nat_tests)

not_zero : (a : ℕ) → (a == 0) ≡ false → a ≢ 0
not_zero a e = grind (arith, nat_tests)

module _ {V I : Type 0} (log : V → List I) (by : I → ℕ) (Same : V → Type 0) where
  pub opens : (x : V) (n : ℕ) → n ≡ length (log x) → length (log x) < 2 ^ 32 → Same x → IsConsistent log by Same (log x) (opening (0 ∷ 0 ∷ n ∷ []) (x ∷ []) (first_view x (log x)))
  opens x n count short kept = record {
    next = 0;
    now = 0;
    all = log x;
    made = 1;
    place = some x;
    words = ap (λ k. 0 ∷ 0 ∷ k ∷ []) count;
    homes = refl;
    order = omega arith;
    short = omega (arith, short);
    few = omega arith;
    begins = begins_itself (log x);
    new = λ k _. refl;
    views = record {
      each = λ i v e. one_view i v e;
      two = λ i j v w ne ei ej. absurd (ne (first i v ei ∙ sym (first j w ej)));
    };
    sums = record { sizes = omega arith; once = λ k. grind (arith, nat_tests); turns = omega arith };
    home = λ _. (x, refl, refl, kept);
  }
    where
      first : (i : ℕ) (v : View V I) → get_elem? (first_view x (log x) ∷ []) i ≡ some v → i ≡ 0
      first zero v e = refl
      first (suc i) v e = absurd (some-ne-none v (sym e))

      one_view : (i : ℕ) (v : View V I) → get_elem? (first_view x (log x) ∷ []) i ≡ some v → IsSound by (log x) 0 0 (log x) 1 v
      one_view zero v e = subst (IsSound by (log x) 0 0 (log x) 1) (some-injective _ _ e) record {
        held = λ on. absurd (off on);
        turn = λ on. absurd (off on);
        seen = begins_itself (log x);
        told = omega arith;
        opens = λ _. begins_itself (log x);
        owns = λ k _. refl;
        counts = λ _. refl;
        most = omega arith;
        halves = tt;
      }
      one_view (suc i) v e = absurd (some-ne-none v (sym e))

  module _ (start : List I) where
    pub cuts : (id : ℕ) (v : View V I) → v.number ≡ 0 → v.made < 64 → v.has_ticket ≡ false → v.has_turn ≡ false → 0 < length v.numbers → Splits (IsConsistent log by Same start) id v (with_one_more v) (new_pass v)
    cuts id v first few waits turn holds s h at =
        let mine = h.views.each id v at in
        let same : v.made ≡ h.made = mine.counts first in
        let some_made : 0 < h.made = omega (arith, holds, h.sums.sizes, total_at (λ (u : View V I). length u.numbers) s.views id v at) in
        let l : View V I = with_one_more v in
        let r : View V I = new_pass v in
        let left_set : EachAndAnyTwo (IsSound by start h.next h.now h.all (h.made + 1)) AreApart (set s.views id l) = each_set (IsSound by start h.next h.now h.all h.made) (IsSound by start h.next h.now h.all (h.made + 1)) AreApart s.views id l h.views
        (record {
          held = mine.held;
          turn = mine.turn;
          seen = mine.seen;
          told = mine.told;
          opens = mine.opens;
          owns = mine.owns;
          counts = λ _. ap (λ m. m + 1) same;
          most = mine.most;
          halves = mine.halves;
        })
        (λ i u ne e.
        let o = apart_from log by Same start s h id v at i u ne e in
        let f = h.views.each i u e in (
          record {
            held = f.held;
            turn = f.turn;
            seen = f.seen;
            told = f.told;
            opens = f.opens;
            owns = f.owns;
            counts = λ zero'. absurd (o.0.1 first zero');
            most = f.most;
            halves = f.halves;
          },
          o.0,
          o.1,
        )) in
        record {
          next = h.next;
          now = h.now;
          all = h.all;
          made = h.made + 1;
          place = h.place;
          words = h.words;
          homes = h.homes;
          order = h.order;
          short = h.short;
          few = omega (arith, few, same);
          begins = h.begins;
          new = λ k above. h.new k (omega (arith, above));
          views = each_snoc (IsSound by start h.next h.now h.all (h.made + 1)) AreApart (set s.views id l) r left_set
              (record {
                held = λ on. absurd (off (sym waits ∙ on));
                turn = λ on. absurd (off (sym turn ∙ on));
                seen = mine.seen;
                told = mine.told;
                opens = λ _. mine.opens holds;
                owns = λ k listed.
                    let is : h.made ≡ k = sym same ∙ times_one k v.made listed in
                    between by k start v.seen h.all (mine.opens holds) mine.seen (sym (h.new k (omega (arith, is))));
                counts = λ zero'. absurd (omega (arith, zero', same, some_made));
                most = omega arith;
                halves = mine.halves;
              })
              (λ i u e. (
                ((λ on. absurd (off (sym waits ∙ on))), (λ zero'. absurd (omega (arith, zero', same, some_made)))),
                ((λ _ on. absurd (off (sym waits ∙ on))), (λ _ zero'. omega (arith, zero', same, some_made))),
              ));
          sums = record {
            sizes = omega (arith, h.sums.sizes, total_snoc (λ (u : View V I). length u.numbers) (set s.views id l) r, total_set (λ (u : View V I). length u.numbers) s.views id v l at);
            once = λ k. omega (arith, h.sums.once k, once_more k h.made, ap (λ (m : ℕ). times k (m ∷ [])) same, total_snoc (λ (u : View V I). times k u.numbers) (set s.views id l) r, total_set (λ (u : View V I). times k u.numbers) s.views id v l at);
            turns = omega (arith, h.sums.turns, total_snoc (λ (u : View V I). u.turns) (set s.views id l) r, total_set (λ (u : View V I). u.turns) s.views id v l at);
          };
          home = λ nobody. h.home (nobody_before s.views id v l at (λ no. no) (λ i u e. nobody i u (at_longer (set s.views id l) (r ∷ []) i u e)));
        }

    pub joins : (id : ℕ) (v : View V I) (other : ℕ) (w : View V I) → v.has_ticket ≡ false → v.has_turn ≡ false → w.has_ticket ≡ false → w.has_turn ≡ false → Joins (IsConsistent log by Same start) id v other w (joined v w) spent
    joins id v other w waits turn waits' turn' s h at apart at' =
        let there : get_elem? s.views other ≡ some w = sym (set_else s.views id other (joined v w) apart) ∙ at' in
        let a = h.views.each id v at in
        let b = h.views.each other w there in
        let both : View V I = joined v w in
        let long = longest v.seen w.seen h.all a.seen b.seen in
        let P : View V I → Type 0 = IsSound by start h.next h.now h.all h.made in
        let one_less : EachAndAnyTwo P AreApart (set s.views other spent) = each_set P P AreApart s.views other spent h.views
        (record {
          held = λ on. absurd (off on);
          turn = λ on. absurd (off on);
          seen = (h.all, refl);
          told = omega arith;
          opens = λ some'. absurd (omega (arith, some'));
          owns = λ k some'. absurd (omega (arith, some'));
          counts = λ e. absurd (omega (arith, e));
          most = omega arith;
          halves = tt;
        })
        (λ i u ne e. (
          h.views.each i u e,
          ((λ on. absurd (off on)), (λ e'. absurd (omega (arith, e')))),
          ((λ _ on. absurd (off on)), (λ _ e'. omega (arith, e'))),
        )) in
        -- no third view has the number 0 where one of the two has it
        let clash : (i : ℕ) (u : View V I) → i ≢ id → get_elem? (set s.views other spent) i ≡ some u → min v.number w.number ≡ 0 → u.number ≡ 0 → ⊥ = λ i u ne e least first. ⊎_elim
        (λ (x : (i ≡ other) × (spent ≡ u)). let n : 1 ≡ u.number = ap (λ (z : View V I). z.number) x.1 in omega (arith, n, first))
        (λ (x : (i ≢ other) × (get_elem? s.views i ≡ some u)). ⊎_elim
        (λ (y : v.number ≡ 0). (h.views.two id i v u (λ same. ne (sym same)) at x.1).1 y first)
        (λ (y : w.number ≡ 0). (h.views.two other i w u (λ same. x.0 (sym same)) there x.1).1 y first)
        (one_zero v.number w.number least))
        (at_set s.views other i spent u e) in
        let after : EachAndAnyTwo P AreApart (set (set s.views other spent) id both) = each_set P P AreApart (set s.views other spent) id both one_less
        (record {
          held = λ on. absurd (off on);
          turn = λ on. absurd (off on);
          seen = long.2;
          told = omega (arith, a.told, b.told);
          opens = λ some'. dite (dec_le 1 (length v.numbers))
              (λ yes. begins_trans start v.seen (longer_of v.seen w.seen) (a.opens yes) long.0)
              (λ no. begins_trans start w.seen (longer_of v.seen w.seen) (b.opens (omega (arith, some', no, length-append v.numbers w.numbers))) long.1);
          owns = λ k some'. dite (dec_le 1 (times k v.numbers))
              (λ yes. between by k v.seen (longer_of v.seen w.seen) h.all long.0 long.2 (a.owns k yes))
              (λ no. between by k w.seen (longer_of v.seen w.seen) h.all long.1 long.2 (b.owns k (omega (arith, some', no, times_append k v.numbers w.numbers))));
          counts = λ least. (elim (v.number == 0) as (λ t. (v.number == 0) ≡ t → (if t then v.made else w.made) ≡ h.made) [
            | true ↦ λ e. a.counts (is_zero v.number e)
            | false ↦ λ e. b.counts (⊎_elim (λ (y : v.number ≡ 0). absurd (not_zero v.number e y)) (λ (y : w.number ≡ 0). y) (one_zero v.number w.number least))
          ]) refl;
          most = omega (arith, a.most, b.most, length-append v.numbers w.numbers);
          halves = (
            (long.0, (λ k listed. between by k v.seen (longer_of v.seen w.seen) h.all long.0 long.2 (a.owns k listed) ∙ sym (a.owns k listed))),
            ((long.1, (λ k listed. between by k w.seen (longer_of v.seen w.seen) h.all long.1 long.2 (b.owns k listed) ∙ sym (b.owns k listed))), tt),
          );
        })
        (λ i u ne e. (
          one_less.each i u e,
          ((λ on. absurd (off on)), (λ least first. clash i u ne e least first)),
          ((λ _ on. absurd (off on)), (λ first least. clash i u ne e least first)),
        )) in
        record {
          next = h.next;
          now = h.now;
          all = h.all;
          made = h.made;
          place = h.place;
          words = h.words;
          homes = h.homes;
          order = h.order;
          short = h.short;
          few = h.few;
          begins = h.begins;
          new = h.new;
          views = subst (EachAndAnyTwo P AreApart) (set_apart s.views other id spent both apart) after;
          sums = record {
            sizes = omega (arith, h.sums.sizes, length-append v.numbers w.numbers, total_set (λ (u : View V I). length u.numbers) s.views id v both at, total_set (λ (u : View V I). length u.numbers) (set s.views id both) other w spent at');
            once = λ k. omega (arith, h.sums.once k, times_append k v.numbers w.numbers, total_set (λ (u : View V I). times k u.numbers) s.views id v both at, total_set (λ (u : View V I). times k u.numbers) (set s.views id both) other w spent at');
            turns = omega (arith, h.sums.turns, total_set (λ (u : View V I). u.turns) s.views id v both at, total_set (λ (u : View V I). u.turns) (set s.views id both) other w spent at');
          };
          home = λ nobody. h.home (nobody_before s.views id v both at (λ _. turn) (nobody_before (set s.views id both) other w spent at' (λ _. turn') nobody));
        }

    -- what is known at the end, where one pass has all numbers
    pub record Ended (s : State V (View V I)) (v : View V I) : Type 0 where
      pub value : V
      pub homes : s.homes ≡ some value ∷ []
      pub log_is : log value ≡ v.seen
      pub kept : Same value
      pub once : (k : ℕ) → times k v.numbers ≡ once_below k v.made
      pub adds : Adds by v.numbers start (log value)

    pub ends : (s : State V (View V I)) (h : IsConsistent log by Same start s) (id : ℕ) (v : View V I) → get_elem? s.views id ≡ some v → v.number ≡ 0 → v.has_turn ≡ false → 0 < length v.numbers → length v.numbers ≡ v.made → Ended s v
    ends s h id v at first turn holds alone =
        let mine = h.views.each id v at in
        let same : v.made ≡ h.made = mine.counts first in
        let none_else : (i : ℕ) (u : View V I) → i ≢ id → get_elem? s.views i ≡ some u → length u.numbers ≡ 0 = λ i u ne e.
        omega (arith, alone, same, h.sums.sizes, total_two (λ (z : View V I). length z.numbers) s.views i id u v ne e at) in
        let nobody : NobodyServes s.views = λ i u e. not_true u.has_turn (λ on. dite (ℕ_discrete i id)
        (λ here. off (sym turn ∙ (ap (λ (z : View V I). z.has_turn) (one_value s.views id i v u at e (sym here)) ∙ on)))
        (λ ne. let f = h.views.each i u e in let t = f.turn on in let b = f.held t.0 in omega (arith, b.2, none_else i u ne e))) in
        let x = h.home nobody in
        let once : (k : ℕ) → times k v.numbers ≡ once_below k h.made = λ k.
        sym (total_only (λ (z : View V I). times k z.numbers) s.views id v at (λ i u ne e. omega (arith, none_else i u ne e, times_length k u.numbers))) ∙ h.sums.once k in
        let whole : (k : ℕ) → own by k v.seen ≡ own by k h.all = λ k. dite (dec_le h.made k)
        (λ above. between by k start v.seen h.all (mine.opens holds) mine.seen (sym (h.new k above)))
        (λ below. mine.owns k (omega (arith, once k, once_at k h.made (omega (arith, below))))) in
        let p = mine.seen in
        let empty : p.0 ≡ [] = none_at_all by p.0 (λ k. own_rest by k v.seen p.0 (ap (own by k) p.1 ∙ sym (whole k))) in
        let all_seen : h.all ≡ v.seen = sym p.1 ∙ (ap (λ zs. v.seen ++ zs) empty ∙ append-nil v.seen) in
        let q = h.begins in
        record {
          value = x.0;
          homes = h.homes ∙ ap (λ (o : Option V). o ∷ []) x.1;
          log_is = x.2 ∙ all_seen;
          kept = x.3;
          once = λ k. once k ∙ ap (once_below k) (sym same);
          adds = record {
            more = q.0;
            parts = x.2 ∙ sym q.1;
            by_listed = by_listed by v.numbers q.0 (λ k none'. own_rest by k start q.0 (ap (own by k) q.1 ∙ h.new k (never_at k h.made (sym (once k) ∙ none'))));
          };
        }

    pub closes : (ws : List ℕ) (xs : List V) (id : ℕ) (v : View V I) → Final (Seen (IsConsistent log by Same start) id v) ws xs → v.number ≡ 0 → v.has_turn ≡ false → 0 < length v.numbers → length v.numbers ≡ v.made → (y : V) → get_elem? xs 0 ≡ some y → (log y ≡ v.seen) × ((k : ℕ) → times k v.numbers ≡ once_below k v.made) × Adds by v.numbers start (log y) × Same y
    closes ws xs id v f first turn holds alone y e =
        let end = ends f.0 f.1.0 id v f.1.1 first turn holds alone in
        let there : get_elem? xs 0 ≡ some end.value = f.4 0 end.value (ap (λ (hs : List (Option V)). get_elem? hs 0) end.homes) in
        let same : end.value ≡ y = some-injective end.value y (sym there ∙ e) in
        (ap log (sym same) ∙ end.log_is, end.once, subst (λ (z : V). Adds by v.numbers start (log z)) same end.adds, subst Same same end.kept)
