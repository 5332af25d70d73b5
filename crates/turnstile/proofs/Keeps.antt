-- Each step of a turn keeps the rule.
use Rattle.std.proofs.Common.{◌^◌, ◌≡◌, ◌≢◌, ℕ, ◌+◌, ◌<◌, ◌≤◌, Bool, true, false, true≢false, List, [], ◌∷◌, ◌++◌, length, set, length-append, append-nil, ◌%◌, refl, sym, ap, ◌∙◌, subst, arith}
use Rattle.std.specs.Prelude.{map, slice_index, slice_set}
use Rattle.std.specs.List.{AllByRecursion}
use mathlib.Core.Option.{Option, none, some}
use mathlib.Core.Logic.{dite}
use Rattle.std.proofs.Math.Nat.{mod-eq_of_lt}
use native.Mathlib.Decide.{ℕ_discrete}
use lib.ListN.{get_elem?}
use mathlib.Core.List.{IsPrefix}
use Rattle.atomic_table.specs.Table.{State, Act, keeps, takes, gives, step, Allows, Valid, homes_after, carried_after}
use Rattle.turnstile.specs.declared.view.View.{View}
use Rattle.turnstile.specs.Numbers.{times, own}
use Rattle.turnstile.specs.Rule.{IsConsistent, IsSound, AreApart, NobodyServes, GoesOn}
use Rattle.turnstile.specs.Steps.{with_ticket, with_turn, with_log, at_rest, with_front, without_halves, DrawsTicket, LooksForTurn, RaisesCount, ServesNext, LoadsCount, SettlesJoin}
use Rattle.turnstile.proofs.Totals.{total_at, total_two, total_most, at_most_once, once_means}
use Rattle.turnstile.proofs.Logs.{begins_itself, begins_longer, begins_length, own_other}
use Rattle.turnstile.proofs.Views.{set_at, one_value, each_set, sums_set, nobody_before}

pub off : false ≡ true → ⊥
off e = true≢false (sym e)

pub not_true : (b : Bool) → (b ≡ true → ⊥) → b ≡ false
not_true true f = absurd (f refl)
not_true false f = refl

module _ {V : Type 0} where
  first_value : V → List (ℕ × V) → V
  first_value x [] = x
  first_value x (p ∷ ps) = p.1

  pub one_held : (x y : V) → ◌≡◌ {A = List (ℕ × V)} ((0, x) ∷ []) ((0, y) ∷ []) → x ≡ y
  unfolding first_value
  one_held x y same = ap (first_value x) same

module _ {F : Type 0} where
  one_of : F → List F → F
  one_of f [] = f
  one_of f (g ∷ gs) = g

  -- a list has one first
  pub same_first : (key : F) (named : List F) → named ≡ key ∷ [] → (y b : F) → y ≡ key → named ≡ b ∷ [] → y ≡ b
  unfolding one_of
  same_first key named is y b same names = same ∙ ap (one_of y) (sym is ∙ names)

module _ {V I : Type 0} (log : V → List I) (by : I → ℕ) (Same : V → Type 0) (start : List I) where
  -- a state of these parts
  abbrev pub parts : ℕ → ℕ → List I → Option V → List (View V I) → State V (View V I)
  parts next now all place views = record { words = next ∷ now ∷ length all ∷ []; homes = place ∷ []; views = views }

  sound_next : (next next' now made : ℕ) (all : List I) (u : View V I) → next ≤ next' → IsSound by start next now all made u → IsSound by start next' now all made u
  sound_next next next' now made all u le s = record {
    held = λ on. let b = s.held on in (b.0, omega (arith, b.1, le), b.2);
    turn = s.turn;
    seen = s.seen;
    told = s.told;
    opens = s.opens;
    owns = s.owns;
    counts = s.counts;
    most = s.most;
    halves = s.halves;
  }

  -- one view changes, and the next ticket
  changes : (s : State V (View V I)) (h : IsConsistent log by Same start s) (id : ℕ) (v w : View V I) (next' : ℕ) → get_elem? s.views id ≡ some v → h.next ≤ next' → IsSound by start next' h.now h.all h.made w → ((i : ℕ) (u : View V I) → i ≢ id → get_elem? s.views i ≡ some u → AreApart w u × AreApart u w) → v.numbers ≡ w.numbers → w.turns + h.next ≡ v.turns + next' → (w.has_turn ≡ false → v.has_turn ≡ false) → IsConsistent log by Same start (parts next' h.now h.all h.place (set s.views id w))
  changes s h id v w next' at le mine others same turns turn = record {
    next = next';
    now = h.now;
    all = h.all;
    made = h.made;
    place = h.place;
    words = refl;
    homes = refl;
    order = omega (arith, h.order, le);
    short = h.short;
    few = h.few;
    begins = h.begins;
    new = h.new;
    views = each_set (IsSound by start h.next h.now h.all h.made) (IsSound by start next' h.now h.all h.made) AreApart s.views id w h.views mine
        (λ i u ne e. let o = others i u ne e in (sound_next h.next next' h.now h.made h.all u le (h.views.each i u e), o.0, o.1));
    sums = sums_set h.next next' h.made s.views id v w h.sums at same turns;
    home = λ nobody. h.home (nobody_before s.views id v w at turn nobody);
  }

  -- any two views are apart
  pub apart_from : (s : State V (View V I)) (h : IsConsistent log by Same start s) (id : ℕ) (v : View V I) → get_elem? s.views id ≡ some v → (i : ℕ) (u : View V I) → i ≢ id → get_elem? s.views i ≡ some u → AreApart v u × AreApart u v
  apart_from s h id v at i u ne e = (h.views.two id i v u (λ same. ne (sym same)) at e, h.views.two i id u v ne e at)

  -- who has the turn is alone with it
  alone_with_turn : (s : State V (View V I)) (h : IsConsistent log by Same start s) (id : ℕ) (v : View V I) → get_elem? s.views id ≡ some v → v.has_turn ≡ true → (i : ℕ) (u : View V I) → i ≢ id → get_elem? s.views i ≡ some u → u.has_turn ≡ true → ⊥
  alone_with_turn s h id v at on i u ne e on' =
      let mine = (h.views.each id v at).turn on in
      let other = (h.views.each i u e).turn on' in
      (h.views.two i id u v ne e at).0 other.0 mine.0 (other.1 ∙ sym mine.1)

  -- fewer tickets than the passes may take turns
  few_tickets : (s : State V (View V I)) (h : IsConsistent log by Same start s) → h.next ≤ 2 ^ 46
  few_tickets s h = omega (arith, h.few, h.sums.sizes, h.sums.turns, total_most (λ (u : View V I). u.turns) (λ (u : View V I). length u.numbers) s.views (λ i u e. (h.views.each i u e).most))

  pub draws : (slots id : ℕ) (v : View V I) → v.has_ticket ≡ false → v.has_turn ≡ false → 0 < length v.numbers → v.turns < 2 ^ 40 → Allows (IsConsistent log by Same start) slots id (v, []) 0 (λ n. (n + 1) % 2 ^ 64) (DrawsTicket (step slots 0 1 0 none) (v, []))
  draws slots id v waits turn holds few s h len at lt =
      let G : List ℕ → List (Option V) → Type 0 = λ ws hs. (w : View V I) × (a : Act V) × Valid hs [] a × IsConsistent log by Same start (record { words = slice_set ws 0 ((slice_index ws 0 + 1) % 2 ^ 64); homes = homes_after hs [] a; views = slice_set s.views id w }) × DrawsTicket (step slots 0 1 0 none) (v, []) (slice_index ws 0) (w, carried_after [] a) in
      let mine = h.views.each id v at in
      let after : IsConsistent log by Same start (parts (h.next + 1) h.now h.all h.place (set s.views id (with_ticket h.next v))) = changes s h id v (with_ticket h.next v) (h.next + 1) at (omega arith)
      (record {
        held = λ _. (h.order, omega arith, holds);
        turn = λ on. absurd (off (sym turn ∙ on));
        seen = mine.seen;
        told = mine.told;
        opens = mine.opens;
        owns = mine.owns;
        counts = mine.counts;
        most = omega (arith, few, holds);
        halves = mine.halves;
      })
      (λ i u ne e.
      let two = apart_from s h id v at i u ne e in
      let held = (h.views.each i u e).held in (
        ((λ _ on same. let b = held on in omega (arith, b.1, same)), two.0.1),
        ((λ on _ same. let b = held on in omega (arith, b.1, same)), two.1.1),
      ))
      refl (omega arith) (λ off'. off') in
      let named : h.next + 1 ≡ after.next = ap (λ ws. slice_index ws 0) after.words in
      let bound : h.next + 1 ≤ 2 ^ 46 = subst (λ n. n ≤ 2 ^ 46) (sym named) (few_tickets (parts (h.next + 1) h.now h.all h.place (set s.views id (with_ticket h.next v))) after) in
      let count : (h.next + 1) % 2 ^ 64 ≡ h.next + 1 = mod-eq_of_lt (omega (arith, bound)) in
      let base : G (h.next ∷ h.now ∷ length h.all ∷ []) (h.place ∷ []) = (
        with_ticket h.next v,
        keeps,
        tt,
        subst (λ n. IsConsistent log by Same start (parts n h.now h.all h.place (set s.views id (with_ticket h.next v)))) (sym count) after,
        (refl, omega (arith, bound)),
      ) in
      subst (λ ws. G ws s.homes) (sym h.words) (subst (G (h.next ∷ h.now ∷ length h.all ∷ [])) (sym h.homes) base)

  -- a view that stays
  stays : (s : State V (View V I)) (h : IsConsistent log by Same start s) (id : ℕ) (v : View V I) → get_elem? s.views id ≡ some v → IsConsistent log by Same start (parts h.next h.now h.all h.place (set s.views id v))
  stays s h id v at = changes s h id v v h.next at (omega arith) (h.views.each id v at) (apart_from s h id v at) refl refl (λ no. no)

  pub fronts : (slots id : ℕ) (v : View V I) → Allows (IsConsistent log by Same start) slots id (v, []) 2 (λ n. n) (LoadsCount (step slots 2 0 0 none) (v, []))
  fronts slots id v s h len at lt =
      let G : List ℕ → List (Option V) → Type 0 = λ ws hs. (w : View V I) × (a : Act V) × Valid hs [] a × IsConsistent log by Same start (record { words = slice_set ws 2 (slice_index ws 2); homes = homes_after hs [] a; views = slice_set s.views id w }) × LoadsCount (step slots 2 0 0 none) (v, []) (slice_index ws 2) (w, carried_after [] a) in
      let mine = h.views.each id v at in
      let base : G (h.next ∷ h.now ∷ length h.all ∷ []) (h.place ∷ []) = (
        with_front (length h.all) v,
        keeps,
        tt,
        changes s h id v (with_front (length h.all) v) h.next at (omega arith)
            (record {
              held = mine.held;
              turn = mine.turn;
              seen = mine.seen;
              told = omega arith;
              opens = mine.opens;
              owns = mine.owns;
              counts = mine.counts;
              most = mine.most;
              halves = mine.halves;
            })
            (apart_from s h id v at) refl refl (λ no. no),
        (refl, mine.told, begins_length v.seen h.all mine.seen, h.short),
      ) in
      subst (λ ws. G ws s.homes) (sym h.words) (subst (G (h.next ∷ h.now ∷ length h.all ∷ [])) (sym h.homes) base)

  pub settles : (slots id : ℕ) (v : View V I) → Allows (IsConsistent log by Same start) slots id (v, []) 0 (λ n. n) (SettlesJoin by (step slots 0 0 0 none) (v, []))
  settles slots id v s h len at lt =
      let G : List ℕ → List (Option V) → Type 0 = λ ws hs. (w : View V I) × (a : Act V) × Valid hs [] a × IsConsistent log by Same start (record { words = slice_set ws 0 (slice_index ws 0); homes = homes_after hs [] a; views = slice_set s.views id w }) × SettlesJoin by (step slots 0 0 0 none) (v, []) (slice_index ws 0) (w, carried_after [] a) in
      let mine = h.views.each id v at in
      let base : G (h.next ∷ h.now ∷ length h.all ∷ []) (h.place ∷ []) = (
        without_halves v,
        keeps,
        tt,
        changes s h id v (without_halves v) h.next at (omega arith)
            (record {
              held = mine.held;
              turn = mine.turn;
              seen = mine.seen;
              told = mine.told;
              opens = mine.opens;
              owns = mine.owns;
              counts = mine.counts;
              most = mine.most;
              halves = tt;
            })
            (apart_from s h id v at) refl refl (λ no. no),
        (
          refl,
          record {
            halves = mine.halves;
            once = λ k. omega (arith, h.sums.once k, at_most_once k h.made, total_at (λ (u : View V I). times k u.numbers) s.views id v at);
            few = omega (arith, h.few, h.sums.sizes, total_at (λ (u : View V I). length u.numbers) s.views id v at);
            most = mine.most;
          },
        ),
      ) in
      subst (λ ws. G ws s.homes) (sym h.words) (subst (G (h.next ∷ h.now ∷ length h.all ∷ [])) (sym h.homes) base)

  pub awaits : {F : Type 0} (fixed : V → F) (slots id : ℕ) (v : View V I) → ((y : V) (b : F) → Same y → map fixed v.first ≡ b ∷ [] → fixed y ≡ b) → v.has_ticket ≡ true → v.has_turn ≡ false → v.halves ≡ [] → Allows (IsConsistent log by Same start) slots id (v, []) 1 (λ k. k) (LooksForTurn log by fixed (step slots 1 0 0 none) (v, []))
  awaits fixed slots id v agrees waits turn halves s h len at lt =
      let st = step {S = V} slots 1 0 0 none in
      let G : List ℕ → List (Option V) → Type 0 = λ ws hs. (w : View V I) × (a : Act V) × Valid hs [] a × IsConsistent log by Same start (record { words = slice_set ws 1 (slice_index ws 1); homes = homes_after hs [] a; views = slice_set s.views id w }) × LooksForTurn log by fixed st (v, []) (slice_index ws 1) (w, carried_after [] a) in
      let mine = h.views.each id v at in
      let hit : h.now ≡ v.ticket → G (h.next ∷ h.now ∷ length h.all ∷ []) (h.place ∷ []) = λ e.
      let nobody : NobodyServes s.views = λ i u ei. not_true u.has_turn (λ on. dite (ℕ_discrete i id)
      (λ same. off (sym turn ∙ (ap (λ (z : View V I). z.has_turn) (one_value s.views id i v u at ei (sym same)) ∙ on)))
      (λ ne. let t = (h.views.each i u ei).turn on in (h.views.two i id u v ne ei at).0 t.0 waits (t.1 ∙ e))) in
      let x = h.home nobody in
      let w : View V I = with_turn (log x.0) v in (
        w,
        takes 0 x.0,
        ap some x.1,
        record {
          next = h.next;
          now = h.now;
          all = h.all;
          made = h.made;
          place = none;
          words = refl;
          homes = refl;
          order = h.order;
          short = h.short;
          few = h.few;
          begins = h.begins;
          new = h.new;
          views = each_set (IsSound by start h.next h.now h.all h.made) (IsSound by start h.next h.now h.all h.made) AreApart s.views id w h.views
              (record {
                held = mine.held;
                turn = λ _. (waits, sym e, x.2);
                seen = ([], append-nil (log x.0) ∙ x.2);
                told = mine.told;
                opens = λ _. subst (IsPrefix start) (sym x.2) h.begins;
                owns = λ k _. ap (own by k) x.2;
                counts = mine.counts;
                most = mine.most;
                halves = subst (AllByRecursion (GoesOn by (log x.0))) (sym halves) tt;
              })
              (λ i u ne ei. let o = apart_from s h id v at i u ne ei in (h.views.each i u ei, o.0, o.1));
          sums = sums_set h.next h.next h.made s.views id v w h.sums at refl refl;
          home = λ none. absurd (true≢false (none id w (set_at s.views id w v at)));
        },
        (
          (λ _. (
            x.0,
            refl,
            record {
              begins = subst (IsPrefix v.seen) (sym x.2) mine.seen;
              owns = λ k listed. ap (own by k) x.2 ∙ sym (mine.owns k listed);
              told = omega (arith, mine.told, ap length x.2);
              short = omega (arith, h.short, ap length x.2);
            },
            (λ b is. agrees x.0 b x.3 is),
          )),
          (λ ne. absurd (ne e)),
        ),
      ) in
      let miss : h.now ≢ v.ticket → G (h.next ∷ h.now ∷ length h.all ∷ []) (h.place ∷ []) = λ ne. (v, keeps, tt, stays s h id v at, ((λ e. absurd (ne e)), (λ _. refl))) in
      subst (λ ws. G ws s.homes) (sym h.words) (subst (G (h.next ∷ h.now ∷ length h.all ∷ [])) (sym h.homes) (dite (ℕ_discrete h.now v.ticket) hit miss))

  pub raises : (slots id : ℕ) (v : View V I) (x : V) (e : I) → v.has_turn ≡ true → v.halves ≡ [] → 0 < times v.number v.numbers → log x ≡ v.seen ++ e ∷ [] → by e ≡ v.number → length v.seen < 2 ^ 32 → Allows (IsConsistent log by Same start) slots id (v, (0, x) ∷ []) 2 (λ k. (k + 1) % 2 ^ 64) (RaisesCount log (step slots 2 1 0 none) (v, (0, x) ∷ []))
  raises slots id v x e on halves listed grown bears fits s h len at lt =
      let st = step {S = V} slots 2 1 0 none in
      let G : List ℕ → List (Option V) → Type 0 = λ ws hs. (w : View V I) × (a : Act V) × Valid hs ((0, x) ∷ []) a × IsConsistent log by Same start (record { words = slice_set ws 2 ((slice_index ws 2 + 1) % 2 ^ 64); homes = homes_after hs ((0, x) ∷ []) a; views = slice_set s.views id w }) × RaisesCount log st (v, (0, x) ∷ []) (slice_index ws 2) (w, carried_after ((0, x) ∷ []) a) in
      let mine = h.views.each id v at in
      let t = mine.turn on in
      let w : View V I = with_log (log x) v in
      let whole : log x ≡ h.all ++ e ∷ [] = grown ∙ ap (λ zs. zs ++ e ∷ []) t.2 in
      let more : length (log x) ≡ length h.all + 1 = ap length whole ∙ length-append h.all (e ∷ []) in
      let count : (length h.all + 1) % 2 ^ 64 ≡ length (log x) = mod-eq_of_lt (omega (arith, fits, ap length t.2)) ∙ sym more in
      -- the entry's number is one that was made, and stands in no other list
      let here : 0 < times (by e) v.numbers = subst (λ k. 0 < times k v.numbers) (sym bears) listed in
      let known : by e < h.made = once_means (by e) h.made (omega (arith, here, h.sums.once (by e), total_at (λ (u : View V I). times (by e) u.numbers) s.views id v at)) in
      let elsewhere : (i : ℕ) (u : View V I) → i ≢ id → get_elem? s.views i ≡ some u → (k : ℕ) → 0 < times k u.numbers → by e ≢ k = λ i u ne ei k there same.
      omega (arith, there, subst (λ n. 0 < times n v.numbers) same here, h.sums.once k, at_most_once k h.made, total_two (λ (z : View V I). times k z.numbers) s.views i id u v ne ei at) in
      let base : G (h.next ∷ h.now ∷ length h.all ∷ []) (h.place ∷ []) = (
        w,
        keeps,
        tt,
        record {
          next = h.next;
          now = h.now;
          all = log x;
          made = h.made;
          place = h.place;
          words = ap (λ k. h.next ∷ h.now ∷ k ∷ []) count;
          homes = refl;
          order = h.order;
          short = omega (arith, more, fits, ap length t.2);
          few = h.few;
          begins = subst (IsPrefix start) (sym whole) (begins_longer start h.all (e ∷ []) h.begins);
          new = λ k above. ap (own by k) whole ∙ (own_other by k h.all e (λ same. omega (arith, known, above, same)) ∙ h.new k above);
          views = each_set (IsSound by start h.next h.now h.all h.made) (IsSound by start h.next h.now (log x) h.made) AreApart s.views id w h.views
              (record {
                held = mine.held;
                turn = λ _. (t.0, t.1, refl);
                seen = begins_itself (log x);
                told = omega (arith, mine.told, more);
                opens = λ _. subst (IsPrefix start) (sym whole) (begins_longer start h.all (e ∷ []) h.begins);
                owns = λ k _. refl;
                counts = mine.counts;
                most = mine.most;
                halves = subst (AllByRecursion (GoesOn by (log x))) (sym halves) tt;
              })
              (λ i u ne ei.
              let o = apart_from s h id v at i u ne ei in
              let f = h.views.each i u ei in (
                record {
                  held = f.held;
                  turn = λ on'. absurd (alone_with_turn s h id v at on i u ne ei on');
                  seen = subst (IsPrefix u.seen) (sym whole) (begins_longer u.seen h.all (e ∷ []) f.seen);
                  told = omega (arith, f.told, more);
                  opens = f.opens;
                  owns = λ k there. f.owns k there ∙ (sym (own_other by k h.all e (elsewhere i u ne ei k there)) ∙ ap (own by k) (sym whole));
                  counts = f.counts;
                  most = f.most;
                  halves = f.halves;
                },
                o.0,
                o.1,
              ));
          sums = sums_set h.next h.next h.made s.views id v w h.sums at refl refl;
          home = λ none. absurd (true≢false (sym on ∙ none id w (set_at s.views id w v at)));
        },
        (λ y same. ap (λ (z : V). (with_log (log z) v, (0, x) ∷ [])) (one_held x y same)),
      ) in
      subst (λ ws. G ws s.homes) (sym h.words) (subst (G (h.next ∷ h.now ∷ length h.all ∷ [])) (sym h.homes) base)

  pub leaves : (slots id n : ℕ) (v : View V I) (x : V) → v.has_turn ≡ true → v.ticket ≡ n → log x ≡ v.seen → Same x → Allows (IsConsistent log by Same start) slots id (v, (0, x) ∷ []) 1 (λ _. n + 1) (λ _. ServesNext (step slots 1 (n + 1) 0 none) (v, (0, x) ∷ []) (n + 1))
  leaves slots id n v x on ticket has kept s h len at lt =
      let st = step {S = V} slots 1 (n + 1) 0 none in
      let G : List ℕ → List (Option V) → Type 0 = λ ws hs. (w : View V I) × (a : Act V) × Valid hs ((0, x) ∷ []) a × IsConsistent log by Same start (record { words = slice_set ws 1 (n + 1); homes = homes_after hs ((0, x) ∷ []) a; views = slice_set s.views id w }) × ServesNext st (v, (0, x) ∷ []) (n + 1) (w, carried_after ((0, x) ∷ []) a) in
      let mine = h.views.each id v at in
      let t = mine.turn on in
      let low = mine.held t.0 in
      let w : View V I = at_rest v in
      let here : n ≡ h.now = sym ticket ∙ t.1 in
      let base : G (h.next ∷ h.now ∷ length h.all ∷ []) (h.place ∷ []) = (
        w,
        gives,
        tt,
        record {
          next = h.next;
          now = n + 1;
          all = h.all;
          made = h.made;
          place = some x;
          words = refl;
          homes = refl;
          order = omega (arith, low.1, ticket);
          short = h.short;
          few = h.few;
          begins = h.begins;
          new = h.new;
          views = each_set (IsSound by start h.next h.now h.all h.made) (IsSound by start h.next (n + 1) h.all h.made) AreApart s.views id w h.views
              (record {
                held = λ on'. absurd (off on');
                turn = λ on'. absurd (off on');
                seen = mine.seen;
                told = mine.told;
                opens = mine.opens;
                owns = mine.owns;
                counts = mine.counts;
                most = mine.most;
                halves = mine.halves;
              })
              (λ i u ne ei.
              let o = apart_from s h id v at i u ne ei in
              let f = h.views.each i u ei in (
                record {
                  held = λ on'.
                      let b = f.held on' in
                      let differs : u.ticket ≢ n = λ same. o.1.0 on' t.0 (same ∙ sym ticket) in
                      (omega (arith, b.0, here, differs), b.1, b.2);
                  turn = λ on'. absurd (alone_with_turn s h id v at on i u ne ei on');
                  seen = f.seen;
                  told = f.told;
                  opens = f.opens;
                  owns = f.owns;
                  counts = f.counts;
                  most = f.most;
                  halves = f.halves;
                },
                ((λ on'. absurd (off on')), o.0.1),
                ((λ _ on'. absurd (off on')), o.1.1),
              ));
          sums = sums_set h.next h.next h.made s.views id v w h.sums at refl refl;
          home = λ _. (x, refl, has ∙ t.2, kept);
        },
        refl,
      ) in
      subst (λ ws. G ws s.homes) (sym h.words) (subst (G (h.next ∷ h.now ∷ length h.all ∷ [])) (sym h.homes) base)
