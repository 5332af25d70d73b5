-- The earliest of the first deadlines of tasks, of bots and of blobs is the earliest of all.
use Rattle.std.proofs.Common.{◌≡◌, ℕ, ◌==◌, true, false, List, [], ◌∷◌, ◌++◌, ◌⊎◌, inl, inr, map, find, refl, sym, ap, ◌∙◌, subst, arith, Option, Some, None, MatchOption, eqb-true}
use Rattle.std.specs.List.{Contains, fold, filter_map, cons_option}
use Rattle.std.specs.Option.{option_and_then}
use Rattle.std.proofs.lemmas.Bool.{cases_Bool, cond-true, cond-false, cond_both, false_from_ne_true}
use Rattle.std.proofs.lemmas.List.{append_assoc}
use Rattle.std.proofs.lemmas.List.Sums.{fold-append}
use Rattle.index_laws.specs.Types.{Pending, Running, TaskRow, PoolState, Deadline}
use Rattle.swarm_model.specs.Finding.{has_state, state_place}
use Rattle.swarm_model.specs.Deadlines.{is_earlier, earlier, sooner, slice_end, silence_end, bot_end, blob_end, deadlines}
use Rattle.swarm_model.specs.Effects.{no_of_task, no_of_bot}
use Rattle.swarm_model.specs.Soundness.{IsSound}
use Rattle.pool_laws.proofs.Lists.{Among, here, later, Found, find_is, has_number}
use Rattle.pool_laws.proofs.Rows.{find_task, find_bot}
use Rattle.pool_index.specs.Deadlines.{earlier_of, deadline_at, IsFirstOf}
use Rattle.pool_index.specs.QueuedDeadlines.{IsEarliestOf}
use Rattle.pool_index.proofs.DeadlineOrder.{chain, one_way, earlier_chain}
use Rattle.pool_index.proofs.Earliest.{IsIn, NoneBefore, fold_least}
use Rattle.index_laws.specs.BlobDeadlines.{AreBlobDeadlines}
use Rattle.index_laws.specs.RowDeadlines.{task_deadline, AreTaskDeadlines, AreBotDeadlines, DeadlineIsNext}
use Rattle.index_laws.proofs.Keys.{among_of, contains_of}

-- ---- the earliest of some deadlines

-- some place has the deadline
record Has (ends : List (Option Deadline)) (d : Deadline) : Type 0 where
  place : ℕ
  there : deadline_at ends place ≡ Some d

-- one of which something holds, before which there is none
abbrev IsLeastOf : (Deadline → Type 0) → Option Deadline → Type 0
IsLeastOf P best = MatchOption best ((d : Deadline) → P d → ⊥) (λ b. P b × ((d : Deadline) → P d → is_earlier d b ≡ false))

module _ (P Q R : Deadline → Type 0) (split : (d : Deadline) → R d → P d ⊎ Q d) (of_left : (d : Deadline) → P d → R d) (of_right : (d : Deadline) → Q d → R d) where
  -- the earlier of the least of two kinds is the least of both
  merge : (a b : Option Deadline) → IsLeastOf P a → IsLeastOf Q b → IsLeastOf R (earlier_of a b)
  merge None None g h = λ w r. elim (split w r) [ inl p ↦ g w p | inr q ↦ h w q ]
  merge None (Some b) g h = (of_right b h.0, λ w r. elim (split w r) [ inl p ↦ absurd (g w p) | inr q ↦ h.1 w q ])
  merge (Some a) None g h = (of_left a g.0, λ w r. elim (split w r) [ inl p ↦ g.1 w p | inr q ↦ absurd (h w q) ])
  merge (Some a) (Some b) g h =
      cond_both (is_earlier b a) b a (λ (x : Deadline). IsLeastOf R (Some x))
      (λ t. (of_right b h.0, λ w r. elim (split w r) [ inl p ↦ chain b a w (one_way b a t) (g.1 w p) | inr q ↦ h.1 w q ]))
      (λ f. (of_left a g.0, λ w r. elim (split w r) [ inl p ↦ g.1 w p | inr q ↦ chain a b w f (h.1 w q) ]))

least_of : (ends : List (Option Deadline)) (a : Option Deadline) → IsFirstOf ends a → IsLeastOf (Has ends) a
least_of ends None none = λ d h. let e : None ≡ Some d = sym (none h.place) ∙ h.there in cc (e)
least_of ends (Some d) is = (record { place = is.place; there = is.there }, λ x h. is.least h.place x h.there)

none_before : (d : Deadline) (ds : List Deadline) → ((x : Deadline) → IsIn x ds → is_earlier x d ≡ false) → NoneBefore d ds
none_before d [] h = tt
none_before d (x ∷ xs) h = (h x (inl refl), none_before d xs (λ y i. h y (inr i)))

nothing : (ds : List Deadline) → ((x : Deadline) → IsIn x ds → ⊥) → ds ≡ []
nothing [] h = refl
nothing (x ∷ xs) h = absurd (h x (inl refl))

-- a search finds the least
fold_is : (P : Deadline → Type 0) (ds : List Deadline) → ((d : Deadline) → IsIn d ds → P d) → ((d : Deadline) → P d → IsIn d ds) → (best : Option Deadline) → IsLeastOf P best → fold sooner None ds ≡ best
fold_is P ds out back None none = ap (fold sooner None) (nothing ds (λ x i. none x (out x i)))
fold_is P ds out back (Some d) is = fold_least d ds (back d is.0) (none_before d ds (λ x i. is.1 x (out x i)))

-- ---- a search that goes on

-- the earliest of three, whichever two are compared first
three : (x y z : Deadline) → earlier (Some x) (earlier (Some y) z) ≡ earlier (Some (earlier (Some x) y)) z
three x y z =
    elim (cases_Bool (is_earlier z y)) [
      | inl zy ↦ elim (cases_Bool (is_earlier y x)) [
        | inl yx ↦ rw (zy, yx, earlier_chain z y x zy yx, zy) refl
        | inr yx ↦ rw (zy, yx) refl
      ]
      | inr zy ↦ elim (cases_Bool (is_earlier y x)) [
        | inl yx ↦ rw (zy, yx, zy) refl
        | inr yx ↦ rw (zy, yx, chain x y z yx zy) refl
      ]
    ]

earlier_assoc : (a b c : Option Deadline) → earlier_of a (earlier_of b c) ≡ earlier_of (earlier_of a b) c
earlier_assoc a b None = refl
earlier_assoc a None (Some z) = refl
earlier_assoc None (Some y) (Some z) = refl
earlier_assoc (Some x) (Some y) (Some z) = ap (λ (d : Deadline). Some d) (three x y z)

-- a search that begins with a deadline finds the earlier of it and of what a search of the rest finds
fold_from : (best : Option Deadline) (ds : List Deadline) → fold sooner best ds ≡ earlier_of best (fold sooner None ds)
fold_from best [] = refl
fold_from best (d ∷ ds) =
    let one : Option Deadline = Some d in
    fold_from (sooner best d) ds ∙ sym (earlier_assoc best one (fold sooner None ds)) ∙ ap (earlier_of best) (sym (fold_from one ds))

-- ---- deadlines of rows

in_left : (d : Deadline) (xs ys : List Deadline) → IsIn d xs → IsIn d (xs ++ ys)
in_left d [] ys i = absurd i
in_left d (x ∷ xs) ys (inl e) = inl e
in_left d (x ∷ xs) ys (inr i) = inr (in_left d xs ys i)

in_right : (d : Deadline) (xs ys : List Deadline) → IsIn d ys → IsIn d (xs ++ ys)
in_right d [] ys i = i
in_right d (x ∷ xs) ys i = inr (in_right d xs ys i)

in_parts : (d : Deadline) (xs ys : List Deadline) → IsIn d (xs ++ ys) → IsIn d xs ⊎ IsIn d ys
in_parts d [] ys i = inr i
in_parts d (x ∷ xs) ys (inl e) = inl (inl e)
in_parts d (x ∷ xs) ys (inr i) = elim (in_parts d xs ys i) [ inl h ↦ inl (inr h) | inr h ↦ inr h ]

among_in : (d : Deadline) (xs : List Deadline) → IsIn d xs → Among d xs
among_in d [] i = absurd i
among_in d (x ∷ xs) (inl e) = subst (λ (y : Deadline). Among y (x ∷ xs)) e here
among_in d (x ∷ xs) (inr i) = later (among_in d xs i)

in_among : (d : Deadline) (xs : List Deadline) → Among d xs → IsIn d xs
in_among d [] a = elim a [ ]
in_among d (x ∷ xs) here = inl refl
in_among d (x ∷ xs) (later a) = inr (in_among d xs a)

-- a row that gives the deadline
record FromRow {R : Type 0} (f : R → Option Deadline) (rows : List R) (d : Deadline) : Type 0 where
  row : R
  among : Among row rows
  gives : f row ≡ Some d

module _ {R : Type 0} (f : R → Option Deadline) where
  in_front : (o : Option Deadline) (d : Deadline) (ds : List Deadline) → o ≡ Some d → IsIn d (cons_option o ds)
  in_front None d ds e = absurd (cc)
  in_front (Some x) d ds e = inl (cc)

  in_rest : (o : Option Deadline) (d : Deadline) (ds : List Deadline) → IsIn d ds → IsIn d (cons_option o ds)
  in_rest None d ds i = i
  in_rest (Some x) d ds i = inr i

  which : (o : Option Deadline) (d : Deadline) (ds : List Deadline) → IsIn d (cons_option o ds) → (o ≡ Some d) ⊎ IsIn d ds
  which None d ds i = inr i
  which (Some x) d ds (inl e) = inl (ap (λ (y : Deadline). Some y) e)
  which (Some x) d ds (inr i) = inr i

  to_list : (rows : List R) (x : R) → Among x rows → (d : Deadline) → f x ≡ Some d → IsIn d (filter_map f rows)
  to_list [] x a d e = elim a [ ]
  to_list (r ∷ rows) x here d e = in_front (f r) d (filter_map f rows) e
  to_list (r ∷ rows) x (later a) d e = in_rest (f r) d (filter_map f rows) (to_list rows x a d e)

  of_list : (rows : List R) (d : Deadline) → IsIn d (filter_map f rows) → FromRow f rows d
  of_list [] d i = absurd i
  of_list (r ∷ rows) d i = elim (which (f r) d (filter_map f rows) i) [
    | inl e ↦ record { row = r; among = here; gives = e }
    | inr j ↦ let h = of_list rows d j in record { row = h.row; among = later h.among; gives = h.gives }
  ]

-- a value that a number's row has
number_gives : {R : Type 0} (number : R → ℕ) (f : R → Option Deadline) (rows : List R) (n : ℕ) (d : Deadline) → option_and_then f (find (has_number number n) rows) ≡ Some d → FromRow f rows d
number_gives {R = R} number f rows n d e = by_row (find (has_number number n) rows) refl e
  where
    by_row : (r : Option R) → find (has_number number n) rows ≡ r → option_and_then f r ≡ Some d → FromRow f rows d
    by_row None g h = absurd (cc (h))
    by_row (Some x) g h = (let found : Found (has_number number n) rows x = find_is (has_number number n) rows x g in record { row = x; among = found.among; gives = h })

-- ---- the deadlines of a pool

not_both : (place : ℕ) → (place == 1) ≡ true → (place == 0) ≡ false
not_both place e = false_from_ne_true (place == 0) (λ z. let one : place ≡ 1 = eqb-true place 1 e in let none : place ≡ 0 = eqb-true place 0 z in omega arith)

module _ (s : PoolState) where
  of_slice : (t : TaskRow) (d : Deadline) → slice_end t ≡ Some d → task_deadline s t ≡ Some d
  of_slice t d e = elim (cases_Bool (has_state Pending t)) [
    | inl p ↦ cond-true (has_state Pending t) (slice_end t) (silence_end s t) p ∙ e
    | inr n ↦ absurd (let none : None ≡ Some d = sym (cond-false (has_state Pending t) _ None n) ∙ e in cc (none))
  ]

  of_silence : (t : TaskRow) (d : Deadline) → silence_end s t ≡ Some d → task_deadline s t ≡ Some d
  of_silence t d e = elim (cases_Bool (has_state Running t)) [
    | inl r ↦ cond-false (has_state Pending t) (slice_end t) (silence_end s t) (not_both (state_place t.state) r) ∙ e
    | inr n ↦ absurd (let none : None ≡ Some d = sym (cond-false (has_state Running t) _ None n) ∙ e in cc (none))
  ]

  either_end : (t : TaskRow) (d : Deadline) → task_deadline s t ≡ Some d → (slice_end t ≡ Some d) ⊎ (silence_end s t ≡ Some d)
  either_end t d e = elim (cases_Bool (has_state Pending t)) [
    | inl p ↦ inl (sym (cond-true (has_state Pending t) (slice_end t) (silence_end s t) p) ∙ e)
    | inr n ↦ inr (sym (cond-false (has_state Pending t) (slice_end t) (silence_end s t) n) ∙ e)
  ]

  -- all deadlines but those of blobs
  abbrev row_deadlines : List Deadline
  row_deadlines = filter_map slice_end s.tasks ++ (filter_map (silence_end s) s.tasks ++ filter_map (bot_end s) s.bots)

  all_deadlines : deadlines s ≡ row_deadlines ++ map blob_end s.blobs
  all_deadlines =
      ap (λ (ds : List Deadline). filter_map slice_end s.tasks ++ ds) (sym (append_assoc (filter_map (silence_end s) s.tasks) (filter_map (bot_end s) s.bots) (map blob_end s.blobs)))
      ∙ sym (append_assoc (filter_map slice_end s.tasks) (filter_map (silence_end s) s.tasks ++ filter_map (bot_end s) s.bots) (map blob_end s.blobs))

  module _ (o : IsSound s) (ends bot_ends : List (Option Deadline)) (tasks_are : AreTaskDeadlines ends s) (bots_are : AreBotDeadlines bot_ends s) where
    HasOne : Deadline → Type 0
    HasOne d = Has ends d ⊎ Has bot_ends d

    task_has : (x : TaskRow) → Among x s.tasks → (d : Deadline) → task_deadline s x ≡ Some d → Has ends d
    task_has x a d e = record { place = x.no; there = tasks_are x.no ∙ ap (option_and_then (task_deadline s)) (find_task s o x x.no a refl) ∙ e }

    listed : (d : Deadline) → IsIn d row_deadlines → HasOne d
    unfolding HasOne
    listed d i = elim (in_parts d (filter_map slice_end s.tasks) (filter_map (silence_end s) s.tasks ++ filter_map (bot_end s) s.bots) i) [
      | inl a ↦ let h = of_list slice_end s.tasks d a in inl (task_has h.row h.among d (of_slice h.row d h.gives))
      | inr j ↦ elim (in_parts d (filter_map (silence_end s) s.tasks) (filter_map (bot_end s) s.bots) j) [
        | inl b ↦ let h = of_list (silence_end s) s.tasks d b in inl (task_has h.row h.among d (of_silence h.row d h.gives))
        | inr c ↦ let h = of_list (bot_end s) s.bots d c in
            inr (record { place = h.row.no; there = bots_are h.row.no ∙ ap (option_and_then (bot_end s)) (find_bot s o h.row h.row.no h.among refl) ∙ h.gives })
      ]
    ]

    in_list : (d : Deadline) → HasOne d → IsIn d row_deadlines
    unfolding HasOne
    in_list d (inr h) =
        (let r = number_gives no_of_bot (bot_end s) s.bots h.place d (sym (bots_are h.place) ∙ h.there) in
        in_right d (filter_map slice_end s.tasks) _ (in_right d (filter_map (silence_end s) s.tasks) (filter_map (bot_end s) s.bots) (to_list (bot_end s) s.bots r.row r.among d r.gives)))
    in_list d (inl h) =
        (let r = number_gives no_of_task (task_deadline s) s.tasks h.place d (sym (tasks_are h.place) ∙ h.there) in
        elim (either_end r.row d r.gives) [
          | inl a ↦ in_left d (filter_map slice_end s.tasks) _ (to_list slice_end s.tasks r.row r.among d a)
          | inr b ↦ in_right d (filter_map slice_end s.tasks) _ (in_left d (filter_map (silence_end s) s.tasks) (filter_map (bot_end s) s.bots) (to_list (silence_end s) s.tasks r.row r.among d b))
        ])

    rows_next : (a b : Option Deadline) → IsFirstOf ends a → IsFirstOf bot_ends b → fold sooner None row_deadlines ≡ earlier_of a b
    unfolding HasOne
    rows_next a b g h =
        fold_is HasOne row_deadlines listed in_list (earlier_of a b)
        (merge (Has ends) (Has bot_ends) HasOne (λ d e. e) (λ d e. inl e) (λ d e. inr e) a b (least_of ends a g) (least_of bot_ends b h))

-- the earliest of the blobs' deadlines, which stand in any order
blobs_next : (s : PoolState) (ends : List Deadline) → AreBlobDeadlines ends s → (blob : Option Deadline) → IsEarliestOf ends blob → fold sooner None (map blob_end s.blobs) ≡ blob
blobs_next s ends are blob g =
    fold_is (Contains ends) (map blob_end s.blobs)
    (λ d i. (are.each d).1 (contains_of (map blob_end s.blobs) d (among_in d (map blob_end s.blobs) i)))
    (λ d c. in_among d (map blob_end s.blobs) (among_of (map blob_end s.blobs) d ((are.each d).0 c)))
    blob (least_in blob g)
  where
    least_in : (first : Option Deadline) → IsEarliestOf ends first → IsLeastOf (Contains ends) first
    least_in None none = none
    least_in (Some d) is = (is.among, is.least)

pub deadline_is_next : DeadlineIsNext
deadline_is_next s o ends bot_ends tasks_are bots_are blob_ends blobs_are task bot blob g h b =
    ap (earlier_of (earlier_of task bot)) (sym (blobs_next s blob_ends blobs_are blob b))
    ∙ sym (fold_from (earlier_of task bot) (map blob_end s.blobs))
    ∙ ap (λ (best : Option Deadline). fold sooner best (map blob_end s.blobs)) (sym (rows_next s o ends bot_ends tasks_are bots_are task bot g h))
    ∙ sym (fold-append sooner None (row_deadlines s) (map blob_end s.blobs))
    ∙ ap (fold sooner None) (sym (all_deadlines s))
