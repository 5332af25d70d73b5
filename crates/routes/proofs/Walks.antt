-- How matchit's walk goes over rows that begin with the same bytes.
use Rattle.std.proofs.Common.{◌≡◌, ℕ, zero, suc, ◌-◌, ◌<◌, List, [], ◌∷◌, ◌++◌, Bool, true, false, cond, ◌==◌, ◌&&◌, ltb, ◌+◌, ◌≤◌, lit≤, lit<, subst, append-nil, arith, length, drop, refl, sym, ap, ◌∙◌}
use Rattle.std.specs.Prelude.{Option, Some, None}
use Rattle.std.proofs.lemmas.Bool.{ne_eqb, eqb-true, eqb-false}
use Rattle.std.specs.Prelude.{nat_eq}
use Rattle.std.specs.List.{starts_with}
use Rattle.std.specs.Cmp.Lexicographic.{pointwise}
use Rattle.routes.proofs.Cuts.{cut, last_of, parts_of_cut}
use Rattle.matchit.specs.Level.{IsText}
use Rattle.matchit.specs.Order.{lookup}
use Rattle.matchit.specs.Rows.{RowsOf, param_token, catch_all_token}
use Rattle.matchit.specs.Seek.{seek, own, step, or_else, param_step, has_slash, same_text, segment, cuts}

module _ {K : Type 0} where
  pub or_else-none : (o : Option K) → or_else o None ≡ o
  or_else-none None = refl
  or_else-none (Some k) = refl

  param_none : (path : List ℕ) → (param_step {K = K} [] path).1 ≡ []
  unfolding param_step
  param_none path = elim (has_slash path) as (λ v. (cond {A = ℕ × RowsOf K} v (0, []) (length path, [])).1 ≡ []) [ true ↦ refl | false ↦ refl ]

  -- no rows have no route
  pub seek_none : (n : ℕ) (p : List ℕ) → seek {K = K} n [] p ≡ None
  unfolding seek
  seek_none n [] = refl
  seek_none (suc n) (b ∷ p) = seek_none n p
  seek_none zero (b ∷ p) = rw (seek_none 0 p, param_none (b ∷ p), seek_none ((param_step {K = K} [] (b ∷ p)).0 - 1) p) refl

  -- rows that have no parameter here go on by the byte
  pub seek_byte : (rs : RowsOf K) (b : ℕ) (p : List ℕ) → step param_token rs ≡ [] → step catch_all_token rs ≡ [] → seek 0 rs (b ∷ p) ≡ seek 0 (step b rs) p
  unfolding seek
  seek_byte rs b p one two =
      rw (one, two, param_none (b ∷ p), seek_none ((param_step {K = K} [] (b ∷ p)).0 - 1) p) (or_else-none _)

  -- the rows with a byte in front
  abbrev pub after : ℕ → RowsOf K → RowsOf K
  after x [] = []
  after x ((t, k) ∷ rs) = (x ∷ t, k) ∷ after x rs

  own-after : (x : ℕ) (rs : RowsOf K) → own (after x rs) ≡ None
  own-after x [] = refl
  own-after x ((t, k) ∷ rs) = own-after x rs

  step-after : (b x : ℕ) (rs : RowsOf K) → step b (after x rs) ≡ cond (x == b) rs []
  step-after b x [] = none_of (x == b)
    where
      none_of : (v : Bool) → ◌≡◌ {A = RowsOf K} [] (cond v [] [])
      none_of true = refl
      none_of false = refl
  step-after b x ((t, k) ∷ rs) = rw (step-after b x rs) (one_of (x == b))
    where
      one_of : (v : Bool) → ◌≡◌ {A = RowsOf K} (cond v ((t, k) ∷ cond v rs []) (cond v rs [])) (cond v ((t, k) ∷ rs) [])
      one_of true = refl
      one_of false = refl

  -- rows in two parts
  step-append : (b : ℕ) (rs qs : RowsOf K) → step b (rs ++ qs) ≡ step b rs ++ step b qs
  step-append b [] qs = refl
  step-append b (([], k) ∷ rs) qs = step-append b rs qs
  step-append b ((x ∷ t, k) ∷ rs) qs = rw (step-append b rs qs) (split (x == b))
    where
      split : (v : Bool) → ◌≡◌ {A = RowsOf K} (cond v ((t, k) ∷ (step b rs ++ step b qs)) (step b rs ++ step b qs)) (cond v ((t, k) ∷ step b rs) (step b rs) ++ step b qs)
      split true = refl
      split false = refl

  -- rows after one byte
  pub seek_after : (x b : ℕ) (rs : RowsOf K) (p : List ℕ) → x < 256 → seek 0 (after x rs) (b ∷ p) ≡ cond (x == b) (seek 0 rs p) None
  seek_after x b rs p small =
      let one = ne_eqb x 256 (omega arith) in
      let two = ne_eqb x 257 (omega arith) in
      seek_byte (after x rs) b p (step-after 256 x rs ∙ ap (λ v. cond v rs []) one) (step-after 257 x rs ∙ ap (λ v. cond v rs []) two)
      ∙ ap (λ qs. seek 0 qs p) (step-after b x rs) ∙ either_way (x == b)
    where
      either_way : (v : Bool) → seek 0 (cond v rs []) p ≡ cond v (seek 0 rs p) None
      either_way true = refl
      either_way false = seek_none 0 p

  -- a skip leaves bytes out
  pub seek_skip : (n : ℕ) (rs : RowsOf K) (p : List ℕ) → seek n rs p ≡ seek 0 rs (drop n p)
  unfolding seek
  seek_skip zero rs p = refl
  seek_skip (suc n) rs [] = refl
  seek_skip (suc n) rs (b ∷ p) = seek_skip n rs p

  -- ---- rows of bytes alone

  abbrev pub AreTexts : RowsOf K → Type 0
  AreTexts [] = Unit {0}
  AreTexts ((t, k) ∷ rs) = IsText t × AreTexts rs

  step_wild : (w : ℕ) (rs : RowsOf K) → 256 ≤ w → AreTexts rs → step w rs ≡ []
  step_wild w [] big h = refl
  step_wild w (([], k) ∷ rs) big h = step_wild w rs big h.1
  step_wild w ((x ∷ t, k) ∷ rs) big h = rw (ne_eqb x w (λ e. less x w big h.0.0 e), step_wild w rs big h.1) refl
    where
      less : (x w : ℕ) → 256 ≤ w → x < 256 → x ≡ w → ⊥
      less x w big small e = omega arith

  AreTexts-step : (b : ℕ) (rs : RowsOf K) → AreTexts rs → AreTexts (step b rs)
  AreTexts-step b [] h = tt
  AreTexts-step b (([], k) ∷ rs) h = AreTexts-step b rs h.1
  AreTexts-step b ((x ∷ t, k) ∷ rs) h = either_way (x == b) (AreTexts-step b rs h.1)
    where
      either_way : (v : Bool) → AreTexts (step b rs) → AreTexts (cond v ((t, k) ∷ step b rs) (step b rs))
      either_way true r = (h.0.1, r)
      either_way false r = r

  lookup-step : (b : ℕ) (p : List ℕ) (rs : RowsOf K) → lookup p (step b rs) ≡ lookup (b ∷ p) rs
  lookup-step b p [] = refl
  lookup-step b p (([], k) ∷ rs) = lookup-step b p rs
  lookup-step b p ((x ∷ t, k) ∷ rs) = either_way (x == b) (lookup-step b p rs)
    where
      either_way : (v : Bool) → lookup p (step b rs) ≡ lookup (b ∷ p) rs
          → lookup p (cond v ((t, k) ∷ step b rs) (step b rs)) ≡ cond (v && same_text t p) (Some k) (lookup (b ∷ p) rs)
      either_way true r = ap (cond (same_text t p) (Some k)) r
      either_way false r = r

  own-lookup : (rs : RowsOf K) → own rs ≡ lookup [] rs
  own-lookup [] = refl
  own-lookup (([], k) ∷ rs) = refl
  own-lookup ((x ∷ t, k) ∷ rs) = own-lookup rs

  -- the walk over rows of bytes looks the path up
  pub seek_texts : (rs : RowsOf K) (p : List ℕ) → AreTexts rs → seek 0 rs p ≡ lookup p rs
  unfolding seek
  seek_texts rs [] h = own-lookup rs
  seek_texts rs (b ∷ p) h =
      seek_byte rs b p (step_wild 256 rs (lit≤ tt) h) (step_wild 257 rs (lit≤ tt) h)
      ∙ seek_texts (step b rs) p (AreTexts-step b rs h) ∙ lookup-step b p rs

-- ---- the parts of a path

-- a path has a slash after x, or none
data Slashes : List ℕ → Type 0 where
  none : {p : List ℕ} → has_slash p ≡ false → segment p ≡ p → cut p ≡ (p, None) → Slashes p
  some : {p : List ℕ} (x r : List ℕ) → p ≡ x ++ 47 ∷ r → has_slash p ≡ true → segment p ≡ x ++ 47 ∷ [] → cut p ≡ (x, Some r) → Slashes p

one_more : (b : ℕ) (p : List ℕ) (v : Bool) → (b == 47) ≡ v → Slashes p → Slashes (b ∷ p)
one_more b p true e s =
    let same = eqb-true b 47 e in
    some [] p (ap (λ (n : ℕ). n ∷ p) same) (rw e refl) (rw (e, same) refl) (rw e refl)
one_more b p false e (none h g c) = none (rw (e, h) refl) (rw (e, g) refl) (rw (e, c) refl)
one_more b p false e (some x r q h g c) = some (b ∷ x) r (ap (λ (t : List ℕ). b ∷ t) q) (rw (e, h) refl) (rw (e, g) refl) (rw (e, c) refl)

slashes : (p : List ℕ) → Slashes p
slashes [] = none refl refl refl
slashes (b ∷ p) = one_more b p (b == 47) refl (slashes p)

-- whether the last byte is a slash
abbrev ends_in_slash : List ℕ → Bool
ends_in_slash s = pointwise nat_eq (47 ∷ []) (drop (length s - 1) s)

no_slash_at_end : (b : ℕ) (p : List ℕ) → has_slash (b ∷ p) ≡ false → ends_in_slash (b ∷ p) ≡ false
no_slash_at_end b [] h = by_test (b == 47) refl h
  where
    by_test : (v : Bool) → (b == 47) ≡ v → cond v true false ≡ false → ((47 == b) && true) ≡ false
    by_test true e h = cc
    by_test false e h = rw (ne_eqb 47 b (λ q. eqb-false b 47 e (sym q))) refl
no_slash_at_end b (c ∷ q) h = by_test (b == 47) refl h (no_slash_at_end c q)
  where
    by_test : (v : Bool) → (b == 47) ≡ v → cond v true (has_slash (c ∷ q)) ≡ false → (has_slash (c ∷ q) ≡ false → ends_in_slash (c ∷ q) ≡ false) → ends_in_slash (b ∷ c ∷ q) ≡ false
    by_test true e h r = cc
    by_test false e h r =
        let n : length (b ∷ c ∷ q) - 1 ≡ suc (length (c ∷ q) - 1) = omega arith in
        rw n (r h)

slash_at_end : (x : List ℕ) → ends_in_slash (x ++ 47 ∷ []) ≡ true
slash_at_end [] = refl
slash_at_end (b ∷ x) =
    let n : length (b ∷ (x ++ 47 ∷ [])) - 1 ≡ suc (length (x ++ 47 ∷ []) - 1) = after_all x in
    rw n (slash_at_end x)
  where
    after_all : (x : List ℕ) → suc (length (x ++ 47 ∷ [])) - 1 ≡ suc (length (x ++ 47 ∷ []) - 1)
    after_all [] = refl
    after_all (c ∷ x) = omega arith

-- ---- rows with parameters

-- whether the first segment is a part and a slash
abbrev is_part : List ℕ → Bool
is_part s = cuts (segment s) (47 ∷ [])

-- a text after the front is a text
IsText-after : (x r : List ℕ) → IsText (x ++ r) → IsText r
IsText-after [] r h = h
IsText-after (b ∷ x) r h = IsText-after x r h.1

length-end : (x : List ℕ) → length (x ++ 47 ∷ []) ≡ length x + 1
length-end [] = refl
length-end (b ∷ x) = let e = length-end x in omega (arith, e)

drop-front : (x r : List ℕ) → drop (length x) (x ++ r) ≡ r
drop-front [] r = refl
drop-front (b ∷ x) r = drop-front x r

-- a first segment that is a byte and more
part_is : (b : ℕ) (x : List ℕ) (s : List ℕ) → segment s ≡ b ∷ (x ++ 47 ∷ []) → is_part s ≡ true
part_is b x s g =
    let n = length-end x in
    let long : ltb 1 (length (b ∷ (x ++ 47 ∷ []))) ≡ true = rw n (more (length x)) in
    let ends = slash_at_end (b ∷ x) in
    rw (g, long) ends
  where
    more : (n : ℕ) → ltb 1 (suc (n + 1)) ≡ true
    more n = grind arith

-- one that is a slash
no_part_at_slash : (s : List ℕ) → segment s ≡ 47 ∷ [] → is_part s ≡ false
no_part_at_slash s g = rw g refl

-- one that has none
no_part_without : (b : ℕ) (p : List ℕ) → has_slash (b ∷ p) ≡ false → segment (b ∷ p) ≡ b ∷ p → is_part (b ∷ p) ≡ false
no_part_without b p h g =
    let ends = no_slash_at_end b p h in
    rw (g, ends) (and_none (ltb 1 (length (b ∷ p))))
  where
    and_none : (v : Bool) → (v && false) ≡ false
    and_none true = refl
    and_none false = refl

module _ {K : Type 0} where
  seek_over : (rs : RowsOf K) (p : List ℕ) → seek (length p) rs p ≡ own rs
  unfolding seek
  seek_over rs [] = refl
  seek_over rs (b ∷ p) = seek_over rs p

  param_row : (k : K) (s : List ℕ) (v : Bool) → has_slash s ≡ v → param_step (([], k) ∷ []) s ≡ cond v (0, []) (length s, ([], k) ∷ [])
  unfolding param_step
  param_row k s v h = rw h refl

  param_step_in : (k : K) (b : ℕ) (p : List ℕ) → b < 256 → seek 0 ((256 ∷ [], k) ∷ []) (b ∷ p) ≡ seek ((param_step (([], k) ∷ []) (b ∷ p)).0 - 1) (param_step (([], k) ∷ []) (b ∷ p)).1 p
  unfolding seek
  param_step_in k b p small = rw (ne_eqb 256 b (λ e. omega arith), seek_none {K = K} 0 p) (or_else-none _)

  last_row : (k : K) (b : ℕ) (p : List ℕ) (v : Bool) → b < 256 → has_slash (b ∷ p) ≡ v → seek 0 ((256 ∷ [], k) ∷ []) (b ∷ p) ≡ cond v None (Some k)
  last_row k b p true small h = param_step_in k b p small ∙ rw (param_row k (b ∷ p) true h) (seek_none _ p)
  last_row k b p false small h =
      let n : length (b ∷ p) - 1 ≡ length p = omega arith in
      param_step_in k b p small ∙ rw (param_row k (b ∷ p) false h, n) (seek_over (([], k) ∷ []) p)

  last_part : (k : K) (s : List ℕ) → IsText s → seek 0 ((256 ∷ [], k) ∷ []) s ≡ last_of k (cut s)
  unfolding seek
  last_part k [] h = refl
  last_part k (b ∷ p) h = by_slashes (slashes (b ∷ p))
    where
      by_slashes : Slashes (b ∷ p) → seek 0 ((256 ∷ [], k) ∷ []) (b ∷ p) ≡ last_of k (cut (b ∷ p))
      by_slashes (none lacks g c) = last_row k b p false h.0 lacks ∙ ap (last_of k) (sym c)
      by_slashes (some x r q has g c) = last_row k b p true h.0 has ∙ none_after x r ∙ ap (last_of k) (sym c)
        where
          none_after : (x r : List ℕ) → None ≡ last_of k (x, Some r)
          none_after [] r = refl
          none_after (y ∷ x) r = refl

  -- two parts, or one
  abbrev pub two_rows : K → K → RowsOf K
  two_rows two one = (256 ∷ 47 ∷ 256 ∷ [], two) ∷ (256 ∷ [], one) ∷ []

  abbrev inner_rows : K → K → RowsOf K
  inner_rows two one = (47 ∷ 256 ∷ [], two) ∷ ([], one) ∷ []

  two_step_in : (two one : K) (b : ℕ) (p : List ℕ) → b < 256
      → seek 0 (two_rows two one) (b ∷ p) ≡ seek ((param_step (inner_rows two one) (b ∷ p)).0 - 1) (param_step (inner_rows two one) (b ∷ p)).1 p
  unfolding seek
  two_step_in two one b p small = rw (ne_eqb 256 b (λ e. omega arith), seek_none {K = K} 0 p) (or_else-none _)

  inner_cut : (two one : K) (s : List ℕ) → is_part s ≡ true → param_step (inner_rows two one) s ≡ (length (segment s) - 1, (47 ∷ 256 ∷ [], two) ∷ [])
  unfolding param_step
  inner_cut two one s h = rw h refl

  inner_rest : (two one : K) (s : List ℕ) (v : Bool) → is_part s ≡ false → has_slash s ≡ v → param_step (inner_rows two one) s ≡ cond v (0, []) (length s, inner_rows two one)
  unfolding param_step
  inner_rest two one s v h g = rw (h, g) refl

  pub two_parts : (two one : K) (s : List ℕ) → IsText s → seek 0 (two_rows two one) s ≡ parts_of_cut two one (cut s)
  unfolding seek
  two_parts two one [] h = refl
  two_parts two one (b ∷ p) h = by_slashes (slashes (b ∷ p))
    where
      by_slashes : Slashes (b ∷ p) → seek 0 (two_rows two one) (b ∷ p) ≡ parts_of_cut two one (cut (b ∷ p))
      by_slashes (none lacks g c) =
          let n : length (b ∷ p) - 1 ≡ length p = omega arith in
          two_step_in two one b p h.0
          ∙ rw (inner_rest two one (b ∷ p) false (no_part_without b p lacks g) lacks, n) (seek_over (inner_rows two one) p)
          ∙ ap (parts_of_cut two one) (sym c)
      by_slashes (some [] r q has g c) =
          two_step_in two one b p h.0
          ∙ rw (inner_rest two one (b ∷ p) true (no_part_at_slash (b ∷ p) g) has) (seek_none _ p)
          ∙ ap (parts_of_cut two one) (sym c)
      by_slashes (some (y ∷ x) r q has g c) =
          let n = length-end x in
          let skip : length (segment (b ∷ p)) - 1 - 1 ≡ length x = rw g (omega (arith, n)) in
          let tail : p ≡ x ++ 47 ∷ r = ap (drop 1) q in
          let rest : IsText (47 ∷ r) = IsText-after (y ∷ x) (47 ∷ r) (subst IsText q h) in
          two_step_in two one b p h.0
          ∙ rw (inner_cut two one (b ∷ p) (part_is y x (b ∷ p) g), skip, seek_skip (length x) ((47 ∷ 256 ∷ [], two) ∷ []) p, tail, drop-front x (47 ∷ r)) (
          seek_after 47 47 ((256 ∷ [], two) ∷ []) r (lit< tt) ∙ last_part two r rest.1
          )
          ∙ ap (parts_of_cut two one) (sym c)

  -- ---- rows under a text

  abbrev pub under : List ℕ → RowsOf K → RowsOf K
  under [] rs = rs
  under (x ∷ w) rs = after x (under w rs)

  abbrev pub step_all : List ℕ → RowsOf K → RowsOf K
  step_all [] ts = ts
  step_all (x ∷ w) ts = step_all w (step x ts)

  own-append : (x : ℕ) (rs ts : RowsOf K) → own (after x rs ++ ts) ≡ own ts
  own-append x [] ts = refl
  own-append x ((t, k) ∷ rs) ts = own-append x rs ts

  pub seek_under : (w : List ℕ) (rs : RowsOf K) (t : List ℕ) → IsText w → seek 0 (under w rs) t ≡ cond (starts_with nat_eq t w) (seek 0 rs (drop (length w) t)) None
  unfolding seek
  seek_under [] rs t h = refl
  seek_under (x ∷ w) rs [] h = own-after x (under w rs)
  seek_under (x ∷ w) rs (b ∷ p) h = seek_after x b (under w rs) p h.0 ∙ by_test (x == b) (seek_under w rs p h.1)
    where
      by_test : (v : Bool) → seek 0 (under w rs) p ≡ cond (starts_with nat_eq p w) (seek 0 rs (drop (length w) p)) None
          → cond v (seek 0 (under w rs) p) None ≡ cond (v && starts_with nat_eq p w) (seek 0 rs (drop (length w) p)) None
      by_test true r = r
      by_test false r = refl

  pub seek_beside : (w : List ℕ) (rs ts : RowsOf K) (t : List ℕ) → IsText w → AreTexts ts → step_all w ts ≡ []
      → seek 0 (under w rs ++ ts) t ≡ or_else (seek 0 (under w rs) t) (seek 0 ts t)
  unfolding seek
  seek_beside [] rs ts t h g e = rw (e, append-nil rs, seek_none {K = K} 0 t) (sym (or_else-none (seek 0 rs t)))
  seek_beside (x ∷ w) rs ts [] h g e = own-append x (under w rs) ts ∙ ap (λ o. or_else o (own ts)) (sym (own-after x (under w rs)))
  seek_beside (x ∷ w) rs ts (b ∷ p) h g e =
      let one = step-append 256 (after x (under w rs)) ts ∙ ap (λ qs. qs ++ step 256 ts) (step-after 256 x (under w rs) ∙ ap (λ v. cond v (under w rs) []) (ne_eqb x 256 (λ q. small q))) ∙ step_wild 256 ts (lit≤ tt) g in
      let two = step-append 257 (after x (under w rs)) ts ∙ ap (λ qs. qs ++ step 257 ts) (step-after 257 x (under w rs) ∙ ap (λ v. cond v (under w rs) []) (ne_eqb x 257 (λ q. smaller q))) ∙ step_wild 257 ts (lit≤ tt) g in
      let texts = seek_byte ts b p (step_wild 256 ts (lit≤ tt) g) (step_wild 257 ts (lit≤ tt) g) in
      seek_byte (after x (under w rs) ++ ts) b p one two
      ∙ ap (λ qs. seek 0 qs p) (step-append b (after x (under w rs)) ts ∙ ap (λ qs. qs ++ step b ts) (step-after b x (under w rs)))
      ∙ by_test (x == b) refl (λ q. seek_beside w rs (step b ts) p h.1 (AreTexts-step b ts g) (rw (← q) e))
      ∙ sym (ap (λ o. or_else o (seek 0 ts (b ∷ p))) (seek_after x b (under w rs) p h.0) ∙ ap (λ o. or_else (cond (x == b) (seek 0 (under w rs) p) None) o) texts)
    where
      small : x ≡ 256 → ⊥
      small q = let l : x < 256 = h.0 in omega arith

      smaller : x ≡ 257 → ⊥
      smaller q = let l : x < 256 = h.0 in omega arith

      by_test : (v : Bool) → (x == b) ≡ v → (x ≡ b → seek 0 (under w rs ++ step b ts) p ≡ or_else (seek 0 (under w rs) p) (seek 0 (step b ts) p))
          → seek 0 (cond v (under w rs) [] ++ step b ts) p ≡ or_else (cond v (seek 0 (under w rs) p) None) (seek 0 (step b ts) p)
      by_test true q r = r (eqb-true x b q)
      by_test false q r = refl
