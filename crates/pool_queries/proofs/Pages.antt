-- A page is taken one row at a time, each from the place of the one before it.
use Rattle.std.proofs.Common.{◌≡◌, ℕ, ◌+◌, ◌-◌, ◌<◌, ◌≤◌, List, [], ◌∷◌, ◌++◌, length, take, drop, map, get_or, Option, Some, None, Bool, true, false, refl, sym, ap, ◌∙◌, arith}
use Rattle.std.specs.Prelude.{nat_lt, slice_get, if◌then◌else◌}
use Rattle.std.specs.Option.{option_map, option_and_then}
use Rattle.std.proofs.lemmas.Bool.Decides.{nat_tests}
use Rattle.std.proofs.lemmas.List.{length-drop, drop_more, map_more, take_all}
use Rattle.std.proofs.lemmas.Option.{slice_get-get_or}
use Rattle.swarm_model.specs.Pages.{cursor_of}

-- what is left behind the first row is what stood behind it
abbrev pub GoesOn : {C R : Type 0} → (C → List R) → (R → C) → Type 0
GoesOn {C} {R} left place_of = (c : C) (row : R) (more : List R) → left c ≡ row ∷ more → left (place_of row) ≡ more

-- items show so many of the rows from a place on; the next rows are those left at another place,
-- which tells the key of the last row that is shown
pub record IsPage {C R K V : Type 0} (left : C → List R) (tell : C → Option K) (key : R → K) (view : R → V) (from at : C) (count : ℕ) (items : List V) : Type 0 where
  pub shown : items ≡ map view (take count (left from))
  pub rest : left at ≡ drop count (left from)
  pub last : 0 < count → tell at ≡ option_map key (slice_get (left from) (count - 1))

first_of : {R : Type 0} (rows : List R) (row : R) → Some row ≡ slice_get rows 0 → (more : List R) × (rows ≡ row ∷ more)
first_of [] row is = absurd (cc)
first_of (a ∷ rows) row is = (rows, (let e : a ≡ row = cc in λ i. e i ∷ rows))

none_of : {R : Type 0} (rows : List R) → None ≡ slice_get rows 0 → rows ≡ []
none_of [] is = refl
none_of (a ∷ rows) is = absurd (cc)

by_length : {R K : Type 0} (key : R → K) (limit : ℕ) (rows : List R) (t : Bool) → nat_lt limit (length rows) ≡ t → (if t then option_map key (slice_get rows (limit - 1)) else None) ≡ cursor_of key limit rows
by_length key limit rows t e = ap (λ (u : Bool). if u then option_map key (slice_get rows (limit - 1)) else None) (sym e)

module _ {C R K V : Type 0} {left : C → List R} {tell : C → Option K} {key : R → K} {view : R → V} {from at : C} where
  -- a row is left behind the page
  low : (count : ℕ) (items : List V) (row : R) (more : List R) → IsPage left tell key view from at count items → left at ≡ row ∷ more → count < length (left from)
  low count items row more page is = omega (arith, length-drop count (left from), ap length (sym page.rest ∙ is))

  -- a row more
  pub page_more : (place_of : R → C) (row : R) (count : ℕ) (items : List V) → GoesOn left place_of → tell (place_of row) ≡ Some (key row) → IsPage left tell key view from at count items → Some row ≡ slice_get (left at) 0 →
      IsPage left tell key view from (place_of row) (count + 1) (items ++ view row ∷ [])
  page_more place_of row count items goes_on tells page is =
      let all = left from in
      let first = first_of (left at) row is in
      let within = low count items row first.0 page first.1 in
      let step : drop count all ≡ get_or all count row ∷ drop (count + 1) all = drop_more all count row within in
      let here : drop count all ≡ row ∷ first.0 = sym page.rest ∙ first.1 in
      let one : get_or all count row ≡ row = cc (step, here) in
      let others : drop (count + 1) all ≡ first.0 = cc (step, here) in
      let place : count ≡ count + 1 - 1 = omega arith in
      let got : slice_get all count ≡ Some row = slice_get-get_or all count row within ∙ ap (λ (r : R). Some r) one in
      record {
        shown = ap (λ xs. xs ++ view row ∷ []) page.shown ∙ ap (λ (r : R). map view (take count all) ++ view r ∷ []) (sym one) ∙ sym (map_more view all count row within);
        rest = goes_on at row first.0 first.1 ∙ sym others;
        last = λ some. tells ∙ sym (ap (option_map key) (ap (slice_get all) (sym place) ∙ got));
      }

  few : (count : ℕ) (items : List V) → IsPage left tell key view from at count items → None ≡ slice_get (left at) 0 → length (left from) ≤ count
  few count items page is = omega (arith, length-drop count (left from), ap length (sym page.rest ∙ none_of (left at) is))

  -- the last page has all that is left
  pub page_whole : (count limit : ℕ) (items : List V) → count ≤ limit → IsPage left tell key view from at count items → None ≡ slice_get (left at) 0 → items ≡ map view (take limit (left from))
  page_whole count limit items within page is =
      let short = few count items page is in
      page.shown ∙ ap (map view) (take_all count (left from) short ∙ sym (take_all limit (left from) (omega arith)))

  -- and no cursor
  pub no_cursor : (count limit : ℕ) (items : List V) → count ≤ limit → IsPage left tell key view from at count items → None ≡ slice_get (left at) 0 → None ≡ cursor_of key limit (left from)
  no_cursor count limit items within page is = let short = few count items page is in by_length key limit (left from) false (grind (arith, nat_tests))

  -- a full page tells its last row where more are left
  pub page_cursor : (limit : ℕ) (items : List V) → 1 ≤ limit → IsPage left tell key view from at limit items → option_and_then (λ row. tell at) (slice_get (left at) 0) ≡ cursor_of key limit (left from)
  page_cursor limit items some page = by_next (slice_get (left at) 0) refl
    where
      by_next : (next : Option R) → next ≡ slice_get (left at) 0 → option_and_then (λ row. tell at) next ≡ cursor_of key limit (left from)
      by_next None is = no_cursor limit limit items (omega arith) page is
      by_next (Some row) is =
          let first = first_of (left at) row is in
          let within = low limit items row first.0 page first.1 in page.last some ∙ by_length key limit (left from) true (grind (arith, nat_tests))
