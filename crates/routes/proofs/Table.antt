-- What a router of the table answers.
use Rattle.std.proofs.Common.{◌≡◌, ℕ, zero, suc, List, [], ◌∷◌, ◌++◌, Bool, true, false, cond, Option, Some, None, map, drop, Fits, w8, get_or, arith, ◌<◌, refl, ap, ◌∙◌}
use Rattle.std.specs.Prelude.{Result, Ok, Err, codes, nat_eq, nat_lt}
use Rattle.std.specs.List.{fold, find, list_all, starts_with}
use Rattle.std.specs.Option.{option_map, option_and_then}
use Rattle.std.proofs.lemmas.Bool.{and_parts, ltb-true}
use Rattle.dimensions.specs.Alike.{same}
use Rattle.dimensions.specs.Choosing.{when, ◌or_else◌}
use Rattle.matchit.specs.Level.{IsText}
use Rattle.matchit.specs.Order.{lookup}
use Rattle.matchit.specs.Route.{Scan, scan_start, parse_route}
use Rattle.matchit.specs.Router.{RouteOf, route_from}
use Rattle.matchit.specs.Seek.{seek, or_else as either}
use Rattle.matchit.specs.declared.error.InsertError.{InsertError}
use Rattle.matchit.proofs.OnLiterals.{matchit_on_literals}
use Rattle.routes.specs.declared.route.Route.{Route}
use Rattle.routes.specs.declared.route.Route.TheVariants.{FindMissing}
use Rattle.routes.specs.declared.resource.Resource.{Resource}
use Rattle.routes.specs.declared.resource.Resource.TheVariants.{Call, Blob}
use Rattle.routes.specs.Routes.{routes, call_in, blobs, blob_path, blob_resource, resource_in}
use Rattle.routes.specs.Rows.{Rows, answer, with_row}
use Rattle.routes.proofs.Cuts.{cut, last_of, parts_of_cut, resource_of_cut}
use Rattle.routes.proofs.Walks.{under, two_rows, two_parts, seek_under, seek_beside, seek_texts, AreTexts, step_all}

abbrev as_call : List ℕ × Route → List ℕ × Resource
as_call row = (row.0, Call row.1)

abbrev second : {A : Type 0} → List ℕ × A → A
second row = row.1

-- the rows that are put in, in their order
abbrev pub entries : List (List ℕ × Resource)
entries = (codes "/blobs/{pool}", Call FindMissing) ∷ (codes "/blobs/{pool}/{digest}", Blob) ∷ map as_call routes

abbrev pub table : Rows
table = fold with_row [] entries

abbrev scan_of : Result Scan InsertError → Scan
scan_of (Ok scan) = scan
scan_of (Err why) = scan_start

abbrev two : RouteOf Resource
two = route_from (scan_of (parse_route (codes "/blobs/{pool}/{digest}"))) Blob

abbrev one : RouteOf Resource
one = route_from (scan_of (parse_route (codes "/blobs/{pool}"))) (Call FindMissing)

-- the rows of the targets that have no parameter
abbrev plain : Rows
plain = drop 2 table

table_is : table ≡ under blobs (two_rows two one) ++ plain
unfolding matchit_on_literals with_row
table_is = refl

nothing_beside : step_all blobs plain ≡ []
unfolding matchit_on_literals with_row
nothing_beside = refl

-- ---- texts, by a test that computes

abbrev is_text : List ℕ → Bool
is_text t = list_all (λ x. nat_lt x 256) t

text_from_test : (t : List ℕ) → is_text t ≡ true → IsText t
text_from_test [] h = tt
text_from_test (x ∷ t) h =
    let parts = and_parts (nat_lt x 256) (is_text t) h in
    (ltb-true x 256 parts.0, text_from_test t parts.1)

are_texts : Rows → Bool
are_texts rows = list_all (λ row. is_text row.0) rows

texts_from_test : (rows : Rows) → are_texts rows ≡ true → AreTexts rows
unfolding are_texts
texts_from_test [] h = tt
texts_from_test ((t, row) ∷ rows) h =
    let parts = and_parts (is_text t) (are_texts rows) h in
    (text_from_test t parts.0, texts_from_test rows parts.1)

plain_texts : AreTexts plain
unfolding matchit_on_literals with_row are_texts
plain_texts = texts_from_test plain refl

IsText-drop : (n : ℕ) (t : List ℕ) → IsText t → IsText (drop n t)
IsText-drop zero t h = h
IsText-drop (suc n) [] h = tt
IsText-drop (suc n) (b ∷ t) h = IsText-drop n t h.1

-- the bytes of a text
pub IsText-from_fits : (t : List ℕ) → ((i : ℕ) → Fits w8 (get_or t i 0)) → IsText t
IsText-from_fits [] h = tt
IsText-from_fits (b ∷ t) h = (below b (h 0), IsText-from_fits t (λ i. h (suc i)))
  where
    below : (n : ℕ) → Fits w8 n → n < 256
    below n f = omega (arith, f)

-- ---- what the rows hold

abbrev calls : Rows → List (List ℕ × Resource)
calls rows = map (λ row. (row.0, row.1.value)) rows

abbrev resource_among : List (List ℕ × Resource) → List ℕ → Option Resource
resource_among rows target = option_map second (find (λ row. same row.0 target) rows)

value_of_lookup : (target : List ℕ) (rows : Rows) → option_map (λ row. row.value) (lookup target rows) ≡ resource_among (calls rows) target
value_of_lookup target [] = refl
value_of_lookup target ((t, row) ∷ rows) = by_test (same t target) (value_of_lookup target rows)
  where
    by_test : (v : Bool) → option_map (λ row. row.value) (lookup target rows) ≡ resource_among (calls rows) target
        → option_map (λ row. row.value) (cond v (Some row) (lookup target rows)) ≡ option_map second (cond v (Some (t, row.value)) (find (λ row. same row.0 target) (calls rows)))
    by_test true h = refl
    by_test false h = h

call_of_row : (target : List ℕ) (rows : List (List ℕ × Route)) → resource_among (map as_call rows) target ≡ option_map Call (call_in rows target)
call_of_row target [] = refl
call_of_row target ((t, route) ∷ rows) = by_test (same t target) (call_of_row target rows)
  where
    by_test : (v : Bool) → resource_among (map as_call rows) target ≡ option_map Call (call_in rows target)
        → option_map second (cond v (Some (t, Call route)) (find (λ row. same row.0 target) (map as_call rows)))
        ≡ option_map Call (option_map second (cond v (Some (t, route)) (find (λ row. same row.0 target) rows)))
    by_test true h = refl
    by_test false h = h

calls_are : calls plain ≡ map as_call routes
unfolding matchit_on_literals with_row
calls_are = refl

value_of_parts : (a b : RouteOf Resource) (c : List ℕ × Option (List ℕ)) → option_map (λ row. row.value) (parts_of_cut a b c) ≡ parts_of_cut a.value b.value c
value_of_parts a b ([], r) = refl
value_of_parts a b (x ∷ xs, None) = refl
value_of_parts a b (x ∷ xs, Some r) = value_of_last (cut r)
  where
    value_of_last : (c : List ℕ × Option (List ℕ)) → option_map (λ row. row.value) (last_of a c) ≡ last_of a.value c
    value_of_last ([], r) = refl
    value_of_last (x ∷ xs, None) = refl
    value_of_last (x ∷ xs, Some r) = refl

value_of_either : (a b : Option (RouteOf Resource)) → option_map (λ row. row.value) (either a b) ≡ (option_map (λ row. row.value) a or_else option_map (λ row. row.value) b)
value_of_either None b = refl
value_of_either (Some row) b = refl

-- what is found below `/blobs/`
below_blobs : (target : List ℕ) (v : Bool) → option_map (λ row. row.value) (cond v (parts_of_cut two one (cut (drop 7 target))) None) ≡ option_and_then blob_resource (when v (drop 7 target))
unfolding matchit_on_literals
below_blobs target true = value_of_parts two one (cut (drop 7 target)) ∙ resource_of_cut (drop 7 target)
below_blobs target false = refl

-- ---- the walk

walk : (target : List ℕ) → IsText target
    → seek 0 table target ≡ either (cond (starts_with nat_eq target blobs) (parts_of_cut two one (cut (drop 7 target))) None) (lookup target plain)
walk target h =
    let front : IsText blobs = text_from_test blobs refl in
    ap (λ rows. seek 0 rows target) table_is
    ∙ seek_beside blobs (two_rows two one) plain target front plain_texts nothing_beside
    ∙ ap (λ o. either o (seek 0 plain target)) (
    seek_under blobs (two_rows two one) target front
    ∙ ap (λ o. cond (starts_with nat_eq target blobs) o None) (two_parts two one (drop 7 target) (IsText-drop 7 target h))
    )
    ∙ ap (λ o. either (cond (starts_with nat_eq target blobs) (parts_of_cut two one (cut (drop 7 target))) None) o) (seek_texts plain target plain_texts)

pub table_answers : (target : List ℕ) → IsText target → answer table target ≡ resource_in target
table_answers target h =
    ap (option_map (λ row. row.value)) (walk target h)
    ∙ value_of_either (cond (starts_with nat_eq target blobs) (parts_of_cut two one (cut (drop 7 target))) None) (lookup target plain)
    ∙ ap (λ o. o or_else option_map (λ row. row.value) (lookup target plain)) (below_blobs target (starts_with nat_eq target blobs))
    ∙ ap (λ o. option_and_then blob_resource (blob_path target) or_else o) (
    value_of_lookup target plain ∙ ap (λ rows. resource_among rows target) calls_are ∙ call_of_row target routes
    )
