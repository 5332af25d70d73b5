-- What stands in the places of a store after one gets other tables, or is new.
use Rattle.std.proofs.Common.{◌≡◌, ◌∙◌, ℕ, zero, suc, ◌<◌, List, [], ◌∷◌, ◌++◌, Bool, true, false, Option, Some, None, refl, sym, ap, subst, length, take, set, get_or, arith}
use Rattle.std.specs.Prelude.{◌&&◌, ◌||◌, if◌then◌else◌}
use Rattle.std.specs.List.{list_any}
use Rattle.std.specs.Cmp.Lexicographic.{bytes_decides}
use Rattle.std.proofs.lemmas.List.Folds.{list_any-append}
use Rattle.dimensions.specs.Alike.{same}
use Rattle.swarm_keeper.specs.Tables.{Tables, nothing}
use Rattle.swarm_keeper.specs.Stores.{is_at, with_tables, with_line}
use Rattle.swarm_keeper.specs.Places.{is_place, tables_in, has_place, IsFirst, IsKept, IsReplaced, IsTaken, Replaces}
use Rattle.swarm_keeper.specs.declared.memory_store.Place.{Place}
use mathlib.Core.Path.{fun_ext}

neither_left : (a b : Bool) → (a || b) ≡ false → a ≡ false
neither_left true b h = absurd (cc)
neither_left false b h = refl

neither_right : (a b : Bool) → (a || b) ≡ false → b ≡ false
neither_right true b h = absurd (cc)
neither_right false b h = h

-- the place of a folder and pool is found, where none before it is theirs
found : (f p : List ℕ) (xs : List Place) (i : ℕ) (x : Place) → list_any (is_place f p) (take i xs) ≡ false → i < length xs → x ≡ get_or xs i x → is_place f p x ≡ true → x.tables ≡ tables_in xs f p
found f p [] i x none inside at is = absurd (omega arith)
found f p (a ∷ xs) zero x none inside at is =
    let h : is_place f p a ≡ true = subst (λ y. is_place f p y ≡ true) at is in
    rw h (ap (λ (y : Place). y.tables) at)
found f p (a ∷ xs) (suc i) x none inside at is =
    let other : is_place f p a ≡ false = neither_left (is_place f p a) (list_any (is_place f p) (take i xs)) none in
    rw other (found f p xs i x (neither_right (is_place f p a) (list_any (is_place f p) (take i xs)) none) (omega arith) at is)

-- and it has other tables then
put_found : (f p : List ℕ) (xs : List Place) (i : ℕ) (y : Place) → list_any (is_place f p) (take i xs) ≡ false → i < length xs → is_place f p y ≡ true → tables_in (set xs i y) f p ≡ y.tables
put_found f p [] i y none inside is = absurd (omega arith)
put_found f p (a ∷ xs) zero y none inside is = rw is refl
put_found f p (a ∷ xs) (suc i) y none inside is =
    let other : is_place f p a ≡ false = neither_left (is_place f p a) (list_any (is_place f p) (take i xs)) none in
    rw other (put_found f p xs i y (neither_right (is_place f p a) (list_any (is_place f p) (take i xs)) none) (omega arith) is)

-- which are not looked at for others
put_other : (f p : List ℕ) (xs : List Place) (i : ℕ) (x y : Place) → x ≡ get_or xs i x → is_place f p x ≡ false → is_place f p y ≡ false → tables_in (set xs i y) f p ≡ tables_in xs f p
put_other f p [] i x y at was is = refl
put_other f p (a ∷ xs) zero x y at was is =
    let h : is_place f p a ≡ false = subst (λ z. is_place f p z ≡ false) at was in
    rw (is, h) refl
put_other f p (a ∷ xs) (suc i) x y at was is = ap (λ t. if is_place f p a then a.tables else t) (put_other f p xs i x y at was is)

put_places : (f p : List ℕ) (xs : List Place) (i : ℕ) (x y : Place) → x ≡ get_or xs i x → is_place f p y ≡ is_place f p x → has_place (set xs i y) f p ≡ has_place xs f p
put_places f p [] i x y at is = refl
put_places f p (a ∷ xs) zero x y at is = ap (λ b. b || has_place xs f p) (is ∙ ap (is_place f p) at)
put_places f p (a ∷ xs) (suc i) x y at is = ap (λ b. is_place f p a || b) (put_places f p xs i x y at is)

has_found : (f p : List ℕ) (xs : List Place) (i : ℕ) (x : Place) → i < length xs → x ≡ get_or xs i x → is_place f p x ≡ true → has_place xs f p ≡ true
has_found f p [] i x inside at is = absurd (omega arith)
has_found f p (a ∷ xs) zero x inside at is =
    let h : is_place f p a ≡ true = subst (λ y. is_place f p y ≡ true) at is in
    rw h refl
has_found f p (a ∷ xs) (suc i) x inside at is =
    rw (has_found f p xs i x (omega arith) at is) (or_true (is_place f p a))
  where
    or_true : (b : Bool) → (b || true) ≡ true
    or_true true = refl
    or_true false = refl

both_left : (a b : Bool) → (a && b) ≡ true → a ≡ true
both_left true b h = refl
both_left false b h = absurd (cc)

both_right : (a b : Bool) → (a && b) ≡ true → b ≡ true
both_right true b h = h
both_right false b h = absurd (cc)

same_is : (a b : List ℕ) → same a b ≡ true → a ≡ b
same_is a b e = (bytes_decides a b).0 e

first_is : (f p g q : List ℕ) → is_at f p g q ≡ true → g ≡ f
first_is f p g q h = same_is g f (both_left (same g f) (same q p) h)

second_is : (f p g q : List ℕ) → is_at f p g q ≡ true → q ≡ p
second_is f p g q h = same_is q p (both_right (same g f) (same q p) h)

is_itself : (f p : List ℕ) → is_at f p f p ≡ true
is_itself f p = rw ((bytes_decides f f).1 refl, (bytes_decides p p).1 refl) refl

is_at_turned : (f p g q : List ℕ) → is_at f p g q ≡ true → is_at g q f p ≡ true
is_at_turned f p g q h = rw (first_is f p g q h, second_is f p g q h) (is_itself f p)

-- a place of one folder and pool is of no other
is_place_other : (f p g q : List ℕ) (x : Place) → is_place f p x ≡ true → is_at f p g q ≡ false → is_place g q x ≡ false
is_place_other f p g q x is other =
    let folder : x.folder ≡ f = first_is f p x.folder x.pool is in
    let pool : x.pool ≡ p = second_is f p x.folder x.pool is in
    rw (folder, pool) (turned (is_at g q f p) refl)
  where
    turned : (b : Bool) → is_at g q f p ≡ b → b ≡ false
    turned true h = absurd (true_false (sym (is_at_turned g q f p h) ∙ other))
      where
        true_false : true ≡ false → ⊥
        true_false e = cc
    turned false h = refl

put_kept_at : (f p : List ℕ) (t : Tables) (xs : List Place) (i : ℕ) (x : Place) → list_any (is_place f p) (take i xs) ≡ false → i < length xs → x ≡ get_or xs i x → is_place f p x ≡ true → (g q : List ℕ) (b : Bool) → is_at f p g q ≡ b → tables_in (set xs i (record x { tables = t })) g q ≡ (if b then t else tables_in xs g q)
put_kept_at f p t xs i x none inside at is g q true h =
    rw (first_is f p g q h, second_is f p g q h) (put_found f p xs i (record x { tables = t }) none inside is)
put_kept_at f p t xs i x none inside at is g q false h =
    let other : is_place g q x ≡ false = is_place_other f p g q x is h in
    put_other g q xs i x (record x { tables = t }) at other other

pub absent : (f p : List ℕ) (xs : List Place) → has_place xs f p ≡ false → tables_in xs f p ≡ nothing
absent f p [] none = refl
absent f p (a ∷ xs) none =
    let other : is_place f p a ≡ false = neither_left (is_place f p a) (has_place xs f p) none in
    rw other (absent f p xs (neither_right (is_place f p a) (has_place xs f p) none))

-- a new place is that of its folder and pool, where they had none
new_place_at : (f p : List ℕ) (xs : List Place) (y : Place) → has_place xs f p ≡ false → is_place f p y ≡ true → tables_in (xs ++ y ∷ []) f p ≡ y.tables
new_place_at f p [] y none is = rw is refl
new_place_at f p (a ∷ xs) y none is =
    let other : is_place f p a ≡ false = neither_left (is_place f p a) (has_place xs f p) none in
    rw other (new_place_at f p xs y (neither_right (is_place f p a) (has_place xs f p) none) is)

-- and changes no tables of others
new_place_elsewhere : (f p : List ℕ) (xs : List Place) (y : Place) → is_place f p y ≡ false → tables_in (xs ++ y ∷ []) f p ≡ tables_in xs f p
new_place_elsewhere f p [] y other = rw other refl
new_place_elsewhere f p (a ∷ xs) y other = ap (λ t. if is_place f p a then a.tables else t) (new_place_elsewhere f p xs y other)

new_place : (f p : List ℕ) (xs : List Place) (y : Place) → has_place xs f p ≡ false → is_place f p y ≡ true → (g q : List ℕ) (b : Bool) → is_at f p g q ≡ b → tables_in (xs ++ y ∷ []) g q ≡ (if b then y.tables else tables_in xs g q)
new_place f p xs y none is g q true h = rw (first_is f p g q h, second_is f p g q h) (new_place_at f p xs y none is)
new_place f p xs y none is g q false h = new_place_elsewhere g q xs y (is_place_other f p g q y is h)

or_true : (b : Bool) → (b || true) ≡ true
or_true true = refl
or_true false = refl

kept_place : (a b : Bool) → a ≡ true → (a || b) ≡ true
kept_place true b h = refl
kept_place false b h = absurd (cc)

-- a folder and pool that had no place get one
pub add_place : (f p : List ℕ) (xs new : List Place) (y : Place) (t : Tables) → new ≡ xs ++ y ∷ [] → y.folder ≡ f → y.pool ≡ p → y.tables ≡ t → has_place xs f p ≡ false → IsKept xs new f p t
add_place f p xs new y t pushed folder pool same none =
    subst (λ zs. IsKept xs zs f p t) (sym pushed) (subst (λ u. IsKept xs (xs ++ y ∷ []) f p u) same (record {
      kept = fun_ext (λ g. fun_ext (λ q. new_place f p xs y none is g q (is_at f p g q) refl));
      there = rw (list_any-append (is_place f p) xs (y ∷ []), is) (or_true (has_place xs f p));
      places = λ g q h. rw (list_any-append (is_place g q) xs (y ∷ [])) (kept_place (has_place xs g q) (has_place (y ∷ []) g q) h);
    }))
  where
    is : is_place f p y ≡ true
    is = rw (folder, pool) (is_itself f p)

-- the first place of a folder and pool gets other tables
pub put_tables : (f p : List ℕ) (t : Tables) (xs : List Place) (i : ℕ) (x : Place) → list_any (is_place f p) (take i xs) ≡ false → i < length xs → x ≡ get_or xs i x → is_place f p x ≡ true → IsReplaced xs (set xs i (record x { tables = t })) f p t x.tables
put_tables f p t xs i x none inside at is = record {
  told = found f p xs i x none inside at is;
  kept = fun_ext (λ g. fun_ext (λ q. put_kept_at f p t xs i x none inside at is g q (is_at f p g q) refl));
  places = fun_ext (λ g. fun_ext (λ q. put_places g q xs i x (record x { tables = t }) at refl));
  there = has_found f p xs i x inside at is;
}

-- the tables of a place are taken
pub take_tables : (f p : List ℕ) (old new : List Place) (t taken : Tables) → t ≡ nothing → IsReplaced old new f p t taken → IsTaken old new f p taken
take_tables f p old new t taken e h =
    let kept : tables_in new ≡ with_tables f p nothing (tables_in old) = subst (λ u. tables_in new ≡ with_tables f p u (tables_in old)) e h.kept in
    record {
      told = h.told;
      kept = kept;
      there = ap (λ places. places f p) h.places ∙ h.there;
      places = λ g q is. ap (λ places. places g q) h.places ∙ is;
    }

-- what was taken is nothing, where a place is added to places that are the same as before
pub nothing_taken : (f p : List ℕ) (old xs new : List Place) (t taken : Tables) → (has_place old f p ≡ false) × (xs ≡ old) → t ≡ nothing → taken ≡ nothing → (has_place xs f p ≡ false → IsKept xs new f p t) → IsTaken old new f p taken
nothing_taken f p old xs new t taken none empty e h =
    let kept : IsKept old new f p nothing = subst (λ u. IsKept old new f p u) empty (subst (λ ys. IsKept ys new f p t) none.1 (h (ap (λ ys. has_place ys f p) none.1 ∙ none.0))) in
    record {
      told = e ∙ sym (absent f p old none.0);
      kept = kept.kept;
      there = kept.there;
      places = kept.places;
    }

-- a replacement takes no place away
pub replaced_places : (f p : List ℕ) (t : Tables) (old new : List Place) (r : Option Tables) → Replaces old new f p t r → has_place new ≡ has_place old
replaced_places f p t old new None h = ap has_place h.1
replaced_places f p t old new (Some before) h = h.places

-- the place that was found gets other tables
pub put_first : (f p : List ℕ) (t : Tables) (xs : List Place) (i : ℕ) (x : Place) → IsFirst xs f p i → x ≡ get_or xs i x → IsReplaced xs (set xs i (record x { tables = t })) f p t x.tables
put_first f p t xs i x first at = put_tables f p t xs i x first.none_before first.inside at (ap (is_place f p) at ∙ first.there x)

-- what stands in the place that was found is others
pub put_kept : (f p : List ℕ) (t : Tables) (xs : List Place) (i : ℕ) (x : Place) → IsFirst xs f p i → x ≡ get_or xs i x → IsKept xs (set xs i (record x { tables = t })) f p t
put_kept f p t xs i x first at =
    let put : IsReplaced xs (set xs i (record x { tables = t })) f p t x.tables = put_first f p t xs i x first at in
    record {
      kept = put.kept;
      there = ap (λ places. places f p) put.places ∙ put.there;
      places = λ g q is. ap (λ places. places g q) put.places ∙ is;
    }

-- the same, where what is put there and what was there have other names
pub put_first_as : (f p : List ℕ) (t : Tables) (xs : List Place) (i : ℕ) (x : Place) (put before : Tables) → IsFirst xs f p i → x ≡ get_or xs i x → put ≡ t → before ≡ x.tables → IsReplaced xs (set xs i (record x { tables = put })) f p t before
put_first_as f p t xs i x put before first at same was =
    subst (λ b. IsReplaced xs (set xs i (record x { tables = put })) f p t b) (sym was)
    (subst (λ u. IsReplaced xs (set xs i (record x { tables = put })) f p u x.tables) same (put_first f p put xs i x first at))

-- the tables of the place that was found
pub first_tables : (f p : List ℕ) (xs : List Place) (i : ℕ) (x : Place) → IsFirst xs f p i → x ≡ get_or xs i x → x.tables ≡ tables_in xs f p
first_tables f p xs i x first at = found f p xs i x first.none_before first.inside at (ap (is_place f p) at ∙ first.there x)

-- the place that was found gets another line
pub put_line : (f p : List ℕ) (at : ℕ) (line : List ℕ) (t : Tables) (xs : List Place) (i : ℕ) (x : Place) → IsFirst xs f p i → x ≡ get_or xs i x → t ≡ record x.tables { lines = set x.tables.lines at line } → tables_in (set xs i (record x { tables = t })) ≡ with_line f p at line (tables_in xs)
put_line f p at line t xs i x first is e =
    let put : Tables → Tables = λ v. record v { lines = set v.lines at line } in
    (put_first f p t xs i x first is).kept ∙ ap (λ u. with_tables f p u (tables_in xs)) (e ∙ ap put (first_tables f p xs i x first is))

-- a line of a folder and pool without a place is none
pub no_line : (f p : List ℕ) (at : ℕ) (line : List ℕ) (xs : List Place) → has_place xs f p ≡ false → tables_in xs ≡ with_line f p at line (tables_in xs)
no_line f p at line xs none = fun_ext (λ g. fun_ext (λ q. no_line_at (absent f p xs none) g q (is_at f p g q) refl))
  where
    no_line_at : tables_in xs f p ≡ nothing → (g q : List ℕ) (b : Bool) → is_at f p g q ≡ b → tables_in xs g q ≡ (if b then record (tables_in xs f p) { lines = set (tables_in xs f p).lines at line } else tables_in xs g q)
    no_line_at e g q true h = rw (first_is f p g q h, second_is f p g q h, e) refl
    no_line_at e g q false h = refl
