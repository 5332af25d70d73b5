-- Contents by their digests, where one comes, goes, or gets its bytes.
use Rattle.std.proofs.Common.{◌≡◌, ℕ, ◌≤◌, Bool, true, false, not, cond, List, [], ◌∷◌, map, find, filter, Option, Some, None, refl, sym, ap, ◌∙◌, subst, arith}
use Rattle.std.specs.Prelude.{◌&&◌, ◌||◌}
use Rattle.std.specs.List.{count_by, list_any}
use Rattle.std.specs.Option.{option_map, option_map_or, option_and_then}
use Rattle.std.specs.Ordering.{is_lt}
use Rattle.std.specs.Cmp.Lexicographic.{bytes_decides}
use Rattle.dimensions.proofs.Counting.{count-pass, count-skip}
use Rattle.blob_rows.specs.Digests.{same_digest, digest_cmp}
use Rattle.content_store.specs.Contents.{Content, is_named, content_of, bytes_of, with_content, without_content, filled_with}
use Rattle.swarm_model.specs.Bytes.{with_bytes, without_bytes}

-- ---- what is found among items

module _ {X : Type 0} (p : X → Bool) where
  pub found_passes : (xs : List X) (x : X) → find p xs ≡ Some x → p x ≡ true
  found_passes [] x found = absurd (cc (found))
  found_passes (y ∷ ys) x found = by_test (p y) refl found (found_passes ys x)
    where
      by_test : (t : Bool) → p y ≡ t → cond t (Some y) (find p ys) ≡ Some x → (find p ys ≡ Some x → p x ≡ true) → p x ≡ true
      by_test true is found rest = let same : y ≡ x = cc (found) in subst (λ (z : X). p z ≡ true) same is
      by_test false is found rest = rest found

  -- a filter that keeps all that pass
  pub find-kept : (keeps : X → Bool) → ((x : X) → p x ≡ true → keeps x ≡ true) → (xs : List X) → find p (filter keeps xs) ≡ find p xs
  find-kept keeps all [] = refl
  find-kept keeps all (x ∷ xs) = by_tests (keeps x) (p x) refl refl (find-kept keeps all xs)
    where
      by_tests : (t s : Bool) → keeps x ≡ t → p x ≡ s → find p (filter keeps xs) ≡ find p xs → find p (cond t (x ∷ filter keeps xs) (filter keeps xs)) ≡ cond s (Some x) (find p xs)
      by_tests true true kept is rest = rw is refl
      by_tests true false kept is rest = rw is rest
      by_tests false true kept is rest = absurd (let must = all x is in cc (must, kept))
      by_tests false false kept is rest = rest

  -- one that keeps none of them
  pub find-gone : (keeps : X → Bool) → ((x : X) → p x ≡ true → keeps x ≡ false) → (xs : List X) → find p (filter keeps xs) ≡ None
  find-gone keeps none [] = refl
  find-gone keeps none (x ∷ xs) = by_tests (keeps x) (p x) refl refl (find-gone keeps none xs)
    where
      by_tests : (t s : Bool) → keeps x ≡ t → p x ≡ s → find p (filter keeps xs) ≡ None → find p (cond t (x ∷ filter keeps xs) (filter keeps xs)) ≡ None
      by_tests true true kept is rest = absurd (let must = none x is in cc (must, kept))
      by_tests true false kept is rest = rw is rest
      by_tests false s kept is rest = rest

  -- a change that leaves which items pass
  pub find-map : (f : X → X) → ((x : X) → p (f x) ≡ p x) → (xs : List X) → find p (map f xs) ≡ option_map f (find p xs)
  find-map f same [] = refl
  find-map f same (x ∷ xs) = by_test (p x) refl (find-map f same xs)
    where
      by_test : (t : Bool) → p x ≡ t → find p (map f xs) ≡ option_map f (find p xs) → find p (f x ∷ map f xs) ≡ option_map f (cond t (Some x) (find p xs))
      by_test true is rest = rw (same x, is) refl
      by_test false is rest = rw (same x, is) rest

  -- none of the items passes
  none_both : (q : X → Bool) (xs : List X) → count_by p xs ≡ 0 → list_any (λ x. p x && q x) xs ≡ false
  none_both q [] none = refl
  none_both q (x ∷ xs) none = by_test (p x) refl (none_both q xs)
    where
      by_test : (t : Bool) → p x ≡ t → (count_by p xs ≡ 0 → list_any (λ y. p y && q y) xs ≡ false) → ((t && q x) || list_any (λ y. p y && q y) xs) ≡ false
      by_test true is rest = absurd (omega (arith, none, count-pass p x xs is))
      by_test false is rest = rest (omega (arith, none, count-skip p x xs is))

  -- of items of which at most one passes, the one that is found passes another test where some item passes both
  pub find_both : (q : X → Bool) (xs : List X) → count_by p xs ≤ 1 → option_map_or q (find p xs) false ≡ list_any (λ x. p x && q x) xs
  find_both q [] few = refl
  find_both q (x ∷ xs) few = by_tests (p x) (q x) refl refl (find_both q xs)
    where
      by_tests : (t s : Bool) → p x ≡ t → q x ≡ s → (count_by p xs ≤ 1 → option_map_or q (find p xs) false ≡ list_any (λ y. p y && q y) xs) →
          option_map_or q (cond t (Some x) (find p xs)) false ≡ ((t && s) || list_any (λ y. p y && q y) xs)
      by_tests true true is passes rest = passes
      by_tests true false is passes rest = passes ∙ sym (none_both q xs (omega (arith, few, count-pass p x xs is)))
      by_tests false s is passes rest = rest (omega (arith, few, count-skip p x xs is))

-- ---- a content more

module _ (p : Content → Bool) (c : Content) where
  pub find-other : (held : List Content) → p c ≡ false → find p (with_content c held) ≡ find p held
  find-other [] fails = rw fails refl
  find-other (first ∷ others) fails = by_test (is_lt (digest_cmp c.digest first.digest)) (find-other others fails)
    where
      by_test : (t : Bool) → find p (with_content c others) ≡ find p others → find p (cond t (c ∷ first ∷ others) (first ∷ with_content c others)) ≡ find p (first ∷ others)
      by_test true rest = rw fails refl
      by_test false rest = rw rest refl

  pub find-new : (held : List Content) → p c ≡ true → find p held ≡ None → find p (with_content c held) ≡ Some c
  find-new [] passes none = rw passes refl
  find-new (first ∷ others) passes none = by_tests (is_lt (digest_cmp c.digest first.digest)) (p first) refl none (find-new others passes)
    where
      by_tests : (t s : Bool) → p first ≡ s → cond s (Some first) (find p others) ≡ None → (find p others ≡ None → find p (with_content c others) ≡ Some c) →
          find p (cond t (c ∷ first ∷ others) (first ∷ with_content c others)) ≡ Some c
      by_tests true s is none rest = rw passes refl
      by_tests false true is none rest = absurd (cc (none))
      by_tests false false is none rest = rw is (rest none)

-- the bytes of the others stay, and it has none yet
pub bytes_new : (c : Content) (held : List Content) → c.bytes ≡ None → content_of held c.digest ≡ None → (other : List ℕ) → bytes_of (with_content c held) other ≡ bytes_of held other
bytes_new c held without none other = by_test (is_named other c) refl
  where
    by_test : (t : Bool) → is_named other c ≡ t → bytes_of (with_content c held) other ≡ bytes_of held other
    by_test true is =
        (let same : c.digest ≡ other = (bytes_decides c.digest other).0 is in
        let absent : content_of held other ≡ None = subst (λ (d : List ℕ). content_of held d ≡ None) same none in
        ap (option_and_then (λ (x : Content). x.bytes)) (find-new (is_named other) c held is absent) ∙ without ∙ sym (ap (option_and_then (λ (x : Content). x.bytes)) absent))
    by_test false is = ap (option_and_then (λ (x : Content). x.bytes)) (find-other (is_named other) c held is)

-- ---- a content less

pub bytes_gone : (held : List Content) (digest other : List ℕ) → bytes_of (without_content digest held) other ≡ without_bytes digest (bytes_of held) other
bytes_gone held digest other = by_test (same_digest other digest) refl
  where
    by_test : (t : Bool) → same_digest other digest ≡ t → bytes_of (without_content digest held) other ≡ cond t None (bytes_of held other)
    by_test true is =
        (let same : other ≡ digest = (bytes_decides other digest).0 is in
        ap (option_and_then (λ (x : Content). x.bytes))
        (find-gone (is_named other) (λ c. not (is_named digest c)) (λ c named. ap not (subst (λ (d : List ℕ). is_named d c ≡ true) same named)) held))
    by_test false is =
        ap (option_and_then (λ (x : Content). x.bytes))
        (find-kept (is_named other) (λ c. not (is_named digest c))
        (λ c named. let same : c.digest ≡ other = (bytes_decides c.digest other).0 named in ap not (subst (λ (d : List ℕ). same_digest d digest ≡ false) (sym same) is)) held)

-- ---- bytes for a content

named_filled : (digest bytes other : List ℕ) (c : Content) → is_named other (filled_with digest bytes c) ≡ is_named other c
named_filled digest bytes other c = by_test (is_named digest c)
  where
    by_test : (t : Bool) → is_named other (cond t (record c { bytes = Some bytes }) c) ≡ is_named other c
    by_test true = refl
    by_test false = refl

pub bytes_filled : (held : List Content) (digest bytes : List ℕ) (c : Content) → content_of held digest ≡ Some c → (other : List ℕ) →
    bytes_of (map (filled_with digest bytes) held) other ≡ with_bytes digest bytes (bytes_of held) other
bytes_filled held digest bytes c there other =
    ap (option_and_then (λ (x : Content). x.bytes)) (find-map (is_named other) (filled_with digest bytes) (named_filled digest bytes other) held)
    ∙ by_test (same_digest other digest) refl
  where
    filled_bytes : Option Content → Option (List ℕ)
    filled_bytes o = option_and_then (λ (x : Content). x.bytes) (option_map (filled_with digest bytes) o)

    own : (t : Bool) → is_named digest c ≡ t → t ≡ true → (cond t (record c { bytes = Some bytes }) c).bytes ≡ Some bytes
    own true is so = refl
    own false is so = absurd (cc (so))

    others : (o : Option Content) → content_of held other ≡ o → same_digest other digest ≡ false → filled_bytes o ≡ option_and_then (λ (x : Content). x.bytes) o
    others None found is = refl
    others (Some x) found is =
        (let same : x.digest ≡ other = (bytes_decides x.digest other).0 (found_passes (is_named other) held x found) in
        ap (λ (t : Bool). (cond t (record x { bytes = Some bytes }) x).bytes) (subst (λ (d : List ℕ). same_digest d digest ≡ false) (sym same) is))

    by_test : (t : Bool) → same_digest other digest ≡ t → filled_bytes (content_of held other) ≡ cond t (Some bytes) (bytes_of held other)
    by_test true is =
        (let same : other ≡ digest = (bytes_decides other digest).0 is in
        ap filled_bytes (ap (content_of held) same ∙ there) ∙ own (is_named digest c) refl (found_passes (is_named digest) held c there))
    by_test false is = others (content_of held other) refl is
