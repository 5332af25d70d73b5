-- Where a slice's environment, caches and outputs break no rule, they are checked when they are sorted.
use Rattle.std.proofs.Common.{◌≡◌, ℕ, ◌≤◌, List, [], ◌∷◌, length, Bool, true, false, not, Option, None, refl, sym, ◌∙◌, ap, arith}
use Rattle.std.specs.Prelude.{nat_le, nat_lt, is_none, IsPermutation, IsSorted}
use Rattle.std.specs.List.{count_by, list_any}
use Rattle.std.specs.Option.{option_map}
use Rattle.std.specs.Cmp.{IsTotalOrder, IsStrictWeakOrder, on_total, then_total}
use Rattle.std.specs.Cmp.Lexicographic.{nat_list_cmp_total, nat_list_eq_equiv, texts_ties, same_text}
use Rattle.std.specs.Ordering.{is_lt, ordering_then}
use Rattle.std.specs.declared.cmp.Ordering.{Ordering}
use Rattle.std.specs.declared.cmp.Ordering.TheVariants.{Less, Equal, Greater}
use Rattle.std.proofs.lemmas.Bool.{le-leb, ltb-false}
use Rattle.std.proofs.lemmas.List.MinMax.{ranks_by}
use Rattle.std.proofs.lemmas.List.Sorted.{length_permutation}
use Rattle.dimensions.specs.declared.text.Text.{Text}
use Rattle.dimensions.specs.Alike.{same}
use Rattle.dimensions.specs.Choosing.{when, ◌or_else◌}
use Rattle.dimensions.specs.Order.{text_cmp, is_text_below, is_below, is_rising_by, sorted_by, sorted_pairs, sorted_texts}
use Rattle.dimensions.proofs.Choosing.{when-none, none-first, none-other, option_map-none}
use Rattle.dimensions.proofs.Counting.{count-cons, count-pass, any-none, count-IsPermutation, list_all-IsPermutation}
use Rattle.dimensions.proofs.Orders.{pair_total, text_order, texts-tied, then-first, then-other, sorted_by-IsSorted}
use Rattle.dimensions.proofs.Rising.{below-by_cmp, rising-in_order}
use Rattle.dimensions.proofs.Sorting.{in_order, in_order-sorted_by, IsPermutation-sorted_by}
use Rattle.dimensions.proofs.Tests.{and-first, and-other, and-both, or-both, not-true}
use Rattle.task_props.specs.declared.cache.Cache.{Cache}
use Rattle.task_props.specs.declared.prop_rule.PropRule.TheVariants as prop_rule
use Rattle.task_props.specs.declared.task_field.SliceField.TheVariants as slice_field
use Rattle.task_props.specs.Checked.{is_env, are_caches, are_outputs}
use Rattle.task_props.specs.FieldRules.{broken_at}
use Rattle.task_props.specs.ItemRules.{most_rule, first_broken_item, env_key_rule, env_value_rule, has_key, broken_pair, broken_env, cache_name_rule, has_name, has_path, broken_cache, broken_caches, broken_output, broken_outputs}
use Rattle.task_props.specs.Paths.{path_rule}
use Rattle.task_props.specs.Sorted.{is_pair, is_path, is_cache, has_path_twice, cache_cmp, is_cache_below}
use Rattle.task_checks.proofs.Items.{list_all-unbroken, count-unbroken}

-- ---- each rule by itself

pub at-none : {A B : Type 0} (f : A → B) (x : Option A) (y : Option B) → (option_map f x or_else y) ≡ None → x ≡ None
at-none f x y none = option_map-none f x (none-first (option_map f x) y none)

pub after-none : {A B : Type 0} (f : A → B) (x : Option A) (y : Option B) → (option_map f x or_else y) ≡ None → y ≡ None
after-none f x y none = none-other (option_map f x) y none

pub is_none-from : {A : Type 0} (x : Option A) → x ≡ None → is_none x ≡ true
is_none-from x none = rw none refl

-- a text that was not found among the earlier ones
pub not-again : {X : Type 0} (text_of : X → Text) (earlier : List X) (text q : Text) → list_any (λ x. same (text_of x) text) earlier ≡ false → same text q ≡ true → list_any (λ x. same (text_of x) q) earlier ≡ false
not-again text_of earlier text q new own =
    let alike : text ≡ q = same_text text q (sym own) in
    ap (λ (t : Text). list_any (λ x. same (text_of x) t) earlier) (sym alike) ∙ new

pub few_enough : (most n : ℕ) → nat_lt most n ≡ false → nat_le n most ≡ true
few_enough most n h = le-leb n most (ltb-false most n h)

module _ {X : Type 0} (below low : X → X → Bool) (weaker : (a b : X) → below a b ≡ false → low a b ≡ false) where
  in_order-weaker : (items : List X) → in_order below items ≡ true → in_order low items ≡ true
  in_order-weaker [] up = refl
  in_order-weaker (a ∷ []) up = refl
  in_order-weaker (a ∷ b ∷ items) up =
      and-both (not (low b a)) _ (ap not (weaker b a (not-true (below b a) (and-first _ (in_order below (b ∷ items)) up)))) (in_order-weaker (b ∷ items) (and-other (not (below b a)) _ up))

pub first-weaker : (o p : Ordering) → is_lt (ordering_then o p) ≡ false → is_lt o ≡ false
first-weaker Less p h = absurd (cc)
first-weaker Equal p h = refl
first-weaker Greater p h = refl

-- items of which no text stands twice, in an order that has their texts first, rise by those
module _ {X : Type 0} (text_of : X → Text) (below : X → X → Bool) (weaker : (a b : X) → below a b ≡ false → is_text_below (text_of a) (text_of b) ≡ false) where
  abbrev low : X → X → Bool
  low a b = is_text_below (text_of a) (text_of b)

  pub rising-texts : (items : List X) → in_order below items ≡ true → ((q : Text) → count_by (λ x. same (text_of x) q) items ≤ 1) → is_rising_by low items ≡ true
  rising-texts items up few =
      rising-in_order low (λ a b. same (text_of b) (text_of a)) (λ a. nat_list_eq_equiv.refl (text_of a)) (λ a b h k. below-by_cmp (on_total text_of nat_list_cmp_total) a b h (sym (texts_ties (text_of a) (text_of b)) ∙ nat_list_eq_equiv.symm (text_of a) (text_of b) ∙ k)) items (in_order-weaker below low weaker items up) (λ q. few (text_of q))

-- ---- the environment

module _ (earlier : List (Text × Text)) (pair : Text × Text) (none : broken_pair earlier pair ≡ None) where
  key_none : (env_key_rule pair.0 or_else when (list_any (has_key pair.0) earlier) prop_rule.Repeated) ≡ None
  key_none = at-none (broken_at (slice_field.EnvKey (length earlier))) _ _ none

  pair_alone : is_pair pair ≡ true
  pair_alone =
      let value : env_value_rule pair.1 ≡ None = option_map-none (broken_at (slice_field.EnvValue (length earlier))) (env_value_rule pair.1) (after-none (broken_at (slice_field.EnvKey (length earlier))) (env_key_rule pair.0 or_else when (list_any (has_key pair.0) earlier) prop_rule.Repeated) _ none) in
      and-both _ _ (is_none-from _ (none-first (env_key_rule pair.0) _ key_none)) (is_none-from _ value)

  key_new : (q : Text) → has_key q pair ≡ true → list_any (has_key q) earlier ≡ false
  key_new q own = not-again (λ (x : Text × Text). x.0) earlier pair.0 q (when-none _ _ (none-other (env_key_rule pair.0) _ key_none)) own

pair_order : IsStrictWeakOrder is_below
pair_order = ranks_by pair_total (λ x. x)

pub is_env-sorted : (pairs : List (Text × Text)) → broken_env pairs ≡ None → is_env (sorted_pairs pairs) ≡ true
is_env-sorted pairs none =
    let sorted = sorted_pairs pairs in
    let moved : IsPermutation pairs sorted = IsPermutation-sorted_by is_below pairs in
    let few = when-none _ _ (at-none (broken_at slice_field.Env) (most_rule 64 (length pairs)) _ none) in
    let each : first_broken_item broken_pair [] pairs ≡ None = after-none (broken_at slice_field.Env) (most_rule 64 (length pairs)) _ none in
    let count : nat_le (length sorted) 64 ≡ true = rw (length_permutation pairs sorted moved) (few_enough 64 (length pairs) few) in
    let all = list_all-IsPermutation is_pair pairs sorted moved ∙ list_all-unbroken broken_pair is_pair pair_alone [] pairs each in
    let apart : (q : Text) → count_by (has_key q) sorted ≤ 1 = λ q. rw (count-IsPermutation (has_key q) pairs sorted moved) (count-unbroken broken_pair (has_key q) (λ earlier pair h. key_new earlier pair h q) [] pairs (omega arith) each) in
    and-both _ _ count (and-both _ _ all (rising-texts (λ (x : Text × Text). x.0) is_below (λ a b h. first-weaker (text_cmp a.0 b.0) (text_cmp a.1 b.1) h) sorted (in_order-sorted_by is_below pair_order pairs) apart))

-- ---- caches

module _ (earlier : List Cache) (cache : Cache) (none : broken_cache earlier cache ≡ None) where
  name_none : (cache_name_rule cache.name or_else when (list_any (has_name cache.name) earlier) prop_rule.Repeated) ≡ None
  name_none = at-none (broken_at (slice_field.CacheName (length earlier))) _ _ none

  path_none : (path_rule cache.path or_else when (list_any (has_path cache.path) earlier) prop_rule.Repeated) ≡ None
  path_none = option_map-none (broken_at (slice_field.CachePath (length earlier))) _ (after-none (broken_at (slice_field.CacheName (length earlier))) (cache_name_rule cache.name or_else when (list_any (has_name cache.name) earlier) prop_rule.Repeated) _ none)

  cache_alone : is_cache cache ≡ true
  cache_alone = and-both _ _ (is_none-from _ (none-first (cache_name_rule cache.name) _ name_none)) (is_none-from _ (none-first (path_rule cache.path) _ path_none))

  name_new : (q : Text) → has_name q cache ≡ true → list_any (has_name q) earlier ≡ false
  name_new q own = not-again (λ (x : Cache). x.name) earlier cache.name q (when-none _ _ (none-other (cache_name_rule cache.name) _ name_none)) own

  path_new : (q : Text) → has_path q cache ≡ true → list_any (has_path q) earlier ≡ false
  path_new q own = not-again (λ (x : Cache). x.path) earlier cache.path q (when-none _ _ (none-other (path_rule cache.path) _ path_none)) own

-- paths of which each stands once at most
once-has_path : (caches : List Cache) → ((q : Text) → count_by (has_path q) caches ≤ 1) → has_path_twice caches ≡ false
once-has_path [] few = refl
once-has_path (cache ∷ caches) few =
    let none : count_by (has_path cache.path) caches ≡ 0 = omega (arith, few cache.path, count-pass (has_path cache.path) cache caches (nat_list_eq_equiv.refl cache.path)) in
    or-both (list_any (has_path cache.path) caches) _ (any-none (has_path cache.path) caches none) (once-has_path caches (λ q. omega (arith, few q, count-cons (has_path q) cache caches)))

cache_total : IsTotalOrder cache_cmp
cache_total = then_total (on_total (λ (c : Cache). c.name) nat_list_cmp_total) (on_total (λ (c : Cache). c.path) nat_list_cmp_total)

cache_order : IsStrictWeakOrder is_cache_below
cache_order = ranks_by cache_total (λ x. x)

caches-tied : (a b : Cache) → cache_cmp a b ≡ Equal → a ≡ b
caches-tied a b h =
    let name = texts-tied a.name b.name (then-first (text_cmp a.name b.name) (text_cmp a.path b.path) h) in
    let path = texts-tied a.path b.path (then-other (text_cmp a.name b.name) (text_cmp a.path b.path) h) in
    λ i. record { name = name i; path = path i }

-- the one way to sort caches
pub sorted_caches-is : (xs ys : List Cache) → IsPermutation xs ys → IsSorted cache_cmp ys → ys ≡ sorted_by is_cache_below xs
sorted_caches-is = sorted_by-IsSorted cache_total caches-tied

pub are_caches-sorted : (caches : List Cache) → broken_caches caches ≡ None → are_caches (sorted_by is_cache_below caches) ≡ true
are_caches-sorted caches none =
    let sorted = sorted_by is_cache_below caches in
    let moved : IsPermutation caches sorted = IsPermutation-sorted_by is_cache_below caches in
    let few = when-none _ _ (at-none (broken_at slice_field.Caches) (most_rule 8 (length caches)) _ none) in
    let each : first_broken_item broken_cache [] caches ≡ None = after-none (broken_at slice_field.Caches) (most_rule 8 (length caches)) _ none in
    let count : nat_le (length sorted) 8 ≡ true = rw (length_permutation caches sorted moved) (few_enough 8 (length caches) few) in
    let all = list_all-IsPermutation is_cache caches sorted moved ∙ list_all-unbroken broken_cache is_cache cache_alone [] caches each in
    let names : (q : Text) → count_by (has_name q) sorted ≤ 1 = λ q. rw (count-IsPermutation (has_name q) caches sorted moved) (count-unbroken broken_cache (has_name q) (λ earlier cache h. name_new earlier cache h q) [] caches (omega arith) each) in
    let paths : (q : Text) → count_by (has_path q) sorted ≤ 1 = λ q. rw (count-IsPermutation (has_path q) caches sorted moved) (count-unbroken broken_cache (has_path q) (λ earlier cache h. path_new earlier cache h q) [] caches (omega arith) each) in
    let rises = rising-texts (λ (x : Cache). x.name) is_cache_below (λ a b h. first-weaker (text_cmp a.name b.name) (text_cmp a.path b.path) h) sorted (in_order-sorted_by is_cache_below cache_order caches) names in
    and-both _ _ count (and-both _ _ all (and-both _ _ rises (ap not (once-has_path sorted paths))))

-- ---- outputs

module _ (earlier : List Text) (path : Text) (none : broken_output earlier path ≡ None) where
  output_none : (path_rule path or_else when (list_any (same path) earlier) prop_rule.Repeated) ≡ None
  output_none = option_map-none (broken_at (slice_field.Output (length earlier))) _ none

  output_alone : is_path path ≡ true
  output_alone = is_none-from _ (none-first (path_rule path) _ output_none)

  output_new : (q : Text) → same q path ≡ true → list_any (same q) earlier ≡ false
  output_new q own =
      let alike : q ≡ path = same_text q path (sym own) in
      ap (λ (t : Text). list_any (same t) earlier) alike ∙ when-none _ _ (none-other (path_rule path) _ output_none)

pub are_outputs-sorted : (paths : List Text) → broken_outputs paths ≡ None → are_outputs (sorted_texts paths) ≡ true
are_outputs-sorted paths none =
    let sorted = sorted_texts paths in
    let moved : IsPermutation paths sorted = IsPermutation-sorted_by is_text_below paths in
    let few = when-none _ _ (at-none (broken_at slice_field.Outputs) (most_rule 64 (length paths)) _ none) in
    let each : first_broken_item broken_output [] paths ≡ None = after-none (broken_at slice_field.Outputs) (most_rule 64 (length paths)) _ none in
    let count : nat_le (length sorted) 64 ≡ true = rw (length_permutation paths sorted moved) (few_enough 64 (length paths) few) in
    let all = list_all-IsPermutation is_path paths sorted moved ∙ list_all-unbroken broken_output is_path output_alone [] paths each in
    let apart : (q : Text) → count_by (same q) sorted ≤ 1 = λ q. rw (count-IsPermutation (same q) paths sorted moved) (count-unbroken broken_output (same q) (λ earlier path h. output_new earlier path h q) [] paths (omega arith) each) in
    let rises = rising-in_order is_text_below same nat_list_eq_equiv.refl (λ a b low k. below-by_cmp nat_list_cmp_total a b low (sym (texts_ties a b) ∙ k)) sorted (in_order-sorted_by is_text_below text_order paths) apart in
    and-both _ _ count (and-both _ _ all rises)
