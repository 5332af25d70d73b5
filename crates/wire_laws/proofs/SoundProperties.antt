-- Sound properties break no rule when they are checked again, and a check leaves them as they are.
use Rattle.std.proofs.Common.{◌≡◌, ℕ, ◌≤◌, ◌<◌, ◌+◌, ◌==◌, List, [], ◌∷◌, ◌++◌, length, Bool, true, false, Option, Some, None, refl, sym, ◌∙◌, ap, arith}
use Rattle.std.specs.Prelude.{◌&&◌, ◌||◌, cond, nat_le, nat_lt, map, pos, is_none, unwrap_or, Ok}
use Rattle.std.specs.List.{count_by, list_any, list_all}
use Rattle.std.specs.Option.{option_map}
use Rattle.std.specs.Cmp.Lexicographic.{nat_list_cmp_total, nat_list_eq_equiv, texts_ties, same_text}
use Rattle.std.specs.Ordering.{is_lt, is_eq, ordering_then}
use Rattle.std.specs.declared.cmp.Ordering.{Ordering}
use Rattle.std.specs.declared.cmp.Ordering.TheVariants.{Less, Equal, Greater}
use Rattle.std.proofs.lemmas.Bool.{eqb-true, ltb-true, le-leb, le-ltb, leb-true}
use Rattle.std.proofs.lemmas.List.{append_assoc, length-map}
use Rattle.std.proofs.lemmas.List.Elements.{All-weaker}
use Rattle.std.proofs.lemmas.List.Sums.{AllPass-from_list_all}
use Rattle.hex.specs.Hex.{encode_lower}
use Rattle.dimensions.specs.declared.text.Text.{Text}
use Rattle.dimensions.specs.Alike.{same}
use Rattle.dimensions.specs.Order.{text_cmp, is_text_below, is_below, is_rising_by, sorted_by, sorted_pairs}
use Rattle.dimensions.specs.Rules.{first_broken, are_checked, pool_of}
use Rattle.dimensions.proofs.Choosing.{none-when, none-both}
use Rattle.dimensions.proofs.Counting.{count-cons, count-none, any-before, count-map}
use Rattle.dimensions.proofs.Sorting.{sorted_by-rising}
use Rattle.dimensions.proofs.Tests.{and-first, and-other, and-both, or-first, or-other, or-both, not-true}
use Rattle.wire_laws.specs.Types.{Cache, File, PropRule, Properties, RawFile}
use Rattle.task_props.specs.declared.prop_rule.PropRule.TheVariants as prop_rule
use Rattle.task_props.specs.declared.task_field.SliceField.{SliceField}
use Rattle.task_props.specs.Checked.{is_env, are_caches, are_outputs, are_inputs, has_lists, has_times, are_sound}
use Rattle.task_props.specs.Digests.{is_byte, is_digest, digest_in}
use Rattle.task_props.specs.FieldRules.{broken_command, timeout_rule, grace_rule, digest_rule, size_rule}
use Rattle.task_props.specs.ItemRules.{most_rule, first_broken_item, env_key_rule, broken_pair, broken_env, cache_name_rule, has_path, broken_cache, broken_caches, broken_output, broken_outputs}
use Rattle.task_props.specs.Sorted.{is_pair, is_key_below, is_path, is_cache, has_path_twice, is_name_below, is_cache_below, is_file, is_path_below, is_file_below}
use Rattle.task_checks.specs.Broken.{broken_slice, broken_slices, first_broken_task}
use Rattle.task_checks.specs.Inputs.{broken_input, broken_inputs}
use Rattle.task_checks.specs.Reading.{file_of, properties_of}
use Rattle.server_calls.specs.Commands.{task_with, checked_properties}
use Rattle.line_parts.specs.Finding.{IsDigest}
use Rattle.wire_laws.specs.Fitting.{raw_file, raw_properties, AreChecked}
use Rattle.wire_laws.proofs.DigestTexts.{digest_is}

from-is_none : {A : Type 0} (x : Option A) → is_none x ≡ true → x ≡ None
from-is_none None h = refl
from-is_none (Some a) h = absurd (cc)

-- ---- texts that rise, or of which none stands again, stand once each

lt-not_eq : (o : Ordering) → is_lt o ≡ true → is_eq o ≡ false
lt-not_eq Less h = refl
lt-not_eq Equal h = absurd (cc)
lt-not_eq Greater h = absurd (cc)

lt-less : (o : Ordering) → is_lt o ≡ true → o ≡ Less
lt-less Less h = refl
lt-less Equal h = absurd (cc)
lt-less Greater h = absurd (cc)

below-chain : (a b c : Text) → is_text_below a b ≡ true → is_text_below b c ≡ true → is_text_below a c ≡ true
below-chain a b c h k = ap is_lt (nat_list_cmp_total.trans a b c (lt-less (text_cmp a b) h) (lt-less (text_cmp b c) k))

below-apart : (a b : Text) → is_text_below a b ≡ true → same b a ≡ false
below-apart a b h = nat_list_eq_equiv.symm b a ∙ (texts_ties a b ∙ lt-not_eq (text_cmp a b) h)

head_le : (t : Bool) (m n : ℕ) → m ≡ cond t 1 0 + n → n ≤ 1 → (t ≡ true → n ≡ 0) → m ≤ 1
head_le true m n e few none = omega (arith, e, none refl)
head_le false m n e few none = omega (arith, e, few)

module _ {X : Type 0} (text_of : X → Text) where
  abbrev low : X → X → Bool
  low a b = is_text_below (text_of a) (text_of b)

  abbrev has : Text → X → Bool
  has q x = same (text_of x) q

  -- the text of an item stands again at a later one
  abbrev twice : List X → Bool
  twice [] = false
  twice (a ∷ items) = list_any (has (text_of a)) items || twice items

  rising-drop : (a b : X) (items : List X) → is_rising_by low (a ∷ b ∷ items) ≡ true → is_rising_by low (a ∷ items) ≡ true
  rising-drop a b [] up = refl
  rising-drop a b (c ∷ items) up =
      let after = and-other (low a b) _ up in
      and-both _ _ (below-chain (text_of a) (text_of b) (text_of c) (and-first (low a b) _ up) (and-first (low b c) _ after)) (and-other (low b c) _ after)

  rising-new : (a : X) (items : List X) → is_rising_by low (a ∷ items) ≡ true → list_any (has (text_of a)) items ≡ false
  rising-new a [] up = refl
  rising-new a (b ∷ items) up =
      or-both _ _ (below-apart (text_of a) (text_of b) (and-first (low a b) _ up)) (rising-new a items (rising-drop a b items up))

  rising-rest : (a : X) (items : List X) → is_rising_by low (a ∷ items) ≡ true → is_rising_by low items ≡ true
  rising-rest a [] up = refl
  rising-rest a (b ∷ items) up = and-other (low a b) _ up

  not_twice-rising : (items : List X) → is_rising_by low items ≡ true → twice items ≡ false
  not_twice-rising [] up = refl
  not_twice-rising (a ∷ items) up = or-both _ _ (rising-new a items up) (not_twice-rising items (rising-rest a items up))

  once : (items : List X) → twice items ≡ false → (q : Text) → count_by (has q) items ≤ 1
  once [] h q = omega arith
  once (a ∷ items) h q =
      head_le (has q a) _ _ (count-cons (has q) a items) (once items (or-other _ _ h) q)
      (λ own. count-none (has q) items (ap (λ t. list_any (has t) items) (sym (same_text (text_of a) q (sym own))) ∙ or-first _ _ h))

-- where the rule of an item asks for it alone, and for texts that none before it has, no rule is broken
none_broken : {X : Type 0} (broken : List X → X → Option (SliceField × PropRule)) (fine : X → Bool) (one two : X → Text)
    → ((earlier : List X) (item : X) → fine item ≡ true → list_any (has one (one item)) earlier ≡ false → list_any (has two (two item)) earlier ≡ false → broken earlier item ≡ None)
    → (earlier items : List X) → list_all fine items ≡ true
    → ((q : Text) → count_by (has one q) (earlier ++ items) ≤ 1) → ((q : Text) → count_by (has two q) (earlier ++ items) ≤ 1)
    → first_broken_item broken earlier items ≡ None
none_broken broken fine one two asks earlier [] all first second = refl
none_broken broken fine one two asks earlier (item ∷ items) all first second =
    none-both _ _
    (asks earlier item (and-first (fine item) _ all)
    (any-before (has one (one item)) earlier item items (nat_list_eq_equiv.refl (one item)) (first (one item)))
    (any-before (has two (two item)) earlier item items (nat_list_eq_equiv.refl (two item)) (second (two item))))
    (none_broken broken fine one two asks (earlier ++ item ∷ []) items (and-other (fine item) _ all)
    (λ q. rw append_assoc (first q)) (λ q. rw append_assoc (second q)))

most_none : (most n : ℕ) → nat_le n most ≡ true → most_rule most n ≡ None
most_none most n h = none-when (nat_lt most n) prop_rule.Count (le-ltb most n (leb-true n most h))

none-map : {A B : Type 0} (f : A → B) (x : Option A) → x ≡ None → option_map f x ≡ None
none-map f x h = rw h refl

module _ {X : Type 0} (below low : X → X → Bool) (stronger : (a b : X) → low a b ≡ true → below a b ≡ true) where
  rising-stronger : (items : List X) → is_rising_by low items ≡ true → is_rising_by below items ≡ true
  rising-stronger [] up = refl
  rising-stronger (a ∷ []) up = refl
  rising-stronger (a ∷ b ∷ items) up = and-both _ _ (stronger a b (and-first (low a b) _ up)) (rising-stronger (b ∷ items) (and-other (low a b) _ up))

first-stronger : (o p : Ordering) → is_lt o ≡ true → is_lt (ordering_then o p) ≡ true
first-stronger Less p h = refl
first-stronger Equal p h = absurd (cc)
first-stronger Greater p h = absurd (cc)

-- ---- the dimensions

dimensions-sorted : (pairs : List (Text × Text)) → are_checked pairs ≡ true → sorted_pairs pairs ≡ pairs
dimensions-sorted pairs h = sorted_by-rising is_below pairs (and-other (is_none (first_broken pairs)) _ h)

-- ---- the environment

env-unbroken : (env : List (Text × Text)) → is_env env ≡ true → broken_env env ≡ None
env-unbroken env h =
    let lists = and-other (nat_le (length env) 64) _ h in
    let rises = and-other (list_all is_pair env) _ lists in
    let apart = once (λ (p : Text × Text). p.0) env (not_twice-rising (λ (p : Text × Text). p.0) env rises) in
    none-both _ _ (none-map _ _ (most_none 64 (length env) (and-first _ _ h)))
    (none_broken broken_pair is_pair (λ (p : Text × Text). p.0) (λ (p : Text × Text). p.0)
    (λ earlier pair fine new _. none-both _ _ (none-map _ _ (none-both _ _ (from-is_none _ (and-first _ _ fine)) (none-when _ _ new))) (none-map _ _ (from-is_none _ (and-other (is_none (env_key_rule pair.0)) _ fine))))
    [] env (and-first _ _ lists) apart apart)

env-sorted : (env : List (Text × Text)) → is_env env ≡ true → sorted_by is_below env ≡ env
env-sorted env h =
    sorted_by-rising is_below env (rising-stronger is_below is_key_below (λ a b. first-stronger (text_cmp a.0 b.0) (text_cmp a.1 b.1)) env (and-other (list_all is_pair env) _ (and-other (nat_le (length env) 64) _ h)))

-- ---- caches

caches-unbroken : (caches : List Cache) → are_caches caches ≡ true → broken_caches caches ≡ None
caches-unbroken caches h =
    let lists = and-other (nat_le (length caches) 8) _ h in
    let orders = and-other (list_all is_cache caches) _ lists in
    let names = once (λ (c : Cache). c.name) caches (not_twice-rising (λ (c : Cache). c.name) caches (and-first _ _ orders)) in
    let paths = once (λ (c : Cache). c.path) caches (twice_is caches ∙ not-true _ (and-other (is_rising_by is_name_below caches) _ orders)) in
    none-both _ _ (none-map _ _ (most_none 8 (length caches) (and-first _ _ h)))
    (none_broken broken_cache is_cache (λ (c : Cache). c.name) (λ (c : Cache). c.path)
    (λ earlier cache fine new again. none-both _ _ (none-map _ _ (none-both _ _ (from-is_none _ (and-first _ _ fine)) (none-when _ _ new))) (none-map _ _ (none-both _ _ (from-is_none _ (and-other (is_none (cache_name_rule cache.name)) _ fine)) (none-when _ _ again))))
    [] caches (and-first _ _ lists) names paths)
  where
    twice_is : (caches : List Cache) → twice (λ (c : Cache). c.path) caches ≡ has_path_twice caches
    twice_is [] = refl
    twice_is (c ∷ caches) = ap (λ t. list_any (has_path c.path) caches || t) (twice_is caches)

caches-sorted : (caches : List Cache) → are_caches caches ≡ true → sorted_by is_cache_below caches ≡ caches
caches-sorted caches h =
    sorted_by-rising is_cache_below caches (rising-stronger is_cache_below is_name_below (λ a b. first-stronger (text_cmp a.name b.name) (text_cmp a.path b.path)) caches (and-first _ _ (and-other (list_all is_cache caches) _ (and-other (nat_le (length caches) 8) _ h))))

-- ---- outputs

outputs-unbroken : (paths : List Text) → are_outputs paths ≡ true → broken_outputs paths ≡ None
outputs-unbroken paths h =
    let lists = and-other (nat_le (length paths) 64) _ h in
    let apart = once (λ (p : Text). p) paths (not_twice-rising (λ (p : Text). p) paths (and-other (list_all is_path paths) _ lists)) in
    none-both _ _ (none-map _ _ (most_none 64 (length paths) (and-first _ _ h)))
    (none_broken broken_output is_path (λ (p : Text). p) (λ (p : Text). p)
    (λ earlier path fine new _. none-map _ _ (none-both _ _ (from-is_none _ fine) (none-when _ _ (turned path earlier new))))
    [] paths (and-first _ _ lists) apart apart)
  where
    turned : (path : Text) (earlier : List Text) → list_any (λ x. same x path) earlier ≡ false → list_any (same path) earlier ≡ false
    turned path [] h = refl
    turned path (x ∷ xs) h = or-both _ _ (nat_list_eq_equiv.symm path x ∙ or-first _ _ h) (turned path xs (or-other (same x path) _ h))

outputs-sorted : (paths : List Text) → are_outputs paths ≡ true → sorted_by is_text_below paths ≡ paths
outputs-sorted paths h = sorted_by-rising is_text_below paths (and-other (list_all is_path paths) _ (and-other (nat_le (length paths) 64) _ h))

-- ---- inputs

digest-is : (digest : List ℕ) → is_digest digest ≡ true → IsDigest digest
digest-is digest h = (
  eqb-true (length digest) 32 (and-first _ _ h),
  All-weaker (λ byte. is_byte byte ≡ true) (λ byte. byte < 256) (λ byte low. ltb-true byte 256 low) digest (AllPass-from_list_all is_byte digest (and-other (length digest == 32) _ h)),
)

digest-read : (file : File) → is_file file ≡ true → digest_in (encode_lower file.digest) ≡ Some file.digest
digest-read file fine = digest_is file.digest (digest-is file.digest (and-first _ _ (and-other (is_path file.path) _ fine)))

file-again : (file : File) → is_file file ≡ true → file_of (raw_file file) ≡ file
file-again file fine = λ i. record { path = file.path; digest = (ap (λ d. unwrap_or d []) (digest-read file fine)) i; size = file.size }

files-again : (files : List File) → list_all is_file files ≡ true → map file_of (map raw_file files) ≡ files
files-again [] fine = refl
files-again (file ∷ files) fine = ap (λ f. f ∷ map file_of (map raw_file files)) (file-again file (and-first _ _ fine)) ∙ ap (λ l. file ∷ l) (files-again files (and-other (is_file file) _ fine))

-- a file as it is written, each field of which breaks no rule
abbrev is_written : RawFile → Bool
is_written raw = is_path raw.path && (is_none (digest_rule raw.digest) && is_none (size_rule raw.size))

written : (file : File) → is_file file ≡ true → is_written (raw_file file) ≡ true
written file fine =
    let rest = and-other (is_path file.path) _ fine in
    let size : nat_le file.size 16777216 ≡ true = and-other (is_digest file.digest) _ rest in
    let digest : is_none (digest_rule (encode_lower file.digest)) ≡ true = rw (digest-read file fine) refl in
    let few : is_none (size_rule (pos file.size)) ≡ true = rw (le-leb 0 file.size (omega arith), size) refl in
    and-both (is_path file.path) _ (and-first _ _ fine) (and-both _ _ digest few)

all-written : (files : List File) → list_all is_file files ≡ true → list_all is_written (map raw_file files) ≡ true
all-written [] fine = refl
all-written (file ∷ files) fine = and-both _ _ (written file (and-first _ _ fine)) (all-written files (and-other (is_file file) _ fine))

inputs-unbroken : (files : List File) → are_inputs files ≡ true → broken_inputs (map raw_file files) ≡ None
inputs-unbroken files h =
    let lists = and-other (nat_le (length files) 64) _ h in
    let once-each = once (λ (f : File). f.path) files (not_twice-rising (λ (f : File). f.path) files (and-other (list_all is_file files) _ lists)) in
    let apart : (q : Text) → count_by (has (λ (f : RawFile). f.path) q) (map raw_file files) ≤ 1 = λ q. rw (count-map (has (λ (f : RawFile). f.path) q) raw_file files) (once-each q) in
    none-both _ _ (none-map _ _ (most_none 64 (length (map raw_file files)) (rw (length-map files raw_file) (and-first _ _ h))))
    (none_broken broken_input is_written (λ (f : RawFile). f.path) (λ (f : RawFile). f.path)
    (λ earlier raw fine new _.
    let rest = and-other (is_path raw.path) _ fine in
    none-both _ _ (none-map _ _ (none-both _ _ (from-is_none _ (and-first _ _ fine)) (none-when _ _ new)))
    (none-both _ _ (none-map _ _ (from-is_none _ (and-first _ _ rest))) (none-map _ _ (from-is_none _ (and-other (is_none (digest_rule raw.digest)) _ rest)))))
    [] (map raw_file files) (all-written files (and-first _ _ lists)) apart apart)

inputs-sorted : (files : List File) → are_inputs files ≡ true → sorted_by is_file_below (map file_of (map raw_file files)) ≡ files
inputs-sorted files h =
    let lists = and-other (nat_le (length files) 64) _ h in
    rw (files-again files (and-first _ _ lists))
    (sorted_by-rising is_file_below files (rising-stronger is_file_below is_path_below (λ a b. first-stronger (text_cmp a.path b.path) _) files (and-other (list_all is_file files) _ lists)))

-- ---- all of them

-- what `are_sound` says of each field
record Parts (p : Properties) : Type 0 where
  command : broken_command p.command ≡ None
  dimensions : are_checked p.dimensions ≡ true
  env : is_env p.env ≡ true
  caches : are_caches p.caches ≡ true
  inputs : are_inputs p.inputs ≡ true
  outputs : are_outputs p.outputs ≡ true
  execution : timeout_rule (pos p.execution_timeout_secs) ≡ None
  io : timeout_rule (pos p.io_timeout_secs) ≡ None
  grace : grace_rule (pos p.grace_period_secs) ≡ None

parts : (p : Properties) → are_sound p ≡ true → Parts p
parts p h =
    let before_times = and-first _ (has_times p) h in
    let before_lists = and-first _ (has_lists p) before_times in
    let lists : has_lists p ≡ true = and-other _ (has_lists p) before_times in
    let times : has_times p ≡ true = and-other _ (has_times p) h in
    let after_env = and-other (is_env p.env) _ lists in
    let after_caches = and-other (are_caches p.caches) _ after_env in
    let after_execution = and-other (is_none (timeout_rule (pos p.execution_timeout_secs))) _ times in
    record {
      command = from-is_none _ (and-first _ (are_checked p.dimensions) before_lists);
      dimensions = and-other _ (are_checked p.dimensions) before_lists;
      env = and-first _ _ lists;
      caches = and-first _ _ after_env;
      inputs = and-first _ _ after_caches;
      outputs = and-other (are_inputs p.inputs) _ after_caches;
      execution = from-is_none _ (and-first _ _ times);
      io = from-is_none _ (and-first _ _ after_execution);
      grace = from-is_none _ (and-other (is_none (timeout_rule (pos p.io_timeout_secs))) _ after_execution);
    }

module _ (p : Properties) (s : Parts p) where
  slice-unbroken : broken_slice (record { expiration_secs = pos 1; wait_for_capacity = true; properties = raw_properties p }) ≡ None
  slice-unbroken =
      none-both _ _ s.command
      (none-both _ _ (env-unbroken p.env s.env)
      (none-both _ _ (none-map _ _ (from-is_none _ (and-first _ _ s.dimensions)))
      (none-both _ _ (caches-unbroken p.caches s.caches)
      (none-both _ _ (inputs-unbroken p.inputs s.inputs)
      (none-both _ _ (outputs-unbroken p.outputs s.outputs)
      (none-both _ _ (none-map _ _ s.execution)
      (none-both _ _ (none-map _ _ s.io) (none-map _ _ s.grace))))))))

  again : properties_of (raw_properties p) ≡ p
  again = λ i. record {
    command = p.command;
    env = env-sorted p.env s.env i;
    dimensions = dimensions-sorted p.dimensions s.dimensions i;
    caches = caches-sorted p.caches s.caches i;
    inputs = inputs-sorted p.inputs s.inputs i;
    outputs = outputs-sorted p.outputs s.outputs i;
    execution_timeout_secs = p.execution_timeout_secs;
    io_timeout_secs = p.io_timeout_secs;
    grace_period_secs = p.grace_period_secs;
    idempotent = p.idempotent;
  }

  of_one_pool : broken_slices (task_with (raw_properties p)) ≡ None
  of_one_pool = rw (nat_list_eq_equiv.refl (pool_of (sorted_pairs p.dimensions))) refl

  unbroken : first_broken_task (task_with (raw_properties p)) ≡ None
  unbroken = none-map _ _ (none-both _ _ (none-both _ _ (none-map _ _ slice-unbroken) refl) of_one_pool)

pub sound-are_checked : (p : Properties) → are_sound p ≡ true → AreChecked p
unfolding checked_properties
sound-are_checked p h =
    let s = parts p h in
    rw (unbroken p s) (ap Ok (again p s))
