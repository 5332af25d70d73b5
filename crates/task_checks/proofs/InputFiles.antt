-- Where a slice's inputs break no rule, the files that they mean are checked when they are sorted.
use Rattle.std.proofs.Common.{◌≡◌, ℕ, ℤ, pos, negsuc, ◌≤◌, List, [], length, true, false, None, map, refl, ◌∙◌, arith}
use Rattle.std.specs.Prelude.{nat_le, IsPermutation, IsSorted}
use Rattle.std.specs.List.{All, count_by, list_any}
use Rattle.std.specs.Option.{option_map}
use Rattle.std.specs.Cmp.{IsTotalOrder, IsStrictWeakOrder, on_total, then_total}
use Rattle.std.specs.Cmp.Lexicographic.{nat_list_cmp_total}
use Rattle.std.specs.Ordering.{nat_cmp, ordering_then}
use Rattle.std.specs.declared.cmp.Ordering.TheVariants.{Equal}
use Rattle.std.proofs.lemmas.Cmp.{nat_cmp_total, ranked}
use Rattle.std.proofs.lemmas.List.{length-map}
use Rattle.std.proofs.lemmas.List.Folds.{list_all-map}
use Rattle.std.proofs.lemmas.List.MinMax.{ranks_by}
use Rattle.std.proofs.lemmas.List.Sorted.{length_permutation}
use Rattle.dimensions.specs.declared.text.Text.{Text}
use Rattle.dimensions.specs.Alike.{same}
use Rattle.dimensions.specs.Choosing.{when, ◌or_else◌}
use Rattle.dimensions.specs.Order.{text_cmp, sorted_by}
use Rattle.dimensions.proofs.Choosing.{when-none, none-first, none-other, option_map-none}
use Rattle.dimensions.proofs.Counting.{count-map, count-IsPermutation, list_all-IsPermutation}
use Rattle.dimensions.proofs.Orders.{texts-tied, then-first, then-other, sorted_by-IsSorted}
use Rattle.dimensions.proofs.Sorting.{in_order-sorted_by, IsPermutation-sorted_by}
use Rattle.dimensions.proofs.Tests.{and-other, and-both, not-false}
use Rattle.task_props.specs.declared.file.File.{File}
use Rattle.task_props.specs.declared.prop_rule.PropRule.TheVariants as prop_rule
use Rattle.task_props.specs.declared.task_field.SliceField.TheVariants as slice_field
use Rattle.task_checks.specs.declared.raw_task.RawFile.{RawFile}
use Rattle.task_props.specs.Checked.{are_inputs}
use Rattle.task_props.specs.FieldRules.{broken_at, digest_rule, size_rule}
use Rattle.task_props.specs.ItemRules.{most_rule, first_broken_item}
use Rattle.task_props.specs.Paths.{path_rule}
use Rattle.task_props.specs.Sorted.{is_file, file_cmp, is_file_below}
use Rattle.task_checks.specs.Inputs.{has_input_path, broken_input, broken_inputs}
use Rattle.task_checks.specs.Reading.{natural, file_of}
use Rattle.task_checks.proofs.Digests.{is_digest-digest_of}
use Rattle.task_checks.proofs.Items.{all-unbroken, list_all-unbroken, count-unbroken}
use Rattle.task_checks.proofs.Lists.{at-none, after-none, is_none-from, not-again, few_enough, first-weaker, rising-texts}

size_fits : (size : ℤ) → size_rule size ≡ None → nat_le (natural size) 16777216 ≡ true
size_fits (pos n) none = and-other (nat_le 0 n) _ (not-false _ (when-none _ _ none))
size_fits (negsuc n) none = refl

-- ---- each input by itself

module _ (earlier : List RawFile) (file : RawFile) (none : broken_input earlier file ≡ None) where
  path_none : (path_rule file.path or_else when (list_any (has_input_path file.path) earlier) prop_rule.Repeated) ≡ None
  path_none = at-none (broken_at (slice_field.InputPath (length earlier))) _ _ none

  others_none : (option_map (broken_at (slice_field.InputDigest (length earlier))) (digest_rule file.digest) or_else option_map (broken_at (slice_field.InputSize (length earlier))) (size_rule file.size)) ≡ None
  others_none = after-none (broken_at (slice_field.InputPath (length earlier))) (path_rule file.path or_else when (list_any (has_input_path file.path) earlier) prop_rule.Repeated) _ none

  digest_none : digest_rule file.digest ≡ None
  digest_none = at-none (broken_at (slice_field.InputDigest (length earlier))) _ _ others_none

  size_none : size_rule file.size ≡ None
  size_none = option_map-none (broken_at (slice_field.InputSize (length earlier))) _ (after-none (broken_at (slice_field.InputDigest (length earlier))) (digest_rule file.digest) _ others_none)

  file_alone : is_file (file_of file) ≡ true
  file_alone = and-both _ _ (is_none-from _ (none-first (path_rule file.path) _ path_none)) (and-both _ _ (is_digest-digest_of file.digest digest_none) (size_fits file.size size_none))

  path_new : (q : Text) → has_input_path q file ≡ true → list_any (has_input_path q) earlier ≡ false
  path_new q own = not-again (λ (x : RawFile). x.path) earlier file.path q (when-none _ _ (none-other (path_rule file.path) _ path_none)) own

each_none : (files : List RawFile) → broken_inputs files ≡ None → first_broken_item broken_input [] files ≡ None
each_none files none = after-none (broken_at slice_field.Inputs) (most_rule 64 (length files)) _ none

pub digests_unbroken : (files : List RawFile) → broken_inputs files ≡ None → All (λ file. digest_rule file.digest ≡ None) files
digests_unbroken files none = all-unbroken broken_input (λ file. digest_rule file.digest ≡ None) digest_none [] files (each_none files none)

pub sizes_unbroken : (files : List RawFile) → broken_inputs files ≡ None → All (λ file. size_rule file.size ≡ None) files
sizes_unbroken files none = all-unbroken broken_input (λ file. size_rule file.size ≡ None) size_none [] files (each_none files none)

-- ---- their order

file_total : IsTotalOrder file_cmp
file_total = then_total (on_total (λ (f : File). f.path) nat_list_cmp_total) (then_total (on_total (λ (f : File). f.digest) nat_list_cmp_total) (on_total (λ (f : File). f.size) nat_cmp_total))

file_order : IsStrictWeakOrder is_file_below
file_order = ranks_by file_total (λ x. x)

sizes-tied : (a b : ℕ) → nat_cmp a b ≡ Equal → a ≡ b
sizes-tied a b h = rw h at (ranked a b (nat_cmp a b) refl)

files-tied : (a b : File) → file_cmp a b ≡ Equal → a ≡ b
files-tied a b h =
    let path = texts-tied a.path b.path (then-first (text_cmp a.path b.path) (ordering_then (text_cmp a.digest b.digest) (nat_cmp a.size b.size)) h) in
    let others = then-other (text_cmp a.path b.path) (ordering_then (text_cmp a.digest b.digest) (nat_cmp a.size b.size)) h in
    let digest = texts-tied a.digest b.digest (then-first (text_cmp a.digest b.digest) (nat_cmp a.size b.size) others) in
    let size = sizes-tied a.size b.size (then-other (text_cmp a.digest b.digest) (nat_cmp a.size b.size) others) in
    λ i. record { path = path i; digest = digest i; size = size i }

-- the one way to sort files
pub sorted_inputs-is : (xs ys : List File) → IsPermutation xs ys → IsSorted file_cmp ys → ys ≡ sorted_by is_file_below xs
sorted_inputs-is = sorted_by-IsSorted file_total files-tied

pub are_inputs-sorted : (raw : List RawFile) → broken_inputs raw ≡ None → are_inputs (sorted_by is_file_below (map file_of raw)) ≡ true
are_inputs-sorted raw none =
    let files = map file_of raw in
    let sorted = sorted_by is_file_below files in
    let moved : IsPermutation files sorted = IsPermutation-sorted_by is_file_below files in
    let few = when-none _ _ (at-none (broken_at slice_field.Inputs) (most_rule 64 (length raw)) _ none) in
    let each : first_broken_item broken_input [] raw ≡ None = each_none raw none in
    let count : nat_le (length sorted) 64 ≡ true = rw (length_permutation files sorted moved, length-map raw file_of) (few_enough 64 (length raw) few) in
    let all = list_all-IsPermutation is_file files sorted moved ∙ list_all-map is_file file_of raw ∙ list_all-unbroken broken_input (λ file. is_file (file_of file)) file_alone [] raw each in
    let once : (q : Text) → count_by (has_input_path q) raw ≤ 1 = λ q. count-unbroken broken_input (has_input_path q) (λ earlier file h. path_new earlier file h q) [] raw (omega arith) each in
    let apart : (q : Text) → count_by (λ (file : File). same file.path q) sorted ≤ 1 = λ q. rw (count-IsPermutation (λ (file : File). same file.path q) files sorted moved, count-map (λ (file : File). same file.path q) file_of raw) (once q) in
    let rises = rising-texts (λ (file : File). file.path) is_file_below (λ a b h. first-weaker (text_cmp a.path b.path) (ordering_then (text_cmp a.digest b.digest) (nat_cmp a.size b.size)) h) sorted (in_order-sorted_by is_file_below file_order files) apart in
    and-both _ _ count (and-both _ _ all rises)
