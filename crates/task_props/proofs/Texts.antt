-- Checked properties are among those whose canonical text tells them.
use Rattle.std.proofs.Common.{◌≡◌, ℕ, ◌≤◌, ◌<◌, ◌^◌, ◌&&◌, ◌==◌, not, Bool, true, false, length, ap, leb-true, arith}
use Rattle.std.specs.Prelude.{pos, nat_le, is_none}
use Rattle.std.specs.List.{All, list_all}
use Rattle.std.proofs.lemmas.Bool.{and_parts, ltb-true}
use Rattle.std.proofs.lemmas.List.Elements.{All-weaker}
use Rattle.std.proofs.lemmas.List.Sums.{AllPass-from_list_all}
use Rattle.dimensions.specs.Choosing.{when}
use Rattle.task_props.specs.Types.{File, Properties}
use Rattle.task_props.specs.Canonical.{canonical, HasByteDigests, HasWords}
use Rattle.task_props.proofs.Telling.{canonical_tells}
use Rattle.task_props.specs.declared.prop_rule.PropRule.TheVariants as prop_rule
use Rattle.task_props.specs.FieldRules.{range_rule, timeout_rule}
use Rattle.task_props.specs.Digests.{is_byte, is_digest}
use Rattle.task_props.specs.Sorted.{is_path, is_file}
use Rattle.task_props.specs.Checked.{is_env, are_caches, are_inputs, has_lists, has_times, are_sound}
use Rattle.task_props.specs.Texts.{HaveOneTextEach}

within : (b : Bool) → is_none (when (not b) prop_rule.Range) ≡ true → b ≡ true
within true h = h
within false h = absurd (cc (h))

below : (most n : ℕ) → is_none (range_rule 0 most (pos n)) ≡ true → n ≤ most
below most n h = leb-true n most (and_parts _ _ (within (nat_le 0 n && nat_le n most) h)).1

-- the inputs are files
are_files : (p : Properties) → are_sound p ≡ true → list_all is_file p.inputs ≡ true
are_files p h =
    let lists = (and_parts _ (has_lists p) (and_parts _ (has_times p) h).0).1 in
    let caches = (and_parts (is_env p.env) _ lists).1 in
    let inputs = (and_parts (are_inputs p.inputs) _ (and_parts (are_caches p.caches) _ caches).1).0 in
    (and_parts (list_all is_file p.inputs) _ (and_parts (nat_le (length p.inputs) 64) _ inputs).1).0

digest_bytes : (file : File) → is_file file ≡ true → All (λ byte. byte < 256) file.digest
digest_bytes file h =
    let named = (and_parts (is_digest file.digest) _ (and_parts (is_path file.path) _ h).1).0 in
    let bytes = AllPass-from_list_all is_byte file.digest (and_parts (length file.digest == 32) _ named).1 in
    All-weaker (λ byte. is_byte byte ≡ true) (λ byte. byte < 256) (λ byte b. ltb-true byte 256 b) file.digest bytes

size_fits : (file : File) → is_file file ≡ true → file.size < 2 ^ 32
size_fits file h =
    let size = leb-true file.size 16777216 (and_parts (is_digest file.digest) _ (and_parts (is_path file.path) _ h).1).1 in
    omega (arith, size)

digests : (p : Properties) → are_sound p ≡ true → HasByteDigests p
digests p h = All-weaker (λ file. is_file file ≡ true) (λ file. All (λ byte. byte < 256) file.digest) digest_bytes p.inputs (AllPass-from_list_all is_file p.inputs (are_files p h))

words : (p : Properties) → are_sound p ≡ true → HasWords p
words p h =
    let times = (and_parts _ (has_times p) h).1 in
    let first = and_parts (is_none (timeout_rule (pos p.execution_timeout_secs))) _ times in
    let rest = and_parts (is_none (timeout_rule (pos p.io_timeout_secs))) _ first.1 in
    let execution = below 604800 p.execution_timeout_secs first.0 in
    let io = below 604800 p.io_timeout_secs rest.0 in
    let grace = below 3600 p.grace_period_secs rest.1 in
    let sizes = All-weaker (λ file. is_file file ≡ true) (λ file. file.size < 2 ^ 32) size_fits p.inputs (AllPass-from_list_all is_file p.inputs (are_files p h)) in
    ((omega arith, omega arith, omega arith), sizes)

pub have_one_text_each : HaveOneTextEach
have_one_text_each a b a_sound b_sound =
    (canonical_tells a b (digests a a_sound) (digests b b_sound) (words a a_sound) (words b b_sound), ap canonical)
