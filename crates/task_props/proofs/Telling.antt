-- A canonical text tells its properties, field by field.
use Rattle.std.proofs.Common.{◌≡◌, ℕ, ◌^◌, ◌<◌, ◌≤◌, List, [], ◌∷◌, Bool, false, decimal, refl, sym, ap, ap₂, ◌∙◌, arith}
use Rattle.std.proofs.lemmas.Fmt.{decimal_injective}
use Rattle.std.specs.Prelude.{zero, suc, ⊤}
use Rattle.std.specs.List.{All}
use Rattle.json.specs.Json as json
use Rattle.json.specs.Print.{IsNumber}
use Rattle.json.specs.Tree.{depth, HasNumbers}
use Rattle.json.proofs.Printed.Decimals.{IsNumber-decimal}
use Rattle.hex.specs.Hex.{IsBytes, decode_of, encode_lower}
use Rattle.hex.proofs.HexLemmas.{decode_of-encode_lower}
use Rattle.serde_json.specs.Data.{string}
use Rattle.serde_json.specs.Written.{outline}
use Rattle.task_props.specs.Types.{Cache, File, Properties}
use Rattle.task_props.specs.Canonical.{pair_data, cache_data, input_data, canonical_data, canonical, HasByteDigests, HasWords, CanonicalTells}
use Rattle.task_props.specs.Shown.{later_members, properties_with}
use Rattle.task_props.proofs.Outlines.{text_tells, list_tells, list_has_numbers, list_depth}

-- ---- what each item tells

pair_tells : (a b : List ℕ × List ℕ) → outline (pair_data a) ≡ outline (pair_data b) → a ≡ b
pair_tells a b e =
    let first : a.0 ≡ b.0 = cc in
    let second : a.1 ≡ b.1 = cc in
    ap₂ (λ x y. (x, y)) first second

cache_tells : (a b : Cache) → outline (cache_data a) ≡ outline (cache_data b) → a ≡ b
cache_tells a b e =
    let name : a.name ≡ b.name = cc in
    let path : a.path ≡ b.path = cc in
    ap₂ (λ x y. record { name = x; path = y }) name path

bytes : (xs : List ℕ) → All (λ byte. byte < 256) xs → IsBytes xs
bytes [] h i = omega arith
bytes (x ∷ xs) h zero = h 0 x (omega arith)
bytes (x ∷ xs) h (suc i) = bytes xs (λ k d low. h (suc k) d (omega arith)) i

hex_tells : (xs ys : List ℕ) → All (λ byte. byte < 256) xs → All (λ byte. byte < 256) ys → encode_lower xs ≡ encode_lower ys → xs ≡ ys
hex_tells xs ys p q e =
    let same = sym (decode_of-encode_lower xs (bytes xs p)) ∙ ap decode_of e ∙ decode_of-encode_lower ys (bytes ys q) in
    cc

whole_tells : (m n : ℕ) → m < 2 ^ 32 → n < 2 ^ 32 → decimal m ≡ decimal n → m ≡ n
whole_tells m n p q e = decimal_injective m n (omega arith) (omega arith) e

abbrev file_of : List ℕ → List ℕ → ℕ → File
file_of p d s = record { path = p; digest = d; size = s }

abbrev IsFile : File → Type 0
IsFile file = All (λ byte. byte < 256) file.digest × (file.size < 2 ^ 32)

input_tells : (a b : File) → IsFile a → IsFile b → outline (input_data a) ≡ outline (input_data b) → a ≡ b
input_tells a b p q e =
    let path : a.path ≡ b.path = cc in
    let digest_text : encode_lower a.digest ≡ encode_lower b.digest = cc in
    let size_text : decimal a.size ≡ decimal b.size = cc in
    let digest = hex_tells a.digest b.digest p.0 q.0 digest_text in
    let size = whole_tells a.size b.size p.1 q.1 size_text in
    let same : file_of a.path a.digest a.size ≡ file_of b.path b.digest b.size = rw (path, digest, size) refl in
    same

-- ---- the whole

word_number : (n : ℕ) → n < 2 ^ 32 → IsNumber (decimal n)
word_number n h = IsNumber-decimal n (omega arith)

AnyAll : {A : Type 0} (xs : List A) → All (λ _. ⊤) xs
AnyAll xs k d low = tt

files : (p : Properties) → HasByteDigests p → HasWords p → All IsFile p.inputs
files p digests words k d low = (digests k d low, words.1 k d low)

has_numbers : (p : Properties) → HasByteDigests p → HasWords p → HasNumbers (outline (canonical_data p))
unfolding properties_with later_members
has_numbers p digests words =
    let caches = list_has_numbers cache_data (λ _. ⊤) (λ _ _. (tt, (tt, tt))) p.caches (AnyAll p.caches) in
    let command = list_has_numbers string (λ _. ⊤) (λ _ _. tt) p.command (AnyAll p.command) in
    let dimensions = list_has_numbers pair_data (λ _. ⊤) (λ _ _. (tt, (tt, tt))) p.dimensions (AnyAll p.dimensions) in
    let env = list_has_numbers pair_data (λ _. ⊤) (λ _ _. (tt, (tt, tt))) p.env (AnyAll p.env) in
    let inputs = list_has_numbers input_data IsFile (λ file h. (tt, (tt, (word_number file.size h.1, tt)))) p.inputs (files p digests words) in
    let outputs = list_has_numbers string (λ _. ⊤) (λ _ _. tt) p.outputs (AnyAll p.outputs) in
    let execution = word_number p.execution_timeout_secs words.0.0 in
    let io = word_number p.io_timeout_secs words.0.1 in
    let grace = word_number p.grace_period_secs words.0.2 in
    (caches, (command, (dimensions, (env, (execution, (grace, (tt, (inputs, (io, (outputs, tt))))))))))

is_shallow : (p : Properties) → depth (outline (canonical_data p)) ≤ json.max_depth
unfolding properties_with later_members
is_shallow p =
    omega (
      arith,
      list_depth cache_data 1 (λ _. omega arith) p.caches,
      list_depth string 1 (λ _. omega arith) p.command,
      list_depth pair_data 1 (λ _. omega arith) p.dimensions,
      list_depth pair_data 1 (λ _. omega arith) p.env,
      list_depth input_data 1 (λ _. omega arith) p.inputs,
      list_depth string 1 (λ _. omega arith) p.outputs,
    )

-- ---- the parts of an outline

abbrev members_in : json.Json → json.Members
members_in json.null = json.no_members
members_in (json.boolean b) = json.no_members
members_in (json.number s) = json.no_members
members_in (json.string s) = json.no_members
members_in (json.array js) = json.no_members
members_in (json.object ms) = ms

abbrev items_in : json.Json → json.Items
items_in json.null = json.no_items
items_in (json.boolean b) = json.no_items
items_in (json.number s) = json.no_items
items_in (json.string s) = json.no_items
items_in (json.array js) = js
items_in (json.object ms) = json.no_items

abbrev text_in : json.Json → List ℕ
text_in json.null = []
text_in (json.boolean b) = []
text_in (json.number s) = s
text_in (json.string s) = s
text_in (json.array js) = []
text_in (json.object ms) = []

abbrev flag_in : json.Json → Bool
flag_in json.null = false
flag_in (json.boolean b) = b
flag_in (json.number s) = false
flag_in (json.string s) = false
flag_in (json.array js) = false
flag_in (json.object ms) = false

-- the value of the member at a place
abbrev at : ℕ → json.Members → json.Json
at n json.no_members = json.null
at zero (json.member k j ms) = j
at (suc n) (json.member k j ms) = at n ms

abbrev part : ℕ → json.Json → json.Json
part n j = at n (members_in j)

-- ---- the whole

abbrev fields : List (List ℕ) → List (List ℕ × List ℕ) → List (List ℕ × List ℕ) → List Cache → List File → List (List ℕ) → ℕ → ℕ → ℕ → Bool → Properties
fields a b c d e f g h i j = record {
  command = a;
  env = b;
  dimensions = c;
  caches = d;
  inputs = e;
  outputs = f;
  execution_timeout_secs = g;
  io_timeout_secs = h;
  grace_period_secs = i;
  idempotent = j;
}

abbrev of_fields : Properties → Properties
of_fields p = fields p.command p.env p.dimensions p.caches p.inputs p.outputs p.execution_timeout_secs p.io_timeout_secs p.grace_period_secs p.idempotent

same_fields : (a b : Properties)
    → a.command ≡ b.command → a.env ≡ b.env → a.dimensions ≡ b.dimensions → a.caches ≡ b.caches → a.inputs ≡ b.inputs → a.outputs ≡ b.outputs
    → a.execution_timeout_secs ≡ b.execution_timeout_secs → a.io_timeout_secs ≡ b.io_timeout_secs → a.grace_period_secs ≡ b.grace_period_secs
    → a.idempotent ≡ b.idempotent → a ≡ b
same_fields a b command env dimensions caches inputs outputs execution io grace idempotent =
    let same : of_fields a ≡ of_fields b = rw (command, env, dimensions, caches, inputs, outputs, execution, io, grace, idempotent) refl in
    same

fields_tell : (a b : Properties) → HasByteDigests a → HasByteDigests b → HasWords a → HasWords b → outline (canonical_data a) ≡ outline (canonical_data b) → a ≡ b
unfolding properties_with later_members
fields_tell a b a_digests b_digests a_words b_words e =
    same_fields a b
    (list_tells string (λ _. ⊤) (λ x y _ _. ap text_in) a.command b.command (AnyAll a.command) (AnyAll b.command) (ap (λ j. items_in (part 1 j)) e))
    (list_tells pair_data (λ _. ⊤) (λ x y _ _. pair_tells x y) a.env b.env (AnyAll a.env) (AnyAll b.env) (ap (λ j. items_in (part 3 j)) e))
    (list_tells pair_data (λ _. ⊤) (λ x y _ _. pair_tells x y) a.dimensions b.dimensions (AnyAll a.dimensions) (AnyAll b.dimensions) (ap (λ j. items_in (part 2 j)) e))
    (list_tells cache_data (λ _. ⊤) (λ x y _ _. cache_tells x y) a.caches b.caches (AnyAll a.caches) (AnyAll b.caches) (ap (λ j. items_in (part 0 j)) e))
    (list_tells input_data IsFile input_tells a.inputs b.inputs (files a a_digests a_words) (files b b_digests b_words) (ap (λ j. items_in (part 7 j)) e))
    (list_tells string (λ _. ⊤) (λ x y _ _. ap text_in) a.outputs b.outputs (AnyAll a.outputs) (AnyAll b.outputs) (ap (λ j. items_in (part 9 j)) e))
    (whole_tells a.execution_timeout_secs b.execution_timeout_secs a_words.0.0 b_words.0.0 (ap (λ j. text_in (part 4 j)) e))
    (whole_tells a.io_timeout_secs b.io_timeout_secs a_words.0.1 b_words.0.1 (ap (λ j. text_in (part 8 j)) e))
    (whole_tells a.grace_period_secs b.grace_period_secs a_words.0.2 b_words.0.2 (ap (λ j. text_in (part 5 j)) e))
    (ap (λ j. flag_in (part 6 j)) e)

pub canonical_tells : CanonicalTells
unfolding canonical
canonical_tells a b a_digests b_digests a_words b_words same =
    fields_tell a b a_digests b_digests a_words b_words
    (text_tells (canonical_data a) (canonical_data b) (has_numbers a a_digests a_words) (has_numbers b b_digests b_words) (is_shallow a) (is_shallow b) same)
