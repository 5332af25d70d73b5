-- What tests the same is the same.
use Rattle.std.proofs.Common.{◌≡◌, ℕ, ◌==◌, List, [], ◌∷◌, Bool, true, false, Option, Some, None, refl, ap}
use Rattle.std.specs.Prelude.{unwrap_or}
use Rattle.std.specs.Bool.{Decides, beq}
use Rattle.std.specs.Cmp.Lexicographic.{bytes_decides, pointwise}
use Rattle.std.proofs.lemmas.Bool.{cond_both, and_parts, and_from, eq-eqb}
use Rattle.std.proofs.lemmas.Slice.Eq.{slice_eq-Decides}
use Rattle.pool_laws.specs.Types.{BotDims, File, Properties, Slice, NewTask}
use Rattle.dimensions.specs.Alike.{same, same_pair, same_values, same_dims}
use Rattle.task_props.specs.declared.cache.Cache.{Cache}
use Rattle.task_props.specs.Alike.{same_cache, same_file, same_properties}
use Rattle.task_props.specs.Alike.{same_slice, same_task}
use Rattle.swarm_model.specs.Answers.{dims_unless, text_unless}

-- texts
pub same_is : (a b : List ℕ) → same a b ≡ true → a ≡ b
same_is a b e = (bytes_decides a b).0 e

-- and what is the same tests the same
pub is_same : (a b : List ℕ) → a ≡ b → same a b ≡ true
is_same a b e = (bytes_decides a b).1 e

-- a text is the same as itself
pub same_self : (a : List ℕ) → same a a ≡ true
same_self a = is_same a a refl

-- a number is the same as itself
number_self : (n : ℕ) → (n == n) ≡ true
number_self n = eq-eqb n n refl

-- so is a truth value
flag_self : (b : Bool) → beq b b ≡ true
flag_self true = refl
flag_self false = refl

-- and so is a list, where its elements are
each_self : {A : Type 0} (test : A → A → Bool) → ((x : A) → test x x ≡ true) → (xs : List A) → pointwise test xs xs ≡ true
each_self test e [] = refl
each_self test e (x ∷ xs) = and_from (test x x) (pointwise test xs xs) (e x) (each_self test e xs)

pair_self : (p : List ℕ × List ℕ) → same_pair p p ≡ true
pair_self p = and_from (same p.0 p.0) (same p.1 p.1) (same_self p.0) (same_self p.1)

cache_self : (c : Cache) → same_cache c c ≡ true
cache_self c = and_from (same c.name c.name) (same c.path c.path) (same_self c.name) (same_self c.path)

file_self : (f : File) → same_file f f ≡ true
file_self f = rw (same_self f.path, same_self f.digest, number_self f.size) refl

properties_self : (p : Properties) → same_properties p p ≡ true
properties_self p =
    rw (
      each_self same same_self p.command,
      each_self same_pair pair_self p.env,
      each_self same_pair pair_self p.dimensions,
      each_self same_cache cache_self p.caches,
      each_self same_file file_self p.inputs,
      each_self same same_self p.outputs,
      number_self p.execution_timeout_secs,
      number_self p.io_timeout_secs,
      number_self p.grace_period_secs,
      flag_self p.idempotent,
    ) refl

slice_self : (x : Slice) → same_slice x x ≡ true
slice_self x = rw (number_self x.expiration_secs, flag_self x.wait_for_capacity, properties_self x.properties) refl

-- a request for a task is the same as itself
pub task_self : (t : NewTask) → same_task t t ≡ true
task_self t =
    rw (same_self t.name, number_self t.priority, number_self t.bot_ping_tolerance_secs, same_self t.request_uuid, each_self same_slice slice_self t.task_slices) refl

-- lists of texts
texts_decide : (a b : List (List ℕ)) → Decides (pointwise same a b) (a ≡ b)
texts_decide a b = slice_eq-Decides bytes_decides a b (pointwise same a b) refl

-- keys with their values
values_decide : (a b : List ℕ × List (List ℕ)) → Decides (same_values a b) (a ≡ b)
values_decide (k, v) (l, w) = (
  λ e. (let both = and_parts (same k l) (pointwise same v w) e in let first = same_is k l both.0 in let second = (texts_decide v w).0 both.1 in cc (first, second)),
  λ e. and_from (same k l) (pointwise same v w) (is_same k l (ap (λ (p : List ℕ × List (List ℕ)). p.0) e)) ((texts_decide v w).1 (ap (λ (p : List ℕ × List (List ℕ)). p.1) e)),
)

-- what two bots have
pub dims_are : (a b : BotDims) → same_dims a b ≡ true → a ≡ b
dims_are a b e = (slice_eq-Decides values_decide a b (same_dims a b) refl).0 e

-- an entry tells what is as it was by saying nothing
pub dims_told : (old new : BotDims) → unwrap_or (dims_unless old new) old ≡ new
dims_told old new = cond_both (same_dims old new) None (Some new) (λ (r : Option BotDims). unwrap_or r old ≡ new) (λ t. dims_are old new t) (λ t. refl)

-- so does a text
pub text_told : (old new : List ℕ) → unwrap_or (text_unless old new) old ≡ new
text_told old new = cond_both (same old new) None (Some new) (λ (r : Option (List ℕ)). unwrap_or r old ≡ new) (λ t. same_is old new t) (λ t. refl)
