-- The bytes that come with a request's entry.
use Rattle.std.proofs.Common.{◌≡◌, ℕ, List, length, Option, Some, None, IfSome, IsTrue, is_some, refl, ap, sym, subst, ◌∙◌}
use Rattle.std.specs.Option.{option_map}
use Rattle.std.proofs.lemmas.Bool.{false≢true}
use Rattle.std.proofs.lemmas.Option.{same_Some}
use Rattle.sha2.specs.Sha256.{sha256}
use Rattle.swarm_history.specs.Types.{PoolState, Entry, EntryKind, Request}
use Rattle.swarm_model.specs.Answers.{answer, decide, entry_at}
use Rattle.swarm_model.specs.Bytes.{Carries, brings, new_digest}
use Rattle.pool_laws.proofs.Carrying.{brings_carried}

-- a value that is there is there after a change
pub still_some : {A B : Type 0} (f : A → B) (o : Option A) → IsTrue (is_some o) → IsTrue (is_some (option_map f o))
still_some f None there = there
still_some f (Some a) there = refl

-- and what held of it then holds of it
pub still_such : {A B : Type 0} (f : A → B) (P : B → Type 0) (o : Option A) → IfSome o (λ a. P (f a)) → IfSome (option_map f o) P
still_such f P None such = tt
still_such f P (Some a) such = such

-- the bytes are those that an entry brings
abbrev AreBrought : List ℕ → Entry → Type 0
AreBrought bytes entry = IfSome (brings entry.kind) (λ b. b ≡ (sha256 bytes, length bytes))

of_kind : (moment pass : ℕ) (bytes : List ℕ) (entry : Entry) (o : Option EntryKind) → ((k : EntryKind) → o ≡ Some k → AreBrought bytes (entry_at moment pass k))
    → option_map (entry_at moment pass) o ≡ Some entry → AreBrought bytes entry
of_kind moment pass bytes entry None each is = absurd (cc (is))
of_kind moment pass bytes entry (Some k) each is = subst (AreBrought bytes) (same_Some _ _ is) (each k refl)

-- a request's bytes are those of the entry that answers it
pub entry_carried : (s : PoolState) (who : List ℕ) (moment pass : ℕ) (request : Request) (bytes : List ℕ) (entry : Entry)
    → (answer s who moment pass request).entry ≡ Some entry → Carries request bytes → AreBrought bytes entry
entry_carried s who moment pass request bytes entry is carries =
    of_kind moment pass bytes entry (decide s who moment request).entry (λ k adds. brings_carried s who moment request bytes k adds carries) is

pass_of_kind : (moment pass : ℕ) (entry : Entry) (o : Option EntryKind) → option_map (entry_at moment pass) o ≡ Some entry → entry.pass ≡ pass
pass_of_kind moment pass entry None is = absurd (cc (is))
pass_of_kind moment pass entry (Some k) is = sym (ap (λ (e : Entry). e.pass) (same_Some _ _ is))

-- an answer's entry bears the number of the pass that asked
pub answer_bears : (s : PoolState) (who : List ℕ) (moment pass : ℕ) (request : Request) (entry : Entry)
    → (answer s who moment pass request).entry ≡ Some entry → entry.pass ≡ pass
answer_bears s who moment pass request entry is = pass_of_kind moment pass entry (decide s who moment request).entry is

-- an entry that places no blob needs no bytes
pub none_new : {P : Type 0} (s : PoolState) (k : EntryKind) → new_digest s k ≡ None → IsTrue (is_some (new_digest s k)) → P
none_new s k none new = absurd (false≢true (sym (ap is_some none) ∙ new))
