-- The bytes that come with an entry are those that came with its request.
use Rattle.std.proofs.Common.{◌≡◌, ℕ, not, List, length, Bool, true, false, Option, Some, None, IfSome, IsTrue, is_some, is_none, refl, subst}
use Rattle.std.specs.Option.{option_and_then}
use Rattle.sha2.specs.Sha256.{sha256}
use Rattle.dimensions.specs.Alike.{same}
use Rattle.dimensions.specs.Choosing.{when}
use Rattle.pool_laws.specs.Types.{Attempt, Chunk, Last, PoolState, Deadline, Cause, Decision, Entry, EntryKind, Request}
use Rattle.swarm_model.specs.declared.deadline.Cause.TheVariants as cause
use Rattle.swarm_model.specs.declared.entry.EntryKind.TheVariants as kind
use Rattle.swarm_model.specs.Finding.{blob_of}
use Rattle.swarm_model.specs.Bytes.{brings, new_digest, Carries}
use Rattle.swarm_model.specs.Deadlines.{entry_of, settled, due_entry}
use Rattle.swarm_model.specs.Effects.{fresh_chunk, attempt_of}
use Rattle.swarm_model.specs.Answers.{decide}
use Rattle.pool_laws.proofs.Alike.{same_is}
use Rattle.pool_laws.proofs.Decisions.{BringsNone, is_refusal, of_each}
use Rattle.pool_laws.proofs.Earliest.{due_at}
use Rattle.pool_laws.proofs.EntryPreconditions.{not_not}

-- the bytes are those that an entry brings
abbrev AreBrought : List ℕ → EntryKind → Type 0
AreBrought bytes k = IfSome (brings k) (λ b. b ≡ (sha256 bytes, length bytes))

module _ (s : PoolState) (bytes : List ℕ) where
  abbrev Brings : Decision → Type 0
  Brings told = IfSome told.entry (AreBrought bytes)

  -- entries of other kinds bring none
  none_brought : (refused : Bool) (added : Option EntryKind) → BringsNone refused added → IfSome added (AreBrought bytes)
  none_brought refused None none = tt
  none_brought true (Some k) none = absurd none
  none_brought false (Some (kind.Put digest size)) none = absurd none
  none_brought false (Some (kind.Update b t try_no chunk last)) none = absurd none
  none_brought false (Some k) none = tt

  -- a report brings its chunk
  chunk_brought : (b t try_no : ℕ) (chunk : Option Chunk) (last : Option Last) → IfSome chunk (λ c. (c.digest ≡ sha256 bytes) × (c.size ≡ length bytes)) → AreBrought bytes (kind.Update b t try_no chunk last)
  chunk_brought b t try_no None last c = tt
  chunk_brought b t try_no (Some chunk) last c = let first = c.0 in let second = c.1 in cc (first, second)

  -- and a put its content
  content_brought : (named actual : List ℕ) (size : ℕ) → not (same actual named) ≡ false → (actual ≡ sha256 bytes) × (size ≡ length bytes) → AreBrought bytes (kind.Put named size)
  content_brought named actual size alike content =
      let own : actual ≡ named = same_is actual named (not_not (same actual named) alike) in
      let is = content.0 in
      let counted = content.1 in
      cc (own, is, counted)

  tell_brings : (who : List ℕ) (m : ℕ) (request : Request) → Carries request bytes → Brings (decide s who m request)
  tell_brings who m request carried =
      of_each s Brings (λ decision plain. none_brought (is_refusal decision.reply) decision.entry plain.1) who m request (record {
        result = λ number try_no task asked is. tt;
        tasks = λ wanted limit below. tt;
        stdout = λ from to state chunks has. tt;
        blob = λ digest blob is. tt;
        update = λ name number tried b t try_no chunk last attempt is. chunk_brought b t try_no chunk last (subst (λ (r : Request). Carries r bytes) is carried);
        put = λ named actual size is alike. content_brought named actual size alike (subst (λ (r : Request). Carries r bytes) is carried);
      })

-- the entry of a request brings the bytes that the request carries
pub brings_carried : (s : PoolState) (who : List ℕ) (moment : ℕ) (request : Request) (bytes : List ℕ) (k : EntryKind) → (decide s who moment request).entry ≡ Some k → Carries request bytes →
    IfSome (brings k) (λ b. b ≡ (sha256 bytes, length bytes))
brings_carried s who moment request bytes k e carried = subst (λ (o : Option EntryKind). IfSome o (AreBrought bytes)) e (tell_brings s bytes who moment request carried)

-- an entry that places a blob brings its bytes
pub new_is_brought : (s : PoolState) (k : EntryKind) → IsTrue (is_some (new_digest s k)) → IsTrue (is_some (brings k))
new_is_brought s (kind.Put digest size) h = refl
new_is_brought s (kind.Update b t try_no (Some chunk) last) h = refl
new_is_brought s (kind.Update b t try_no None last) h = by_attempt (attempt_of s t) h
  where
    by_attempt : (r : Option Attempt) → is_some (option_and_then (λ (c : Chunk). when (is_none (blob_of s c.digest)) c.digest) (fresh_chunk r None)) ≡ true → false ≡ true
    by_attempt None g = g
    by_attempt (Some attempt) g = g
new_is_brought s k h = h

-- that of a deadline places none
pub deadline_brings : (s : PoolState) (d : Deadline) (pass : ℕ) → new_digest s (entry_of s pass d).kind ≡ None
deadline_brings s d pass = by_cause d.cause
  where
    by_cause : (c : Cause) → new_digest s (settled s c d.number) ≡ None
    by_cause cause.Slice = refl
    by_cause cause.Silence = refl
    by_cause cause.Bot = refl
    by_cause cause.Blob = refl

-- nor does one that is due
pub due_brings : (s : PoolState) (moment pass : ℕ) (e : Entry) → due_entry s moment pass ≡ Some e → new_digest s e.kind ≡ None
due_brings s moment pass e due = let at = due_at s moment pass e due in subst (λ (x : Entry). new_digest s x.kind ≡ None) at.is (deadline_brings s at.d pass)
