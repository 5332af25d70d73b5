-- What a log tells of the runs of one bot at one task, and of one entry more.
use Rattle.std.proofs.Common.{◌≡◌, ◌⊎◌, inl, inr, ℕ, ◌+◌, ◌≤◌, ◌==◌, List, [], ◌∷◌, ◌++◌, Bool, true, false, Option, Some, None, option_map, IfSome, ap, sym, ◌∙◌, subst, arith}
use Rattle.std.specs.List.{Contains}
use Rattle.std.specs.Option.{option_and_then}
use Rattle.dimensions.specs.Choosing.{when, ◌or_else◌}
use Rattle.log_laws.specs.Types.{Attempt, Chunk, Last, Entry, EntryKind}
use Rattle.swarm_model.specs.declared.entry.EntryKind.TheVariants as kind
use Rattle.swarm_model.specs.Effects.{killed}
use Rattle.log_laws.specs.Runs.{HasEntry}
use Rattle.log_laws.proofs.Entries.{has_left, has_last, has_cases}

-- the bot and the task of a claim or an update
abbrev pub about : EntryKind → Option (ℕ × ℕ)
about (kind.Claim b t id) = Some (b, t)
about (kind.Update b t n chunk last) = Some (b, t)
about k = None

-- nothing
pub record TellsNone (log : List Entry) (b t : ℕ) : Type 0 where
  pub no_claim : (id : List ℕ) → HasEntry log (kind.Claim b t id) → ⊥
  pub no_update : (n : ℕ) (chunk : Option Chunk) (last : Option Last) → HasEntry log (kind.Update b t n chunk last) → ⊥

-- this run
pub record TellsSome (log : List Entry) (b t : ℕ) (a : Attempt) : Type 0 where
  pub claimed : HasEntry log (kind.Claim b t a.claim)
  pub only : (id : List ℕ) → HasEntry log (kind.Claim b t id) → id ≡ a.claim
  pub chunks : (c : Chunk) → Contains a.chunks c → (last : Option Last) × HasEntry log (kind.Update b t a.try_no (Some c) last)
  pub last : IfSome a.last (λ l. HasEntry log (kind.Update b t a.try_no a.last_chunk (Some l)))
  pub tried : (n : ℕ) (chunk : Option Chunk) (last : Option Last) → HasEntry log (kind.Update b t n chunk last) → n ≡ a.try_no
  pub reached : (n : ℕ) (c : Chunk) (last : Option Last) → HasEntry log (kind.Update b t n (Some c) last) → c.start + c.size ≤ a.length

abbrev pub TellsOf : List Entry → ℕ → ℕ → Option Attempt → Type 0
TellsOf log b t None = TellsNone log b t
TellsOf log b t (Some a) = TellsSome log b t a

-- the run with this output and this end
abbrev pub with_output : List Chunk → ℕ → Option Last → Option Chunk → Attempt → Attempt
with_output chunks length last last_chunk a = record a { chunks = chunks; length = length; last = last; last_chunk = last_chunk }

module _ (log : List Entry) (e : Entry) (b t : ℕ) where
  -- an entry of another bot or another task
  none_kept : (about e.kind ≡ Some (b, t) → ⊥) → TellsNone log b t → TellsNone (log ++ e ∷ []) b t
  none_kept other h = record {
    no_claim = λ id k. by_claim id (has_cases log e (kind.Claim b t id) k);
    no_update = λ n chunk last k. by_update n chunk last (has_cases log e (kind.Update b t n chunk last) k);
  }
    where
      by_claim : (id : List ℕ) → HasEntry log (kind.Claim b t id) ⊎ (e.kind ≡ kind.Claim b t id) → ⊥
      by_claim id (inl k) = h.no_claim id k
      by_claim id (inr k) = other (ap about k)

      by_update : (n : ℕ) (chunk : Option Chunk) (last : Option Last) → HasEntry log (kind.Update b t n chunk last) ⊎ (e.kind ≡ kind.Update b t n chunk last) → ⊥
      by_update n chunk last (inl k) = h.no_update n chunk last k
      by_update n chunk last (inr k) = other (ap about k)

  some_kept : (a : Attempt) → (about e.kind ≡ Some (b, t) → ⊥) → TellsSome log b t a → TellsSome (log ++ e ∷ []) b t a
  some_kept a other h = record {
    claimed = has_left log (e ∷ []) (kind.Claim b t a.claim) h.claimed;
    only = λ id k. by_claim id (has_cases log e (kind.Claim b t id) k);
    chunks = λ c m. let x = h.chunks c m in (x.0, has_left log (e ∷ []) (kind.Update b t a.try_no (Some c) x.0) x.1);
    last = by_last a.last h.last;
    tried = λ n chunk last k. by_update n chunk last (has_cases log e (kind.Update b t n chunk last) k);
    reached = λ n c last k. by_chunk n c last (has_cases log e (kind.Update b t n (Some c) last) k);
  }
    where
      by_claim : (id : List ℕ) → HasEntry log (kind.Claim b t id) ⊎ (e.kind ≡ kind.Claim b t id) → id ≡ a.claim
      by_claim id (inl k) = h.only id k
      by_claim id (inr k) = absurd (other (ap about k))

      by_last : (l : Option Last) → IfSome l (λ l. HasEntry log (kind.Update b t a.try_no a.last_chunk (Some l))) → IfSome l (λ l. HasEntry (log ++ e ∷ []) (kind.Update b t a.try_no a.last_chunk (Some l)))
      by_last None k = tt
      by_last (Some l) k = has_left log (e ∷ []) (kind.Update b t a.try_no a.last_chunk (Some l)) k

      by_update : (n : ℕ) (chunk : Option Chunk) (last : Option Last) → HasEntry log (kind.Update b t n chunk last) ⊎ (e.kind ≡ kind.Update b t n chunk last) → n ≡ a.try_no
      by_update n chunk last (inl k) = h.tried n chunk last k
      by_update n chunk last (inr k) = absurd (other (ap about k))

      by_chunk : (n : ℕ) (c : Chunk) (last : Option Last) → HasEntry log (kind.Update b t n (Some c) last) ⊎ (e.kind ≡ kind.Update b t n (Some c) last) → c.start + c.size ≤ a.length
      by_chunk n c last (inl k) = h.reached n c last k
      by_chunk n c last (inr k) = absurd (other (ap about k))

  pub of_kept : (o : Option Attempt) → (about e.kind ≡ Some (b, t) → ⊥) → TellsOf log b t o → TellsOf (log ++ e ∷ []) b t o
  of_kept None other h = none_kept other h
  of_kept (Some a) other h = some_kept a other h

  -- an update of the run, which leaves it this output and this end
  pub updated : (n : ℕ) (chunk : Option Chunk) (last : Option Last) (a : Attempt) (chunks : List Chunk) (length : ℕ) (closed : Option Last) (tail : Option Chunk) → e.kind ≡ kind.Update b t n chunk last → n ≡ a.try_no →
      ((c : Chunk) → Contains chunks c → Contains a.chunks c ⊎ (chunk ≡ Some c)) → ((closed ≡ a.last) × (tail ≡ a.last_chunk)) ⊎ ((closed ≡ last) × (tail ≡ chunk)) →
      a.length ≤ length → ((c : Chunk) → chunk ≡ Some c → c.start + c.size ≤ length) → TellsSome log b t a → TellsSome (log ++ e ∷ []) b t (with_output chunks length closed tail a)
  updated n chunk last a chunks length closed tail is same of_chunks ends long end h = record {
    claimed = has_left log (e ∷ []) (kind.Claim b t a.claim) h.claimed;
    only = λ id k. by_claim id (has_cases log e (kind.Claim b t id) k);
    chunks = λ c m. by_chunk c (of_chunks c m);
    last = by_ends ends;
    tried = λ n2 chunk2 last2 k. by_update n2 chunk2 last2 (has_cases log e (kind.Update b t n2 chunk2 last2) k);
    reached = λ n2 c last2 k. by_end n2 c last2 (has_cases log e (kind.Update b t n2 (Some c) last2) k);
  }
    where
      own : HasEntry (log ++ e ∷ []) (kind.Update b t a.try_no chunk last)
      own = has_last log e _ (is ∙ ap (λ (z : ℕ). kind.Update b t z chunk last) same)

      by_claim : (id : List ℕ) → HasEntry log (kind.Claim b t id) ⊎ (e.kind ≡ kind.Claim b t id) → id ≡ a.claim
      by_claim id (inl k) = h.only id k
      by_claim id (inr k) = absurd (cc (is, k))

      by_chunk : (c : Chunk) → Contains a.chunks c ⊎ (chunk ≡ Some c) → (last : Option Last) × HasEntry (log ++ e ∷ []) (kind.Update b t a.try_no (Some c) last)
      by_chunk c (inl m) = (let x = h.chunks c m in (x.0, has_left log (e ∷ []) (kind.Update b t a.try_no (Some c) x.0) x.1))
      by_chunk c (inr m) = (last, subst (λ (z : Option Chunk). HasEntry (log ++ e ∷ []) (kind.Update b t a.try_no z last)) m own)

      old_last : (l : Option Last) → IfSome l (λ l. HasEntry log (kind.Update b t a.try_no a.last_chunk (Some l))) → IfSome l (λ l. HasEntry (log ++ e ∷ []) (kind.Update b t a.try_no a.last_chunk (Some l)))
      old_last None k = tt
      old_last (Some l) k = has_left log (e ∷ []) (kind.Update b t a.try_no a.last_chunk (Some l)) k

      new_last : (l : Option Last) → last ≡ l → IfSome l (λ l. HasEntry (log ++ e ∷ []) (kind.Update b t a.try_no chunk (Some l)))
      new_last None k = tt
      new_last (Some l) k = subst (λ (z : Option Last). HasEntry (log ++ e ∷ []) (kind.Update b t a.try_no chunk z)) k own

      by_ends : ((closed ≡ a.last) × (tail ≡ a.last_chunk)) ⊎ ((closed ≡ last) × (tail ≡ chunk)) → IfSome closed (λ l. HasEntry (log ++ e ∷ []) (kind.Update b t a.try_no tail (Some l)))
      by_ends (inl k) =
          subst (λ (z : Option Chunk). IfSome closed (λ l. HasEntry (log ++ e ∷ []) (kind.Update b t a.try_no z (Some l)))) (sym k.1)
          (subst (λ (z : Option Last). IfSome z (λ l. HasEntry (log ++ e ∷ []) (kind.Update b t a.try_no a.last_chunk (Some l)))) (sym k.0) (old_last a.last h.last))
      by_ends (inr k) =
          subst (λ (z : Option Chunk). IfSome closed (λ l. HasEntry (log ++ e ∷ []) (kind.Update b t a.try_no z (Some l)))) (sym k.1) (new_last closed (sym k.0))

      by_update : (n2 : ℕ) (chunk2 : Option Chunk) (last2 : Option Last) → HasEntry log (kind.Update b t n2 chunk2 last2) ⊎ (e.kind ≡ kind.Update b t n2 chunk2 last2) → n2 ≡ a.try_no
      by_update n2 chunk2 last2 (inl k) = h.tried n2 chunk2 last2 k
      by_update n2 chunk2 last2 (inr k) = (let z : n ≡ n2 = cc (is, k) in sym z ∙ same)

      by_end : (n2 : ℕ) (c : Chunk) (last2 : Option Last) → HasEntry log (kind.Update b t n2 (Some c) last2) ⊎ (e.kind ≡ kind.Update b t n2 (Some c) last2) → c.start + c.size ≤ length
      by_end n2 c last2 (inl k) = (let x = h.reached n2 c last2 k in omega (arith, x, long))
      by_end n2 c last2 (inr k) = end c (cc (is, k))

  -- a claim, where nothing was told before
  pub begun : (a : Attempt) → e.kind ≡ kind.Claim b t a.claim → a.chunks ≡ [] → a.last ≡ None → TellsNone log b t → TellsSome (log ++ e ∷ []) b t a
  begun a is empty going h = record {
    claimed = has_last log e (kind.Claim b t a.claim) is;
    only = λ id k. by_claim id (has_cases log e (kind.Claim b t id) k);
    chunks = λ c m. absurd (let low = (subst (λ (cs : List Chunk). Contains cs c) empty m).1 in omega (arith, low));
    last = subst (λ (l : Option Last). IfSome l (λ l. HasEntry (log ++ e ∷ []) (kind.Update b t a.try_no a.last_chunk (Some l)))) (sym going) tt;
    tried = λ n chunk last k. absurd (by_update n chunk last (has_cases log e (kind.Update b t n chunk last) k));
    reached = λ n c last k. absurd (by_update n (Some c) last (has_cases log e (kind.Update b t n (Some c) last) k));
  }
    where
      by_claim : (id : List ℕ) → HasEntry log (kind.Claim b t id) ⊎ (e.kind ≡ kind.Claim b t id) → id ≡ a.claim
      by_claim id (inl k) = absurd (h.no_claim id k)
      by_claim id (inr k) = cc (is, k)

      by_update : (n : ℕ) (chunk : Option Chunk) (last : Option Last) → HasEntry log (kind.Update b t n chunk last) ⊎ (e.kind ≡ kind.Update b t n chunk last) → ⊥
      by_update n chunk last (inl k) = h.no_update n chunk last k
      by_update n chunk last (inr k) = absurd (cc (is, k))

-- a run that is asked to stop is told as before
pub of_killed : (log : List Entry) (b t : ℕ) (att other : Option Attempt) → TellsOf log b t (option_and_then (λ (a : Attempt). when (a.bot == b) a) att or_else other) →
    TellsOf log b t (option_and_then (λ (a : Attempt). when (a.bot == b) a) (option_map killed att) or_else other)
of_killed log b t None other h = h
of_killed log b t (Some y) other h = by_test (y.bot == b) h
  where
    by_test : (c : Bool) → TellsOf log b t (when c y or_else other) → TellsOf log b t (when c (killed y) or_else other)
    by_test true g = record { claimed = g.claimed; only = g.only; chunks = g.chunks; last = g.last; tried = g.tried; reached = g.reached }
    by_test false g = g
