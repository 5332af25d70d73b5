-- Longer logs, longer outputs.
use Rattle.std.proofs.Common.{◌≡◌, inl, inr, ℕ, zero, suc, ◌+◌, ◌≤◌, ◌<◌, Bool, List, [], ◌∷◌, ◌++◌, length, take, drop, Option, Some, None, IfSome, refl, ap, sym, ◌∙◌, subst, arith, length-append}
use Rattle.std.specs.Prelude.{slice_get}
use Rattle.std.proofs.lemmas.List.{take-append-le}
use Rattle.sha2.specs.Sha256.{sha256}
use Rattle.bot_worlds.specs.Types.{BotState, Chunk, Last, Entry, Reply, Request}
use Rattle.bot_core.specs.Output.{OutputState, OutputEvent, OutputStep, OutputSteps}
use Rattle.pool_laws.proofs.Lists.{Among}
use Rattle.pool_laws.proofs.Lists.Among.{here, later}
use Rattle.bot_worlds.specs.declared.child_run.ChildRun.{ChildRun}
use Rattle.bot_worlds.specs.Invariant.{BotLog, HasClaim, HasReport, IsPiece, IsReportedTo, Reaches, CarriesPiece, CarriesSome, IsRun, HasNewest, IsRight, IsBefore, AreBefore}

pub among_one : {X : Type 0} (x y : X) → Among x (y ∷ []) → x ≡ y
among_one x y here = refl
among_one x y (later a) = elim a [ ]

pub slice_among : {X : Type 0} (xs : List X) (i : ℕ) (x : X) → slice_get xs i ≡ Some x → Among x xs
slice_among [] i x h = absurd (cc)
slice_among (y ∷ xs) zero x h = let same : y ≡ x = cc (h) in subst (λ z. Among z (y ∷ xs)) same here
slice_among (y ∷ xs) (suc i) x h = later (slice_among xs i x h)

-- places within a list stay as it grows
pub slice_left : {X : Type 0} (xs ys : List X) (i : ℕ) → i < length xs → slice_get (xs ++ ys) i ≡ slice_get xs i
slice_left [] ys i h = absurd (omega arith)
slice_left (x ∷ xs) ys zero h = refl
slice_left (x ∷ xs) ys (suc i) h = slice_left xs ys i (omega arith)

pub slice_last : {X : Type 0} (xs : List X) (x : X) → slice_get (xs ++ x ∷ []) (length xs) ≡ Some x
slice_last [] x = refl
slice_last (y ∷ xs) x = slice_last xs x

pub slice_within : {X : Type 0} (xs : List X) (i : ℕ) (x : X) → slice_get xs i ≡ Some x → i < length xs
slice_within [] i x h = absurd (cc)
slice_within (y ∷ xs) zero x h = omega arith
slice_within (y ∷ xs) (suc i) x h = let k = slice_within xs i x h in omega (arith, k)

-- ---- output

piece_same : (s n : ℕ) (w b : List ℕ) → s + n ≤ length w → take n (drop s (w ++ b)) ≡ take n (drop s w)
piece_same zero n w b h = take-append-le n w b (omega arith)
piece_same (suc s) n [] b h = absurd (omega arith)
piece_same (suc s) n (x ∷ w) b h = piece_same s n w b (omega arith)

pub piece_longer : (w b : List ℕ) (c : Chunk) → IsPiece w c → IsPiece (w ++ b) c
piece_longer w b c p = record {
  within = let n = length-append w b in let k = p.within in omega (arith, n, k);
  digest = p.digest ∙ ap (λ (x : List ℕ). sha256 x) (sym (piece_same c.start c.size w b p.within));
}

pub pieces_longer : (w b : List ℕ) (chunk : Option Chunk) → IfSome chunk (IsPiece w) → IfSome chunk (IsPiece (w ++ b))
pieces_longer w b None p = tt
pieces_longer w b (Some c) p = piece_longer w b c p

-- ---- the log

-- what the log has of the bot, the longer log has
pub record IsLonger (l : BotLog) (new : List Entry) : Type 0 where
  pub claims : (t n : ℕ) (claim : List ℕ) → HasClaim l t n claim → HasClaim (record l { log = new }) t n claim
  pub reports : (t n : ℕ) (chunk : Option Chunk) (last : Option Last) → HasReport l t n chunk last → HasReport (record l { log = new }) t n chunk last

module _ (l : BotLog) (new : List Entry) (k : IsLonger l new) where
  abbrev l2 : BotLog
  l2 = record l { log = new }

  pub reported_longer : (t n end : ℕ) → IsReportedTo l t n end → IsReportedTo l2 t n end
  reported_longer t n end (inl h) = inl h
  reported_longer t n end (inr h) = inr (h.0, h.1, k.reports t n (Some h.0) h.1 h.2, h.3)

  reaches_longer : (t n end : ℕ) (chunk : Option Chunk) → Reaches l t n end chunk → Reaches l2 t n end chunk
  reaches_longer t n end None h = reported_longer t n end h
  reaches_longer t n end (Some c) h = h

  whole_longer : (w : List ℕ) (t n : ℕ) (chunk : Option Chunk) (last : Option Last) → IfSome last (λ report. report.dropped ≡ 0 → Reaches l t n (length w) chunk) →
      IfSome last (λ report. report.dropped ≡ 0 → Reaches l2 t n (length w) chunk)
  whole_longer w t n chunk None h = tt
  whole_longer w t n chunk (Some report) h = λ z. reaches_longer t n (length w) chunk (h z)

  carries_longer : (w : List ℕ) (t n : ℕ) (chunk : Option Chunk) (last : Option Last) → CarriesPiece l w t n chunk last → CarriesPiece l2 w t n chunk last
  carries_longer w t n chunk last c = record { piece = c.piece; whole = whole_longer w t n chunk last c.whole }

  pub some_longer : (over : Bool) (runs : List ChildRun) (t n : ℕ) (chunk : Option Chunk) (last : Option Last) → CarriesSome l over runs t n chunk last → CarriesSome l2 over runs t n chunk last
  some_longer over [] t n chunk last h = h
  some_longer over (run ∷ runs) t n chunk last (inl h) =
      inl (record { task = h.task; try_is = h.try_is; carries = carries_longer run.wrote t n chunk last h.carries; closed = h.closed })
  some_longer over (run ∷ runs) t n chunk last (inr h) =
      inr (record { run = h.run; among = h.among; task = h.task; try_is = h.try_is; carries = carries_longer h.run.wrote t n chunk last h.carries })

  pub run_longer : (run : ChildRun) → IsRun l run → IsRun l2 run
  run_longer run r = record { claimed = k.claims run.task run.try_no run.claim r.claimed; once = r.once; idle = r.idle }

  pub newest_longer : (s : BotState) (runs : List ChildRun) → HasNewest l s runs → HasNewest l2 s runs
  newest_longer s [] h = h
  newest_longer s (run ∷ runs) h = record { sent = reported_longer run.task run.try_no s.run.sent h.sent; early = h.early; live = h.live }

  pub right_longer : (q : Request) (r : Reply) → IsRight l q r → IsRight l2 q r
  right_longer q r h = record {
    run = λ claim t n slice tolerance p e g. k.claims t n claim (h.run claim t n slice tolerance p e g);
    taken = λ t n c m e g. let z = h.taken t n c m e g in (z.0, k.reports t n (Some c) z.0 z.1);
  }

-- ---- ids

pub before_more : (f x c x2 c2 : ℕ) (runs : List ChildRun) → ((a b : ℕ) → IsBefore a b x c → IsBefore a b x2 c2) → AreBefore f x c runs → AreBefore f x2 c2 runs
before_more f x c x2 c2 [] g h = tt
before_more f x c x2 c2 (run ∷ runs) g h = (h.0, h.1, h.2, g h.0 h.1 h.3, h.4, h.5, h.6)

-- ---- the bot's own steps

pub steps_then : (events : List OutputEvent) (old mid new : OutputState) (e : OutputEvent) → OutputSteps old events mid → OutputStep mid e new → OutputSteps old (events ++ e ∷ []) new
steps_then [] old mid new e h step = (new, subst (λ x. OutputStep x e new) h step, refl)
steps_then (y ∷ events) old mid new e h step = (h.0, h.1, steps_then events h.0 mid new e h.2 step)
