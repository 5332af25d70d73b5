-- What an answer adds, and what a deadline adds, may follow the log.
use Rattle.std.proofs.Common.{◌≡◌, ℕ, ◌≤◌, ◌^◌, ◌⊎◌, inl, inr, Bool, true, false, List, refl, Option, Some, None, IfSome, IsTrue, IsSomeAnd, subst, sym, ap, ◌∙◌, arith}
use Rattle.std.specs.Option.{option_map}
use Rattle.std.specs.Bool.{MatchBool}
use Rattle.std.proofs.lemmas.Option.{same_Some}
use Rattle.pool_laws.specs.Types.{PoolState, Cause, Decision, Entry, EntryKind, Request}
use Rattle.swarm_model.specs.declared.deadline.Cause.TheVariants as cause
use Rattle.swarm_model.specs.Fits.{fits}
use Rattle.swarm_model.specs.Answers.{decide, answer, entry_at}
use Rattle.swarm_model.specs.Deadlines.{due_entry, settled}
use Rattle.swarm_model.specs.Entries.{asks, is_deadline, Asked}
use Rattle.swarm_model.specs.History.{MayFollow, IsDue, IsAnswered}
use Rattle.swarm_model.specs.Points.{IsSettled}
use Rattle.swarm_model.specs.Soundness.{IsSound}
use Rattle.pool_laws.proofs.Earliest.{due_at, due_ahead, due_on_time}
use Rattle.pool_laws.proofs.EntryRequest.{IsOwn, IsAsked, tell_stands}

-- what is answered has its cause
caused : (s : PoolState) (e : Entry) (b : Bool) (r : Option Asked) (asked : Asked) → b ≡ false → r ≡ Some asked → IsAnswered s e asked → MatchBool b (IsDue s e) (IsSomeAnd r (IsAnswered s e))
caused s e b r asked p q h = rw (p, q) h

-- an entry that stands for a request may follow, where that is answered by it
module _ (s : PoolState) (who : List ℕ) (moment pass : ℕ) (before : s.last ≤ moment) (late : moment ≤ 2 ^ 40) (none : due_entry s moment pass ≡ None) where
  asked_follows : (k : EntryKind) → IsAsked s moment k → MayFollow s (entry_at moment pass k)
  asked_follows k f =
      record {
        not_before = before;
        not_late = late;
        has_cause = caused s (entry_at moment pass k) (is_deadline k) (asks s k) f.asked f.no_deadline f.is
            (record { nothing_due = none; may_ask = f.may_ask; gives = ap (option_map (entry_at moment pass)) f.entry });
      }

  -- the request itself may be asked
  own_asked : (request : Request) → IsTrue (fits s.settings request) → (k : EntryKind) → (decide s who moment request).entry ≡ Some k → IsOwn s who moment request k → IsAsked s moment k
  own_asked request may k entry f =
      record {
        asked = f.asked;
        is = f.is;
        may_ask = subst (λ (r : Request). IsTrue (fits s.settings r)) (sym f.same_request) may;
        entry = ap (λ (r : Request). (decide s f.asked.who moment r).entry) f.same_request ∙ ap (λ (t : Decision). t.entry) f.alike ∙ entry;
        no_deadline = f.no_deadline;
      }

  stands_follows : (request : Request) → IsTrue (fits s.settings request) → (k : EntryKind) → (decide s who moment request).entry ≡ Some k → IsOwn s who moment request k ⊎ IsAsked s moment k →
      MayFollow s (entry_at moment pass k)
  stands_follows request may k entry (inl f) = asked_follows k (own_asked request may k entry f)
  stands_follows request may k entry (inr f) = asked_follows k f

  adds_follows : (request : Request) → IsTrue (fits s.settings request) → (r : Option EntryKind) → (decide s who moment request).entry ≡ r → IfSome r (λ k. IsOwn s who moment request k ⊎ IsAsked s moment k) → (e : Entry) →
      option_map (entry_at moment pass) r ≡ Some e → MayFollow s e
  adds_follows request may None g h e gives = absurd (cc (gives))
  adds_follows request may (Some k) g h e gives = subst (MayFollow s) (same_Some _ _ gives) (stands_follows request may k g h)

-- where nothing is due, what the answer to a request adds may follow
pub answer_follows : (s : PoolState) (who : List ℕ) (moment pass : ℕ) (request : Request) (e : Entry) → IsSound s → s.last ≤ moment → moment ≤ 2 ^ 40 →
    due_entry s moment pass ≡ None → IsTrue (fits s.settings request) → (answer s who moment pass request).entry ≡ Some e → MayFollow s e
answer_follows s who moment pass request e o before late none may gives =
    adds_follows s who moment pass before late none request may (decide s who moment request).entry refl (tell_stands s who moment request o may) e gives

-- what is settled is of a deadline
settled_is : (s : PoolState) (c : Cause) (number : ℕ) → is_deadline (settled s c number) ≡ true
settled_is s cause.Slice number = refl
settled_is s cause.Silence number = refl
settled_is s cause.Bot number = refl
settled_is s cause.Blob number = refl

-- an entry that is due is of a deadline that has come, by the pass that settles it
pub due_settled : (s : PoolState) (moment pass : ℕ) (e : Entry) → due_entry s moment pass ≡ Some e → IsSettled pass moment e
due_settled s moment pass e due =
    let at = due_at s moment pass e due in
    subst (IsSettled pass moment) at.is (settled_is s at.d.cause at.d.number, refl, at.come)

-- an entry of a deadline is caused by what is due
by_deadline : (b : Bool) (P Q : Type 0) → b ≡ true → P → MatchBool b P Q
by_deadline b P Q e p = rw e p

-- and it may follow
pub due_follows : (s : PoolState) (moment pass : ℕ) (e : Entry) → IsSound s → moment ≤ 2 ^ 40 → due_entry s moment pass ≡ Some e → MayFollow s e
due_follows s moment pass e o late due =
    let is = due_settled s moment pass e due in
    let come = is.2 in
    record {
      not_before = due_ahead s s.last moment pass e o.ahead due;
      not_late = omega (arith, late, come);
      has_cause = by_deadline (is_deadline e.kind) (IsDue s e) _ is.0
          (subst (λ (p : ℕ). due_entry s e.moment p ≡ Some e) (sym is.1) (due_on_time s moment pass e due));
    }
