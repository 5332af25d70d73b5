-- Phases, and the signals of a run, as rows of the table change them.
use Rattle.std.proofs.Common.{◌≡◌, ℕ, ◌+◌, ◌≤◌, Bool, true, false, not, ◌&&◌, List, [], ◌∷◌, Option, Some, None, is_some, refl, ap, sym, subst, arith}
use Rattle.std.proofs.lemmas.Bool.Decides.{nat_tests}
use Rattle.std.proofs.lemmas.List.Elements.{All-nil, All-cons}
use Rattle.std.specs.Prelude.{Any}
use Rattle.bot_core.specs.Types.{Run, Term, Kill, BotEvent, Phase, Awaited, Begin, Answer, Slept}
use Rattle.bot_core.specs.declared.bot_event.BotEvent.TheVariants as event
use Rattle.bot_core.specs.declared.bot_state.Phase.TheVariants as phase
use Rattle.bot_core.specs.RunChanges.{has_passed, is_grace_over}
use Rattle.bot_core.specs.Signals.{Signals, signals_at_event, AreInOrder}
use Rattle.bot_core.specs.OpenRuns.{is_claim_run}

-- ---- phases

-- the action of the phase asks for work, or the bot has not begun
abbrev pub asks : Phase → Awaited → Bool
asks p Begin = true
asks phase.Handshake a = true
asks phase.Poll a = true
asks phase.Claim a = true
asks p a = false

-- the action of the phase is CleanUp
abbrev pub cleans : Phase → Awaited → Bool
cleans p (Slept secs) = false
cleans phase.CleanUp a = true
cleans p a = false

abbrev pub names_session : Phase → Bool
names_session phase.Handshake = true
names_session p = false

-- the action names a session or a claim
abbrev pub names_id : Phase → Awaited → Bool
names_id p (Slept secs) = false
names_id phase.Handshake a = true
names_id phase.Claim a = true
names_id p a = false

abbrev pub is_signal : Phase → Bool
is_signal (phase.Signal signal) = true
is_signal p = false

-- the phase leads to a start for the present claim
abbrev pub is_open : Phase → Awaited → Bool
is_open phase.Claim a = true
is_open phase.Prepare a = true
is_open phase.Start (Slept secs) = true
is_open p a = false

-- the action is that start
abbrev pub is_starting : Phase → Awaited → Bool
is_starting phase.Start Answer = true
is_starting phase.Start Begin = true
is_starting p a = false

-- no id, no start, and no signal
abbrev pub is_plain : Phase → Bool
is_plain phase.Handshake = false
is_plain phase.Claim = false
is_plain phase.Prepare = false
is_plain phase.Start = false
is_plain (phase.Signal signal) = false
is_plain p = true

abbrev pub is_slept : Awaited → Bool
is_slept (Slept secs) = true
is_slept a = false

-- no sleep comes before a signal
abbrev pub Quiet : Phase → Awaited → Type 0
Quiet p a = is_slept a ≡ true → is_signal p ≡ false

-- ---- signals

-- the signals with that of the action of a state
abbrev pub logged : Phase → Awaited → ℕ → Signals → Signals
logged p (Slept secs) m g = g
logged (phase.Signal Term) a m g = record g { terms = m ∷ g.terms }
logged (phase.Signal Kill) a m g = record g { kills = m ∷ g.kills }
logged p a m g = g

abbrev pub list_of : Option ℕ → List ℕ
list_of None = []
list_of (Some n) = n ∷ []

-- what a run keeps agrees with its signals
pub record Agrees (grace : ℕ) (term : Option ℕ) (killed : Bool) (g : Signals) : Type 0 where
  pub grace_is : g.grace ≡ grace
  pub terms_are : g.terms ≡ list_of term
  pub no_kills : killed ≡ false → g.kills ≡ []
  pub killed_later : is_some term ≡ false → killed ≡ false
  pub order : AreInOrder g

abbrev pub RunAgrees : Run → Signals → Type 0
RunAgrees r g = Agrees r.grace r.term r.killed g

pub none_in_order : (grace : ℕ) → AreInOrder (record { grace = grace; terms = []; kills = [] })
none_in_order grace = record { one_term = omega arith; one_kill = omega arith; grace = All-nil (λ kill. Any (λ term. term + grace ≤ kill) []) }

pub one_in_order : (grace m : ℕ) → AreInOrder (record { grace = grace; terms = m ∷ []; kills = [] })
one_in_order grace m = record { one_term = omega arith; one_kill = omega arith; grace = All-nil (λ kill. Any (λ term. term + grace ≤ kill) (m ∷ [])) }

pub both_in_order : (grace at m : ℕ) → at + grace ≤ m → AreInOrder (record { grace = grace; terms = at ∷ []; kills = m ∷ [] })
both_in_order grace at m h = record {
  one_term = omega arith;
  one_kill = omega arith;
  grace = All-cons (λ kill. Any (λ term. term + grace ≤ kill) (at ∷ [])) m [] (0, at, omega arith, refl, h) (All-nil (λ kill. Any (λ term. term + grace ≤ kill) (at ∷ [])));
}

pub new_agrees : (grace : ℕ) → Agrees grace None false (record { grace = grace; terms = []; kills = [] })
new_agrees grace = record { grace_is = refl; terms_are = refl; no_kills = λ _. refl; killed_later = λ _. refl; order = none_in_order grace }

-- Term is sent where it was not
pub term_agrees : (grace : ℕ) (term : Option ℕ) (killed : Bool) (m : ℕ) (g : Signals) → is_some term ≡ false → Agrees grace term killed g →
    Agrees grace (Some m) killed (record g { terms = m ∷ g.terms })
term_agrees grace (Some at) killed m g h a = absurd (cc)
term_agrees grace None killed m g h a =
    let ts : g.terms ≡ [] = a.terms_are in
    let ks : g.kills ≡ [] = a.no_kills (a.killed_later refl) in
    record {
      grace_is = a.grace_is;
      terms_are = ap (λ (xs : List ℕ). m ∷ xs) ts;
      no_kills = λ _. ks;
      killed_later = λ k. absurd (cc);
      order =
          subst (λ (xs : List ℕ). AreInOrder (record g { terms = m ∷ xs })) (sym ts)
          (subst (λ (xs : List ℕ). AreInOrder (record { grace = g.grace; terms = m ∷ []; kills = xs })) (sym ks) (one_in_order g.grace m));
    }

pub passed : (since secs m : ℕ) → has_passed since secs m ≡ true → since + secs ≤ m
passed since secs m h = grind (arith, nat_tests)

-- Kill is sent where the grace is over
pub kill_agrees : (grace : ℕ) (term : Option ℕ) (killed : Bool) (m : ℕ) (g : Signals) → (not killed && is_grace_over grace term m) ≡ true → Agrees grace term killed g →
    Agrees grace term true (record g { kills = m ∷ g.kills })
kill_agrees grace term true m g h a = absurd (cc)
kill_agrees grace None false m g h a = absurd (cc)
kill_agrees grace (Some at) false m g h a =
    let ts : g.terms ≡ at ∷ [] = a.terms_are in
    let ks : g.kills ≡ [] = a.no_kills refl in
    record {
      grace_is = a.grace_is;
      terms_are = ts;
      no_kills = λ k. absurd (cc);
      killed_later = λ k. absurd (cc);
      order =
          subst (λ (xs : List ℕ). AreInOrder (record g { kills = m ∷ xs })) (sym ks)
          (subst (λ (xs : List ℕ). AreInOrder (record { grace = g.grace; terms = xs; kills = m ∷ [] })) (sym ts)
          (both_in_order g.grace at m (subst (λ n. at + n ≤ m) (sym a.grace_is) (passed at grace m h))));
    }

pub same_at_event : (e : BotEvent) (g : Signals) → is_claim_run e ≡ false → signals_at_event e g ≡ g
same_at_event (event.ClaimRun x i r t) g h = absurd (cc)
same_at_event e g h = refl

pub order_at_event : (e : BotEvent) (g : Signals) → AreInOrder g → AreInOrder (signals_at_event e g)
order_at_event (event.ClaimRun x i r t) g o = none_in_order r
order_at_event e g o = o

pub none_logged : (p : Phase) (a : Awaited) (m : ℕ) (g : Signals) → is_signal p ≡ false → logged p a m g ≡ g
none_logged (phase.Signal signal) a m g h = absurd (cc)
none_logged p (Slept secs) m g h = refl
none_logged p Begin m g h = refl
none_logged p Answer m g h = refl

pub plain_signal : (p : Phase) → is_plain p ≡ true → is_signal p ≡ false
plain_signal (phase.Signal signal) h = absurd (cc)
plain_signal p h = refl

pub plain_names : (p : Phase) (a : Awaited) → is_plain p ≡ true → names_id p a ≡ false
plain_names phase.Handshake a h = absurd (cc)
plain_names phase.Claim a h = absurd (cc)
plain_names p (Slept secs) h = refl
plain_names p Begin h = refl
plain_names p Answer h = refl

pub plain_session : (p : Phase) → is_plain p ≡ true → names_session p ≡ false
plain_session phase.Handshake h = absurd (cc)
plain_session p h = refl

pub plain_open : (p : Phase) (a : Awaited) → is_plain p ≡ true → is_open p a ≡ false
plain_open phase.Claim a h = absurd (cc)
plain_open phase.Prepare a h = absurd (cc)
plain_open phase.Start a h = absurd (cc)
plain_open p a h = refl

pub plain_starting : (p : Phase) (a : Awaited) → is_plain p ≡ true → is_starting p a ≡ false
plain_starting phase.Start a h = absurd (cc)
plain_starting p a h = refl
