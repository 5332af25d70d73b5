-- The ids that a bot names grow.
use Rattle.std.proofs.Common.{◌≡◌, ℕ, ◌<◌, ◌≤◌, Bool, true, false, List, [], ◌∷◌, ◌++◌, Option, Some, None, IfSome, inl, inr, refl, ap, sym, subst, arith}
use Rattle.std.proofs.lemmas.Bool.{cases_lt}
use Rattle.std.proofs.lemmas.List.Elements.{All-nil, All-cons, All-weaker}
use Rattle.std.proofs.lemmas.List.Kept.{AllPairs-cons}
use Rattle.std.specs.Prelude.{All}
use Rattle.std.specs.List.{AllPairs}
use Rattle.std.specs.Option.{option_map_or}
use Rattle.bot_core.specs.Types.{BotEvent, BotLimits, BotState, Phase, Awaited, Begin, Answer, Slept}
use Rattle.bot_core.specs.declared.bot_state.Phase.TheVariants as phase
use Rattle.bot_core.specs.Table.{opening, stepped, phase_action, awaited_action, action_of}
use Rattle.bot_core.specs.States.{steps_of}
use Rattle.bot_core.specs.Ids.{Id, is_again, ids_of_action, ids_of, Follows}
use Rattle.bot_core.proofs.RowParts.{names_session, names_id}
use Rattle.bot_core.proofs.Rows.{Row, stepped_row}

-- ---- the id of an action

-- none, or that of the state
data HasId (t : BotState) (again named : Bool) (ids : List Id) : Type 0 where
  none : ids ≡ [] → HasId t again named ids
  one : named ≡ true → ids ≡ record { session = t.session; claim = t.claim; again = again } ∷ [] → HasId t again named ids

phase_id : (t : BotState) (again : Bool) (p : Phase) → (names_session p ≡ true → t.claim ≡ 0) → HasId t again (names_id p Answer) (ids_of_action again (phase_action t p))
phase_id t again phase.Handshake h = one refl (ap (λ n. record { session = t.session; claim = n; again = again } ∷ []) (sym (h refl)))
phase_id t again phase.Claim h = one refl refl
phase_id t again p h = none refl

begin_names : (p : Phase) → names_id p Answer ≡ names_id p Begin
begin_names phase.Handshake = refl
begin_names phase.Claim = refl
begin_names p = refl

action_id : (t : BotState) (again : Bool) (a : Awaited) → (names_session t.phase ≡ true → t.claim ≡ 0) → HasId t again (names_id t.phase a) (ids_of_action again (awaited_action t a))
action_id t again Begin h = subst (λ b. HasId t again b (ids_of_action again (phase_action t t.phase))) (begin_names t.phase) (phase_id t again t.phase h)
action_id t again Answer h = phase_id t again t.phase h
action_id t again (Slept secs) h = none refl

-- ---- later ids

-- at or past the session and claim of a state, and past them where it is not sent again
record IsPast (session claim : ℕ) (id : Id) : Type 0 where
  later : session ≤ id.session
  same : session ≡ id.session → claim ≤ id.claim
  fresh : id.again ≡ false → session ≡ id.session → claim < id.claim

past_before : (n c n2 c2 : ℕ) (id : Id) → n ≤ n2 → (n ≡ n2 → c ≤ c2) → IsPast n2 c2 id → IsPast n c id
past_before n c n2 c2 id h k p = record {
  later = omega (arith, p.later);
  same = λ e. let a : n2 ≡ id.session = omega (arith, p.later) in omega (arith, k (omega arith), p.same a);
  fresh = λ f e. let a : n2 ≡ id.session = omega (arith, p.later) in omega (arith, k (omega arith), p.fresh f a);
}

sent_again : (again : Bool) (A : Type 0) → (again ≡ false → ⊥) → again ≡ true
sent_again true A h = refl
sent_again false A h = absurd (h refl)

past_follows : (n c : ℕ) (again : Bool) (id : Id) → IsPast n c id → Follows (record { session = n; claim = c; again = again }) id
past_follows n c again id p =
    elim (cases_lt n id.session) [
      | inl below ↦ inl (inl below)
      | inr above ↦
          let e : n ≡ id.session = omega (arith, p.later) in
          elim (cases_lt c id.claim) [
            | inl less ↦ inl (inr (e, less))
            | inr more ↦ inr (e, omega (arith, p.same e), sent_again id.again Bool (λ f. omega (arith, p.fresh f e)))
          ]
    ]

record Grow (session claim : ℕ) (ids : List Id) : Type 0 where
  past : All (IsPast session claim) ids
  pairs : AllPairs Follows ids

grow_weaker : (n c n2 c2 : ℕ) (ids : List Id) → n ≤ n2 → (n ≡ n2 → c ≤ c2) → Grow n2 c2 ids → Grow n c ids
grow_weaker n c n2 c2 ids h k g =
    record { past = All-weaker (IsPast n2 c2) (IsPast n c) (λ id p. past_before n c n2 c2 id h k p) ids g.past; pairs = g.pairs }

grow_more : (s t : BotState) (e : BotEvent) (m : ℕ) (front rest : List Id) → Row s s.phase s.awaited e m t → HasId t (is_again e) (names_id t.phase t.awaited) front → Grow t.session t.claim rest →
    Grow s.session s.claim (front ++ rest)
grow_more s t e m front rest row (none is) g =
    subst (λ (xs : List Id). Grow s.session s.claim (xs ++ rest)) (sym is) (grow_weaker s.session s.claim t.session t.claim rest row.session row.claim g)
grow_more s t e m front rest row (one named is) g =
    let id : Id = record { session = t.session; claim = t.claim; again = is_again e } in
    let k : Grow s.session s.claim rest = grow_weaker s.session s.claim t.session t.claim rest row.session row.claim g in
    let p : IsPast s.session s.claim id = record { later = row.session; same = row.claim; fresh = λ f. row.fresh f named } in
    subst (λ (xs : List Id). Grow s.session s.claim (xs ++ rest)) (sym is)
    (record {
      past = All-cons (IsPast s.session s.claim) id rest p k.past;
      pairs = AllPairs-cons Follows id rest (All-weaker (IsPast t.session t.claim) (Follows id) (λ other q. past_follows t.session t.claim (is_again e) other q) rest g.past) g.pairs;
    })

no_ids : (n c : ℕ) → Grow n c []
no_ids n c = record { past = All-nil (IsPast n c); pairs = λ i j d lt within. absurd (omega arith) }

grow_after : (s : BotState) (e : BotEvent) (m : ℕ) (es : List (BotEvent × ℕ)) (o : Option BotState) → IfSome o (Row s s.phase s.awaited e m) → (names_session s.phase ≡ true → s.claim ≡ 0) →
    ((t : BotState) → (names_session t.phase ≡ true → t.claim ≡ 0) → Grow t.session t.claim (ids_of (steps_of t es))) →
    Grow s.session s.claim (ids_of (option_map_or (λ t. record { before = s; event = e; moment = m; after = t } ∷ steps_of t es) o []))
grow_after s e m es None row first all = no_ids s.session s.claim
grow_after s e m es (Some t) row first all =
    let k : names_session t.phase ≡ true → t.claim ≡ 0 = row.first first in
    grow_more s t e m (ids_of_action (is_again e) (action_of t)) (ids_of (steps_of t es)) row (action_id t (is_again e) t.awaited k) (all t k)

grow : (es : List (BotEvent × ℕ)) (s : BotState) → (names_session s.phase ≡ true → s.claim ≡ 0) → Grow s.session s.claim (ids_of (steps_of s es))
grow [] s first = no_ids s.session s.claim
grow (e ∷ es) s first = grow_after s e.0 e.1 es (stepped s e.0 e.1) (stepped_row s e.0 e.1) first (grow es)

pub all_grow : (limits : BotLimits) (events : List (BotEvent × ℕ)) → AllPairs Follows (ids_of (steps_of (opening limits) events))
all_grow limits events = (grow events (opening limits) (λ h. refl)).pairs
