-- A command is started once for a claim.
use Rattle.std.proofs.Common.{◌≡◌, ℕ, ◌+◌, ◌≤◌, ◌<◌, Bool, true, false, ◌&&◌, ◌==◌, if◌then◌else◌, List, [], ◌∷◌, Option, Some, None, IfSome, ◌⊎◌, inl, inr, refl, sym, ◌∙◌, arith}
use Rattle.std.proofs.lemmas.Bool.{cases_lt}
use Rattle.std.proofs.lemmas.Bool.Decides.{nat_tests}
use Rattle.std.specs.Option.{option_map_or}
use Rattle.bot_core.specs.Types.{BotEvent, BotLimits, BotState, Phase, Awaited, Begin, Answer, Slept}
use Rattle.bot_core.specs.declared.bot_state.Phase.TheVariants as phase
use Rattle.bot_core.specs.Table.{opening, phase_action, awaited_action, action_of, stepped}
use Rattle.bot_core.specs.States.{states_after}
use Rattle.bot_core.specs.Starts.{is_start, starts_claim, start_count}
use Rattle.bot_core.proofs.RowParts.{is_open, is_starting}
use Rattle.bot_core.proofs.Rows.{Row, stepped_row}

-- ---- the action of a start

phase_start : (t : BotState) (p : Phase) → is_start (phase_action t p) ≡ is_starting p Answer
phase_start t phase.Start = refl
phase_start t p = refl

begin_start : (p : Phase) → is_starting p Answer ≡ is_starting p Begin
begin_start phase.Start = refl
begin_start p = refl

sleep_start : (p : Phase) (secs : ℕ) → false ≡ is_starting p (Slept secs)
sleep_start phase.Start secs = refl
sleep_start p secs = refl

action_start : (t : BotState) (a : Awaited) → is_start (awaited_action t a) ≡ is_starting t.phase a
action_start t Begin = phase_start t t.phase ∙ begin_start t.phase
action_start t Answer = phase_start t t.phase
action_start t (Slept secs) = sleep_start t.phase secs

and_parts : (a b c : Bool) → (a && (b && c)) ≡ true → (a ≡ true) × (b ≡ true) × (c ≡ true)
and_parts true true true h = (refl, refl, refl)
and_parts true true false h = absurd (cc)
and_parts true false c h = absurd (cc)
and_parts false b c h = absurd (cc)

same_number : (a b : ℕ) → (a == b) ≡ true → a ≡ b
same_number a b h = grind (arith, nat_tests)

-- ---- starts of the claim (x, y)

module _ (x y : ℕ) where
  -- one may still come
  abbrev May : ℕ → ℕ → Bool → Type 0
  May session claim o = (session < x) ⊎ (((session ≡ x) × (claim < y)) ⊎ ((session ≡ x) × (claim ≡ y) × (o ≡ true)))

  abbrev MayOf : BotState → Type 0
  MayOf s = May s.session s.claim (is_open s.phase s.awaited)

  -- it comes from before
  may_before : (n c n2 c2 : ℕ) (o o2 : Bool) → n ≤ n2 → (n ≡ n2 → c ≤ c2) → (n ≡ n2 → c ≡ c2 → o2 ≡ true → o ≡ true) → May n2 c2 o2 → May n c o
  may_before n c n2 c2 o o2 h k f m =
      elim (cases_lt n x) [
        | inl below ↦ inl below
        | inr above ↦
            elim m [
              | inl a ↦ absurd (omega arith)
              | inr b ↦
                  elim (cases_lt c y) [
                    | inl less ↦ inr (inl (elim b as (λ _. n ≡ x) [ inl d ↦ omega (arith, d.0) | inr e ↦ omega (arith, e.0) ], less))
                    | inr more ↦
                        elim b [
                          | inl d ↦ absurd (omega (arith, d.0, d.1, k (omega (arith, d.0))))
                          | inr e ↦
                              let same : n ≡ n2 = omega (arith, e.0) in
                              let equal : c ≡ c2 = omega (arith, e.1, k same) in
                              inr (inr (omega (arith, e.0), omega (arith, e.1), f same equal e.2))
                        ]
                  ]
            ]
      ]

  -- a start uses it up
  may_end : (n c : ℕ) (o : Bool) → n ≡ x → c ≡ y → o ≡ false → May n c o → ⊥
  may_end n c o h k f m = elim m [ inl a ↦ omega arith | inr b ↦ elim b [ inl d ↦ omega (arith, d.1) | inr e ↦ (let z : o ≡ true = e.2 in cc) ] ]

  record Counts (s : BotState) (n : ℕ) : Type 0 where
    none : (MayOf s → ⊥) → n ≡ 0
    once : n ≤ 1

  count_start : (s t : BotState) (e : BotEvent) (m n : ℕ) (c : Bool) → starts_claim x y t ≡ c → Row s s.phase s.awaited e m t → Counts t n → Counts s ((if c then 1 else 0) + n)
  count_start s t e m n true h row k =
      let p : (is_start (action_of t) ≡ true) × ((t.session == x) ≡ true) × ((t.claim == y) ≡ true) = and_parts (is_start (action_of t)) (t.session == x) (t.claim == y) h in
      let session : t.session ≡ x = same_number t.session x p.1 in
      let claim : t.claim ≡ y = same_number t.claim y p.2 in
      let r : (is_open s.phase s.awaited ≡ true) × (s.session ≡ t.session) × (s.claim ≡ t.claim) × (is_open t.phase t.awaited ≡ false) = row.starts (sym (action_start t t.awaited) ∙ p.0) in
      record {
        none = λ f. absurd (f (inr (inr (r.1 ∙ session, r.2 ∙ claim, r.0))));
        once = omega (arith, k.none (may_end t.session t.claim (is_open t.phase t.awaited) session claim r.3));
      }
  count_start s t e m n false h row k =
      let before : MayOf t → MayOf s = may_before s.session s.claim t.session t.claim (is_open s.phase s.awaited) (is_open t.phase t.awaited) row.session row.claim row.opens in
      record { none = λ f. omega (arith, k.none (λ m. f (before m))); once = omega (arith, k.once) }

  counts_after : (s : BotState) (e : BotEvent) (m : ℕ) (es : List (BotEvent × ℕ)) (o : Option BotState) → IfSome o (Row s s.phase s.awaited e m) → ((t : BotState) → Counts t (start_count x y (states_after t es))) →
      Counts s (start_count x y (option_map_or (λ t. t ∷ states_after t es) o []))
  counts_after s e m es None row all = record { none = λ f. refl; once = omega arith }
  counts_after s e m es (Some t) row all = count_start s t e m (start_count x y (states_after t es)) (starts_claim x y t) refl row (all t)

  counts : (es : List (BotEvent × ℕ)) (s : BotState) → Counts s (start_count x y (states_after s es))
  counts [] s = record { none = λ f. refl; once = omega arith }
  counts (e ∷ es) s = counts_after s e.0 e.1 es (stepped s e.0 e.1) (stepped_row s e.0 e.1) (λ t. counts es t)

pub starts_once : (limits : BotLimits) (events : List (BotEvent × ℕ)) (session claim : ℕ) → start_count session claim (states_after (opening limits) events) ≤ 1
starts_once limits events session claim = (counts session claim events (opening limits)).once
