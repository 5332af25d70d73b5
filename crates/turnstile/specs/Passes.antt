-- What a pass, a turn and a turnstile mean.
use Rattle.std.specs.Prelude.{map, ◌≡◌, ℕ, ◌^◌, ◌<◌, ◌≤◌, true, false, List, [], ◌∷◌, length}
use Rattle.turnstile.specs.declared.pass.Pass.{Pass}
use Rattle.turnstile.specs.declared.turn.Turn.{Turn}
use Rattle.turnstile.specs.declared.turnstile.Turnstile.{Turnstile}
use Rattle.turnstile.specs.Numbers.{times}

module _ {V A : Type 0} where
  -- f of the value that is carried, if one is
  abbrev pub first_of : (V → A) → A → List (ℕ × V) → A
  first_of f other [] = other
  first_of f other (c ∷ cs) = f c.1

module _ {V I F : Type 0} where
  -- the log as far as the pass has seen it
  abbrev pub seen : Pass V I F → List I
  seen p = p.seat.me.0.seen

  abbrev pub number : Pass V I F → ℕ
  number p = p.number

  -- its own number and those of the passes joined into it
  abbrev pub numbers : Pass V I F → List ℕ
  numbers p = p.seat.me.0.numbers

  -- how many passes were made, where its number is 0
  abbrev pub made : Pass V I F → ℕ
  made p = p.made

  -- the greatest front that it was told
  abbrev pub told : Pass V I F → ℕ
  told p = p.seat.me.0.told

  -- the turns that it and the passes joined into it took
  abbrev pub turns : Pass V I F → ℕ
  turns p = p.turns

  -- no other pass is out: as many are joined in it as were made
  abbrev pub IsAlone : Pass V I F → Type 0
  IsAlone p = (number p ≡ 0) × (length (numbers p) ≡ made p)

  -- the pass was made by this turnstile
  abbrev pub IsFrom : Turnstile V I F → Pass V I F → Type 0
  IsFrom t p = p.seat.table_id ≡ t.table.shared.table_id

  -- which turnstile it is: a pass that was made by one was made by each of its identity
  abbrev pub identity_of : Turnstile V I F → List ℕ
  identity_of t =
      let id = t.table.shared.table_id in
      id.words ∷ id.slots ∷ id.views_name ∷ id.atom ∷ id.block ∷ id.offset ∷ id.slot_names

  -- x is the value, and with the pass
  abbrev pub Carries : Pass V I F → V → Type 0
  Carries p x = p.seat.me.1 ≡ (0, x) ∷ []

  -- the second pass has the numbers of the first
  abbrev pub HasNumbersOf : Pass V I F → Pass V I F → Type 0
  HasNumbersOf p q = (number q ≡ number p) × (numbers q ≡ numbers p) × (made q ≡ made p)

  -- the numbers that a pass carries are those of its view
  pub record Tallies (p : Pass V I F) : Type 0 where
    pub number : p.seat.me.0.number ≡ p.number
    pub made : p.seat.me.0.made ≡ p.made
    pub parts : length p.seat.me.0.numbers ≡ p.parts
    pub turns : p.seat.me.0.turns ≡ p.turns
    pub listed : 0 < times p.number p.seat.me.0.numbers
    pub few : p.parts ≤ 64
    pub small : p.number < 64
    pub most : p.turns ≤ 2 ^ 46

  -- a pass of this turnstile, which waits for no turn
  pub record IsPassOf (fixed : V → F) (t : Turnstile V I F) (p : Pass V I F) : Type 0 where
    pub table : IsFrom t p
    pub holds_none : length p.seat.me.1 ≡ 0
    pub no_ticket : p.seat.me.0.has_ticket ≡ false
    pub no_turn : p.seat.me.0.has_turn ≡ false
    pub no_halves : p.seat.me.0.halves ≡ []
    pub first : map fixed p.seat.me.0.first ≡ fixed t.table.shared.key.value ∷ []
    pub tallies : Tallies p

  -- the log that the turnstile was made with, where `log` gives a value's log
  abbrev pub opening : (V → List I) → Turnstile V I F → List I
  opening log t = log t.table.shared.key.value

  -- what never changes of its value, where `fixed` gives that of a value
  abbrev pub fixed_of : (V → F) → Turnstile V I F → F
  fixed_of fixed t = fixed t.table.shared.key.value

  -- the turnstile at which a turn was taken
  abbrev pub lock_of : Turn V I F → Turnstile V I F
  lock_of t = t.lock.now

  -- the pass that took it
  abbrev pub pass_of : Turn V I F → Pass V I F
  pass_of t = t.pass

  -- the log as far as the turn has raised it
  abbrev pub raised : Turn V I F → List I
  raised t = seen (pass_of t)

  -- the value that is with the turn
  abbrev pub Holds : Turn V I F → V → Type 0
  Holds t x = Carries (pass_of t) x

  -- what f gives of that value
  abbrev pub of_value : {A : Type 0} → (V → A) → A → Turn V I F → A
  of_value f other t = first_of f other t.pass.seat.me.1

  -- nothing of the value's log is left to raise
  abbrev pub IsRaised : (V → List I) → (V → F) → Turn V I F → Type 0
  IsRaised log fixed t = (x : V) × Holds t x × (log x ≡ raised t) × (fixed x ≡ fixed_of fixed (lock_of t))

  -- its pass has the ticket that is served
  pub record IsTurn (fixed : V → F) (t : Turn V I F) : Type 0 where
    pub table : IsFrom (lock_of t) (pass_of t)
    pub has_ticket : t.pass.seat.me.0.has_ticket ≡ true
    pub has_turn : t.pass.seat.me.0.has_turn ≡ true
    pub no_halves : t.pass.seat.me.0.halves ≡ []
    pub first : map fixed t.pass.seat.me.0.first ≡ fixed_of fixed (lock_of t) ∷ []
    pub ticket : t.pass.seat.me.0.ticket ≡ t.ticket
    pub fits : t.ticket < 2 ^ 46
    pub tallies : Tallies (pass_of t)
