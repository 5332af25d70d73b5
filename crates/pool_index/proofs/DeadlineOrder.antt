-- The order of deadlines is total, and only a deadline and itself tie.
use Rattle.std.proofs.Common.{◌≡◌, ℕ, ◌==◌, ◌&&◌, ◌||◌, Bool, true, false, Option, Some, None, inl, inr, refl, ap, ◌∙◌, arith}
use Rattle.std.specs.Prelude.{nat_lt}
use Rattle.std.proofs.lemmas.Bool.{cases_Bool, cond_both}
use Rattle.std.proofs.lemmas.Bool.Decides.{nat_tests}
use Rattle.block_list.proofs.Rising.{IsStrictOrder}
use Rattle.swarm_model.specs.declared.deadline.Cause.{Cause}
use Rattle.swarm_model.specs.declared.deadline.Cause.TheVariants as cause
use Rattle.swarm_model.specs.declared.deadline.Deadline.{Deadline}
use Rattle.swarm_model.specs.Deadlines.{rank, is_earlier}
use Rattle.pool_index.specs.Deadlines.{earlier_of}

abbrev below : (m r n k q l : ℕ) → Bool
below m r n k q l = nat_lt m k || (m == k && (nat_lt r q || (r == q && nat_lt n l)))

below_self : (m r n : ℕ) → below m r n m r n ≡ false
below_self m r n = grind (arith, nat_tests)

below_one_way : (m r n k q l : ℕ) → below m r n k q l ≡ true → below k q l m r n ≡ false
below_one_way m r n k q l h = grind (arith, nat_tests)

below_chain : (m r n k q l u v w : ℕ) → below k q l m r n ≡ false → below u v w k q l ≡ false → below u v w m r n ≡ false
below_chain m r n k q l u v w g h = grind (arith, nat_tests)

below_tie : (m r n k q l : ℕ) → below m r n k q l ≡ false → below k q l m r n ≡ false → (m ≡ k) × (r ≡ q) × (n ≡ l)
below_tie m r n k q l g h = (grind (arith, nat_tests), grind (arith, nat_tests), grind (arith, nat_tests))

not_self : (d : Deadline) → is_earlier d d ≡ false
not_self d = below_self d.moment (rank d.cause) d.number

pub one_way : (a b : Deadline) → is_earlier a b ≡ true → is_earlier b a ≡ false
one_way a b h = below_one_way a.moment (rank a.cause) a.number b.moment (rank b.cause) b.number h

pub chain : (a b c : Deadline) → is_earlier b a ≡ false → is_earlier c b ≡ false → is_earlier c a ≡ false
chain a b c g h = below_chain a.moment (rank a.cause) a.number b.moment (rank b.cause) b.number c.moment (rank c.cause) c.number g h

-- of two that go before each other in turn, the first goes before the third
pub earlier_chain : (a b c : Deadline) → is_earlier a b ≡ true → is_earlier b c ≡ true → is_earlier a c ≡ true
earlier_chain a b c g h = elim (cases_Bool (is_earlier a c)) [
  | inl t ↦ t
  | inr f ↦ absurd (let none : is_earlier a b ≡ false = chain b c a (one_way b c h) f in cc (none, g))
]

one_cause : (a b : Cause) → rank a ≡ rank b → a ≡ b
one_cause cause.Slice cause.Slice h = refl
one_cause cause.Slice cause.Silence h = absurd (omega arith)
one_cause cause.Slice cause.Bot h = absurd (omega arith)
one_cause cause.Slice cause.Blob h = absurd (omega arith)
one_cause cause.Silence cause.Slice h = absurd (omega arith)
one_cause cause.Silence cause.Silence h = refl
one_cause cause.Silence cause.Bot h = absurd (omega arith)
one_cause cause.Silence cause.Blob h = absurd (omega arith)
one_cause cause.Bot cause.Slice h = absurd (omega arith)
one_cause cause.Bot cause.Silence h = absurd (omega arith)
one_cause cause.Bot cause.Bot h = refl
one_cause cause.Bot cause.Blob h = absurd (omega arith)
one_cause cause.Blob cause.Slice h = absurd (omega arith)
one_cause cause.Blob cause.Silence h = absurd (omega arith)
one_cause cause.Blob cause.Bot h = absurd (omega arith)
one_cause cause.Blob cause.Blob h = refl

-- where neither of two is earlier, they are one
pub tie : (a b : Deadline) → is_earlier a b ≡ false → is_earlier b a ≡ false → a ≡ b
tie a b g h =
    let t = below_tie a.moment (rank a.cause) a.number b.moment (rank b.cause) b.number g h in
    let m : a.moment ≡ b.moment = t.0 in
    let c : a.cause ≡ b.cause = one_cause a.cause b.cause t.1 in
    let n : a.number ≡ b.number = t.2 in
    ap (λ (x : ℕ). record { moment = x; cause = a.cause; number = a.number }) m
    ∙ ap (λ (x : Cause). record { moment = b.moment; cause = x; number = a.number }) c
    ∙ ap (λ (x : ℕ). record { moment = b.moment; cause = b.cause; number = x }) n

pub strict : IsStrictOrder is_earlier
strict = record { itself = not_self; chain = earlier_chain; tie = tie }

-- ---- deadlines that may be missing

-- the first is not later than the second
abbrev pub Before : Option Deadline → Option Deadline → Type 0
Before None b = b ≡ None
Before (Some a) None = Unit {0}
Before (Some a) (Some b) = is_earlier b a ≡ false

pub before_self : (a : Option Deadline) → Before a a
before_self None = refl
before_self (Some a) = not_self a

pub before_chain : (a b c : Option Deadline) → Before a b → Before b c → Before a c
before_chain None None c g h = h
before_chain None (Some b) c g h = absurd (cc)
before_chain (Some a) None None g h = tt
before_chain (Some a) None (Some c) g h = absurd (cc)
before_chain (Some a) (Some b) None g h = tt
before_chain (Some a) (Some b) (Some c) g h = chain a b c g h

pub before_left : (a b : Option Deadline) → Before (earlier_of a b) a
before_left None None = refl
before_left None (Some b) = tt
before_left (Some a) None = not_self a
before_left (Some a) (Some b) =
    cond_both (is_earlier b a) b a (λ (x : Deadline). is_earlier a x ≡ false) (λ t. one_way b a t) (λ f. not_self a)

pub before_right : (a b : Option Deadline) → Before (earlier_of a b) b
before_right None None = refl
before_right None (Some b) = not_self b
before_right (Some a) None = tt
before_right (Some a) (Some b) =
    cond_both (is_earlier b a) b a (λ (x : Deadline). is_earlier b x ≡ false) (λ t. not_self b) (λ f. f)
