-- When an entry may follow.
use Rattle.std.proofs.Common.{◌≡◌, ◌≤◌, ◌^◌, Bool, true, false, Option, Some, None, Decides, IfOk, IsSomeAnd, is_some, Result, Ok, Err, refl, sym, ap, ◌∙◌, subst, true≢false}
use Rattle.std.specs.Bool.{MatchBool}
use Rattle.pool_loading.specs.Types.{Entry, PoolState}
use Rattle.swarm_model.specs.Answers.{answer}
use Rattle.swarm_model.specs.Deadlines.{due_entry}
use Rattle.swarm_model.specs.Entries.{Asked, asks, is_deadline}
use Rattle.swarm_model.specs.Fits.{fits}
use Rattle.swarm_model.specs.History.{IsAnswered, IsDue, HasCause, MayFollow}
use Rattle.pool_loading.specs.declared.asking.EntryRequest.{EntryRequest}
use Rattle.pool_loading.specs.Asking.{as_asked}

-- what holds of no value is told by `false`
pub never : (P : Type 0) → (P → ⊥) → Decides false P
never P none = (λ e. absurd (true≢false (sym e)), λ p. absurd (none p))

something : (o : Option Entry) → is_some o ≡ true → o ≡ None → ⊥
something o some none = true≢false (sym some ∙ ap is_some none)

nothing : (o : Option Entry) → is_some o ≡ false → o ≡ None
nothing None e = refl
nothing (Some d) e = absurd (true≢false e)

module _ (s : PoolState) (e : Entry) (asked : Asked) where
  pub not_where_due : is_some (due_entry s e.moment e.pass) ≡ true → Decides false (IsAnswered s e asked)
  not_where_due due = never (IsAnswered s e asked) (λ a. something (due_entry s e.moment e.pass) due a.nothing_due)

  pub not_where_unfit : fits s.settings asked.request ≡ false → Decides false (IsAnswered s e asked)
  not_where_unfit unfit = never (IsAnswered s e asked) (λ a. true≢false (sym a.may_ask ∙ unfit))

  pub none_due : is_some (due_entry s e.moment e.pass) ≡ false → due_entry s e.moment e.pass ≡ None
  none_due none = nothing (due_entry s e.moment e.pass) none

  pub where_added : is_some (due_entry s e.moment e.pass) ≡ false → fits s.settings asked.request ≡ true → {E : Type 0} (r : Result Bool E)
      → IfOk r (λ b. Decides b ((answer s asked.who e.moment e.pass asked.request).entry ≡ Some e)) → IfOk r (λ b. Decides b (IsAnswered s e asked))
  where_added none fit (Err x) h = tt
  where_added none fit (Ok b) h = (
    λ t. record { nothing_due = none_due none; may_ask = fit; gives = h.0 t },
    λ a. h.1 a.gives,
  )

-- the request is that for which the entry stands
pub by_asked : (r : Option Asked) (P : Asked → Type 0) (asked : EntryRequest) → Some (as_asked asked) ≡ r → {E : Type 0} (x : Result Bool E)
    → IfOk x (λ b. Decides b (P (as_asked asked))) → IfOk x (λ b. Decides b (IsSomeAnd r P))
by_asked r P asked is x h = subst (λ (o : Option Asked). IfOk x (λ b. Decides b (IsSomeAnd o P))) is h

pub not_asked : (r : Option Asked) (P : Asked → Type 0) → None ≡ r → Decides false (IsSomeAnd r P)
not_asked r P is = subst (λ (o : Option Asked). Decides false (IsSomeAnd o P)) is (never (IsSomeAnd None P) (λ p. p))

-- an entry that is no deadline's has its cause in a request
caused : (b : Bool) (P Q : Type 0) {E : Type 0} (r : Result Bool E) → b ≡ false → IfOk r (λ d. Decides d Q) → IfOk r (λ d. Decides d (MatchBool b P Q))
caused b P Q r is h = subst (λ (v : Bool). IfOk r (λ d. Decides d (MatchBool v P Q))) (sym is) h

module _ (s : PoolState) (e : Entry) (before : s.last ≤ e.moment) (late : e.moment ≤ 2 ^ 40) where
  follows : {E : Type 0} (r : Result Bool E) → IfOk r (λ d. Decides d (HasCause s e)) → IfOk r (λ d. Decides d (MayFollow s e))
  follows (Err x) h = tt
  follows (Ok d) h = (
    λ t. record { not_before = before; not_late = late; has_cause = h.0 t },
    λ f. h.1 f.has_cause,
  )

  pub follows_asked : is_deadline e.kind ≡ false → {E : Type 0} (r : Result Bool E)
      → IfOk r (λ d. Decides d (IsSomeAnd (asks s e.kind) (IsAnswered s e))) → IfOk r (λ d. Decides d (MayFollow s e))
  follows_asked is r h = follows r (caused (is_deadline e.kind) (IsDue s e) (IsSomeAnd (asks s e.kind) (IsAnswered s e)) r is h)
