-- What is due is the earliest of all deadlines.
use Rattle.std.proofs.Common.{◌≡◌, ℕ, ◌<◌, ◌≤◌, ◌==◌, ◌&&◌, ◌||◌, Bool, true, false, cond, List, [], ◌∷◌, Option, Some, None, IfSome, IsSomeAnd, refl, sym, ap, ◌∙◌, subst, arith, eqb-true, ltb-true, ltb-false, leb-true, leb-false}
use Rattle.std.specs.Prelude.{nat_le, nat_lt}
use Rattle.std.specs.Bool.{MatchBool}
use Rattle.std.specs.List.{All, fold}
use Rattle.std.specs.Option.{option_map, option_and_then}
use Rattle.std.proofs.lemmas.Bool.{cond_both, and_parts, or_parts}
use Rattle.std.proofs.lemmas.Option.{same_Some}
use Rattle.std.proofs.lemmas.List.Elements.{All-nil, All-cons, All-head, All-tail}
use Rattle.pool_laws.specs.Types.{PoolState, Deadline, Entry}
use Rattle.swarm_model.specs.Deadlines.{rank, deadlines, is_earlier, earlier, sooner, next_deadline, if_come, entry_of, due_entry}
use Rattle.swarm_model.specs.Entries.{asks, is_deadline, Asked}
use Rattle.swarm_model.specs.History.{MayFollow, IsDue, IsAnswered}

-- all deadlines are at this moment or after it
abbrev pub Ahead : ℕ → PoolState → Type 0
Ahead m s = All (λ d. m ≤ d.moment) (deadlines s)

-- what goes before is not later
earlier-first : (a b : Deadline) → is_earlier a b ≡ true → a.moment ≤ b.moment
earlier-first a b e = by_less (nat_lt a.moment b.moment) refl
  where
    rest : Bool
    rest = nat_lt (rank a.cause) (rank b.cause) || (rank a.cause == rank b.cause && nat_lt a.number b.number)

    by_less : (x : Bool) → nat_lt a.moment b.moment ≡ x → a.moment ≤ b.moment
    by_less true h = (let l = ltb-true a.moment b.moment h in omega (arith, l))
    by_less false h =
        (let g : (a.moment == b.moment && rest) ≡ true = sym (ap (λ x. x || (a.moment == b.moment && rest)) h) ∙ e in
        let q : a.moment ≡ b.moment = eqb-true a.moment b.moment (and_parts (a.moment == b.moment) rest g).0 in omega (arith, q))

-- and what does not is not earlier
earlier-other : (a b : Deadline) → is_earlier a b ≡ false → b.moment ≤ a.moment
earlier-other a b e = ltb-false a.moment b.moment (or_parts (nat_lt a.moment b.moment) _ e).0

-- the earlier of two is not after either
earlier-least : (best : Option Deadline) (d : Deadline) → IfSome best (λ b. (earlier best d).moment ≤ b.moment) × ((earlier best d).moment ≤ d.moment)
earlier-least None d = (tt, omega arith)
earlier-least (Some b) d =
    cond_both (is_earlier d b) d b (λ (x : Deadline). (x.moment ≤ b.moment) × (x.moment ≤ d.moment)) (λ t. (earlier-first d b t, omega arith)) (λ t. (omega arith, earlier-other d b t))

-- what holds from a higher bound on holds from a lower one on
if_below : (best : Option Deadline) (low high : ℕ) → low ≤ high → IfSome best (λ b. high ≤ b.moment) → IfSome best (λ b. low ≤ b.moment)
if_below None low high l h = tt
if_below (Some b) low high l h = omega (arith, l, h)

-- the earliest is not after the best so far, nor after any other
record IsLeast (m : ℕ) (best : Option Deadline) (ds : List Deadline) : Type 0 where
  best_so_far : IfSome best (λ b. m ≤ b.moment)
  others : All (λ d. m ≤ d.moment) ds

-- what a search finds is the least
least : (best : Option Deadline) (ds : List Deadline) (r : Deadline) → fold sooner best ds ≡ Some r → IsLeast r.moment best ds
least None [] r e = absurd (cc (e))
least (Some b) [] r e =
    let q : b.moment ≡ r.moment = ap (λ (d : Deadline). d.moment) (same_Some _ _ e) in
    record { best_so_far = omega (arith, q); others = All-nil (λ (d : Deadline). r.moment ≤ d.moment) }
least best (d ∷ ds) r e =
    let rest = least (Some (earlier best d)) ds r e in
    let low : r.moment ≤ (earlier best d).moment = rest.best_so_far in
    let two = earlier-least best d in
    let near = two.1 in
    record {
      best_so_far = if_below best r.moment (earlier best d).moment low two.0;
      others = All-cons (λ (x : Deadline). r.moment ≤ x.moment) d ds (omega (arith, low, near)) rest.others;
    }

-- where it finds none, there is none
pub none_of : (best : Option Deadline) (ds : List Deadline) → fold sooner best ds ≡ None → ds ≡ []
none_of best [] e = refl
none_of best (d ∷ ds) e = absurd (some_more (earlier best d) ds e)
  where
    some_more : (b : Deadline) (xs : List Deadline) → fold sooner (Some b) xs ≡ None → ⊥
    some_more b [] h = cc (h)
    some_more b (x ∷ xs) h = some_more (earlier (Some b) x) xs h

-- what holds of all deadlines holds of the earliest
pub fold_has : (P : Deadline → Type 0) (best : Option Deadline) (ds : List Deadline) → IfSome best P → All P ds → IfSome (fold sooner best ds) P
fold_has P best [] h all = h
fold_has P best (d ∷ ds) h all = fold_has P (Some (earlier best d)) ds (one_of best h) (All-tail P d ds all)
  where
    one_of : (b : Option Deadline) → IfSome b P → P (earlier b d)
    one_of None p = All-head P d ds all
    one_of (Some b) p = cond_both (is_earlier d b) d b P (λ t. All-head P d ds all) (λ t. p)

-- the deadline whose entry is due
pub record IsDueAt (s : PoolState) (moment pass : ℕ) (e : Entry) : Type 0 where
  pub d : Deadline
  pub next : next_deadline s ≡ Some d
  pub come : d.moment ≤ moment
  pub is : entry_of s pass d ≡ e

-- an entry that is due comes from the next deadline
pub due_at : (s : PoolState) (moment pass : ℕ) (e : Entry) → due_entry s moment pass ≡ Some e → IsDueAt s moment pass e
due_at s moment pass e h = by_next (next_deadline s) refl h
  where
    by_come : (d : Deadline) (b : Bool) → next_deadline s ≡ Some d → nat_le d.moment moment ≡ b → option_map (entry_of s pass) (cond b (Some d) None) ≡ Some e → IsDueAt s moment pass e
    by_come d true n c g = record { d = d; next = n; come = leb-true d.moment moment c; is = same_Some _ _ g }
    by_come d false n c g = absurd (cc (g))

    by_next : (o : Option Deadline) → next_deadline s ≡ o → option_map (entry_of s pass) (option_and_then (if_come moment) o) ≡ Some e → IsDueAt s moment pass e
    by_next None n g = absurd (cc (g))
    by_next (Some d) n g = by_come d (nat_le d.moment moment) n refl g

-- what holds of each deadline holds of the one that is due
pub due_has : (P : Deadline → Type 0) (s : PoolState) (moment pass : ℕ) (e : Entry) → All P (deadlines s) → (h : due_entry s moment pass ≡ Some e) → P (due_at s moment pass e h).d
due_has P s moment pass e all h =
    subst (λ (o : Option Deadline). IfSome o P) (due_at s moment pass e h).next (fold_has P None (deadlines s) tt all)

-- no deadline lies before one that is due
pub ahead_of_due : (s : PoolState) (moment pass : ℕ) (e : Entry) → due_entry s moment pass ≡ Some e → Ahead e.moment s
ahead_of_due s moment pass e h =
    let found = due_at s moment pass e h in
    subst (λ (m : ℕ). Ahead m s) (ap (λ (x : Entry). x.moment) found.is) (least None (deadlines s) found.d found.next).others

-- where nothing is due, all deadlines are yet to come
pub none_come : (s : PoolState) (moment pass : ℕ) → due_entry s moment pass ≡ None → All (λ d. moment < d.moment) (deadlines s)
none_come s moment pass h = by_next (next_deadline s) refl h
  where
    Later : Deadline → Type 0
    Later d = moment < d.moment

    by_come : (d : Deadline) (b : Bool) → next_deadline s ≡ Some d → nat_le d.moment moment ≡ b → option_map (entry_of s pass) (cond b (Some d) None) ≡ None → All Later (deadlines s)
    by_come d true n c g = absurd (cc (g))
    by_come d false n c g =
        (let first = least None (deadlines s) d n in let l = leb-false d.moment moment c in
        λ k x low. let after : d.moment ≤ _ = first.others k x low in omega (arith, l, after))

    by_next : (o : Option Deadline) → next_deadline s ≡ o → option_map (entry_of s pass) (option_and_then (if_come moment) o) ≡ None → All Later (deadlines s)
    by_next None n g = subst (All Later) (sym (none_of None (deadlines s) n)) (All-nil Later)
    by_next (Some d) n g = by_come d (nat_le d.moment moment) n refl g

-- so they lie ahead
pub ahead_of_none : (s : PoolState) (moment pass : ℕ) → due_entry s moment pass ≡ None → Ahead moment s
ahead_of_none s moment pass h = λ k x low. let later : moment < _ = none_come s moment pass h k x low in omega (arith, later)

-- the deadline that is due is as far ahead as all are
pub due_ahead : (s : PoolState) (low moment pass : ℕ) (e : Entry) → Ahead low s → due_entry s moment pass ≡ Some e → low ≤ e.moment
due_ahead s low moment pass e all h =
    subst (λ (m : ℕ). low ≤ m) (ap (λ (x : Entry). x.moment) (due_at s moment pass e h).is) (due_has (λ (d : Deadline). low ≤ d.moment) s moment pass e all h)

-- what is due at a moment is due at its own already
pub due_on_time : (s : PoolState) (moment pass : ℕ) (e : Entry) → due_entry s moment pass ≡ Some e → due_entry s e.moment pass ≡ Some e
due_on_time s moment pass e h =
    let found = due_at s moment pass e h in
    subst (λ (x : Entry). due_entry s x.moment pass ≡ Some x) found.is
    (ap (λ (o : Option Deadline). option_map (entry_of s pass) (option_and_then (if_come found.d.moment) o)) found.next ∙ at_once found.d)
  where
    at_once : (d : Deadline) → option_map (entry_of s pass) (if_come d.moment d) ≡ Some (entry_of s pass d)
    at_once d =
        cond_both (nat_le d.moment d.moment) (Some d) None (λ (o : Option Deadline). option_map (entry_of s pass) o ≡ Some (entry_of s pass d)) (λ t. refl)
        (λ f. absurd (let l = leb-false d.moment d.moment f in omega (arith, l)))

-- an entry that may follow comes at no deadline's cost
pub ahead_of_next : (s : PoolState) (e : Entry) → MayFollow s e → Ahead e.moment s
ahead_of_next s e follows = by_cause (is_deadline e.kind) (asks s e.kind) follows.has_cause
  where
    by_cause : (b : Bool) (o : Option Asked) → MatchBool b (IsDue s e) (IsSomeAnd o (IsAnswered s e)) → Ahead e.moment s
    by_cause true o h = ahead_of_due s e.moment e.pass e h
    by_cause false None h = absurd h
    by_cause false (Some asked) h = ahead_of_none s e.moment e.pass h.nothing_due
