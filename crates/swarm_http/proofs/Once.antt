-- The entries of the exchanges stand in the logs once, and in order.
use Rattle.std.proofs.Common.{◌≡◌, ℕ, Bool, true, false, List, [], ◌∷◌, ◌++◌, refl, sym, ap, ◌∙◌, append_assoc, append-nil, Option, Some, None, Result, Ok, Err, subst, inl, inr}
use Rattle.std.specs.Prelude.{filter, IsTrue, IsSomeAnd, slice_get, option_map}
use Rattle.std.specs.Bool.{MatchBool}
use Rattle.std.specs.List.{flat_map, AllByRecursion}
use Rattle.std.specs.Option.{option_to_list}
use Rattle.std.proofs.lemmas.Bool.{eq-eqb, ne_eqb}
use Rattle.std.proofs.lemmas.Bool.Decides.{eqb_tells}
use Rattle.std.proofs.lemmas.List.Elements.{filter-append}
use Rattle.httparse.specs.Grammar.{RequestHead}
use Rattle.swarm_http.specs.Types.{Settings, PoolSettings, Entry, Reply, Answered, CallFault}
use Rattle.swarm_model.specs.declared.entry.EntryKind.{EntryKind}
use Rattle.swarm_model.specs.Answers.{decide, entry_at}
use Rattle.swarm_model.specs.Bases.{Base, front}
use Rattle.swarm_model.specs.History.{replay, moment_of}
use Rattle.swarm_model.specs.Points.{is_ahead, IsByOther, IsSettled, Call, Growth, added, Grows, IsPoint, IsStopped}
use Rattle.pool_doors.specs.Doors.{Logs, Writer, IsPoolCall}
use Rattle.swarm_http.specs.Outcomes.{DoorCall, called_place, call_of, entries_at, Outcome, rejected, answered, aborted, no_body_memory, no_reply_memory, calls, IsCalled, Acts}
use Rattle.swarm_http.specs.Exchange.{Exchange, Chain, has_pass, GainsOnce, AreOnce}

-- ---- the entries of a pass among others

none_of_others : (pass : ℕ) (xs : List Entry) → AllByRecursion (IsByOther pass) xs → filter (has_pass pass) xs ≡ []
none_of_others pass [] all = refl
none_of_others pass (x ∷ xs) all = rw (ne_eqb x.pass pass all.0) (none_of_others pass xs all.1)

abbrev HasPass : ℕ → Entry → Type 0
HasPass pass entry = entry.pass ≡ pass

all_own : (pass : ℕ) (xs : List Entry) → AllByRecursion (HasPass pass) xs → filter (has_pass pass) xs ≡ xs
all_own pass [] all = refl
all_own pass (x ∷ xs) all = rw (eq-eqb x.pass pass all.0) (ap (λ (l : List Entry). x ∷ l) (all_own pass xs all.1))

both_own : (pass : ℕ) (xs ys : List Entry) → AllByRecursion (HasPass pass) xs → AllByRecursion (HasPass pass) ys → AllByRecursion (HasPass pass) (xs ++ ys)
both_own pass [] ys p q = q
both_own pass (x ∷ xs) ys p q = (p.0, both_own pass xs ys p.1 q)

settled_own : (pass moment : ℕ) (xs : List Entry) → AllByRecursion (IsSettled pass moment) xs → AllByRecursion (HasPass pass) xs
settled_own pass moment [] all = tt
settled_own pass moment (x ∷ xs) all = (all.0.1, settled_own pass moment xs all.1)

answer_own : (pass moment : ℕ) (kind : Option EntryKind) → AllByRecursion (HasPass pass) (option_to_list (option_map (entry_at moment pass) kind))
answer_own pass moment None = tt
answer_own pass moment (Some kind) = (refl, tt)

-- ---- one call

split : {A B C : Type 0} (b : Bool) → MatchBool b A B → (A → C) → (B → C) → C
split true m f g = f m
split false m f g = g m

point_own : {start : Base} {call : Call} {old new : List Entry} {growth : Growth} {reply : Reply} → IsPoint start call old new growth reply
    → AllByRecursion (HasPass call.pass) (added growth)
point_own {start = start} {call = call} {old = old} {growth = growth} p =
    let at = replay start.rows (old ++ growth.others) in
    let moment = moment_of at call.moment in
    let All : List Entry → Type 0 = AllByRecursion (HasPass call.pass) in
    split (is_ahead (front start (old ++ growth.others)) call.after) p.finds
    (λ early. both_own call.pass growth.settled (option_to_list growth.own) (subst All (sym early.settled_is) tt) (subst (λ (o : Option Entry). All (option_to_list o)) (sym early.own_is) tt))
    (λ served. both_own call.pass growth.settled (option_to_list growth.own) (settled_own call.pass moment growth.settled served.due_first)
    (subst (λ (o : Option Entry). All (option_to_list o)) served.entry (answer_own call.pass moment (decide (replay at growth.settled) call.caller moment call.request).entry)))

stop_own : {start : Base} {call : Call} {old new : List Entry} {growth : Growth} {full : Bool} → IsStopped start call old new growth full
    → AllByRecursion (HasPass call.pass) (added growth)
stop_own {start = start} {call = call} {old = old} {growth = growth} s =
    both_own call.pass growth.settled (option_to_list growth.own) (settled_own call.pass (moment_of (replay start.rows (old ++ growth.others)) call.moment) growth.settled s.due_first)
    (subst (λ (o : Option Entry). AllByRecursion (HasPass call.pass) (option_to_list o)) (sym s.no_own) tt)

grows_once : {start : Base} {pass : ℕ} {old new : List Entry} {growth : Growth} (alone : Bool) → Grows start pass old new growth → AllByRecursion (HasPass pass) (added growth)
    → (IsTrue alone → growth.others ≡ []) → GainsOnce pass alone old new (added growth)
grows_once {pass = pass} {growth = growth} alone g own none = record {
  gained = growth.others ++ added growth;
  grown = g.parts;
  exactly = filter-append (has_pass pass) growth.others (added growth)
      ∙ ap (λ (l : List Entry). l ++ filter (has_pass pass) (added growth)) (none_of_others pass growth.others g.by_others) ∙ all_own pass (added growth) own;
  no_others = λ t. ap (λ (l : List Entry). l ++ added growth) (none t);
}

pool_call_once : (start : Base) (alone : Bool) (call : Call) (old new : List Entry) (growth : Growth) (result : Result Answered CallFault)
    → IsPoolCall start alone call old new growth result → GainsOnce call.pass alone old new (added growth)
pool_call_once start alone call old new growth (Ok reply) d = grows_once alone d.ends.point.grows (point_own d.ends.point) d.no_others
pool_call_once start alone call old new growth (Err fault) d = grows_once alone d.ends.grows (stop_own d.ends) d.no_others

nothing_gained : (pass : ℕ) (alone : Bool) (log : List Entry) → GainsOnce pass alone log log []
nothing_gained pass alone log = record { gained = []; grown = sym (append-nil log); exactly = refl; no_others = λ _. refl }

some_and : {A Q : Type 0} (o : Option A) (P : A → Type 0) → IsSomeAnd o P → ((a : A) → P a → Q) → Q
some_and None P h f = absurd h
some_and (Some a) P h f = f a h

called_once : (settings : Settings) (writer : Writer) (head : RequestHead) (body : List ℕ) (call : DoorCall) (result : Result Answered CallFault) (old new : Logs)
    → IsCalled settings writer head body call result old new → (p : ℕ) → GainsOnce (writer.numbers p) writer.alone (old p) (new p) (entries_at p call)
called_once settings writer head body call result old new c p =
    let at = called_place call in
    let here : GainsOnce (writer.numbers at) writer.alone (old at) (new at) (added call.growth) =
    some_and (slice_get settings.pools at) (λ (pool : PoolSettings). IsPoolCall (writer.starts at) writer.alone (call_of writer head call) (old at) (new at) call.growth result) c.done
    (λ pool d. pool_call_once (writer.starts at) writer.alone (call_of writer head call) (old at) (new at) call.growth result d) in
    elim (eqb_tells (called_place call) p) [
      | inl e ↦ rw e.0 (subst (λ (q : ℕ). GainsOnce (writer.numbers q) writer.alone (old q) (new q) (added call.growth)) e.1 here)
      | inr e ↦ rw (e.0, c.elsewhere p (λ s. e.1 (sym s))) (nothing_gained (writer.numbers p) writer.alone (old p))
    ]

-- ---- the exchanges, one after another

-- no log grew
same_once : (writer : Writer) (old new : Logs) → new ≡ old → (p : ℕ) → GainsOnce (writer.numbers p) writer.alone (old p) (new p) []
same_once writer old new same p =
    subst (λ (l : Logs). GainsOnce (writer.numbers p) writer.alone (old p) (l p) []) (sym same) (nothing_gained (writer.numbers p) writer.alone (old p))

one_call : (writer : Writer) (old new : Logs) (call : DoorCall) (p : ℕ) → GainsOnce (writer.numbers p) writer.alone (old p) (new p) (entries_at p call)
    → GainsOnce (writer.numbers p) writer.alone (old p) (new p) (flat_map (entries_at p) (call ∷ []))
one_call writer old new call p g = subst (GainsOnce (writer.numbers p) writer.alone (old p) (new p)) (sym (append-nil (entries_at p call))) g

acts_once : (settings : Settings) (writer : Writer) (head : RequestHead) (body : List ℕ) (outcome : Outcome) (old new : Logs) → Acts settings writer head body outcome old new
    → (p : ℕ) → GainsOnce (writer.numbers p) writer.alone (old p) (new p) (flat_map (entries_at p) (calls outcome))
acts_once settings writer head body (rejected why) old new a p = same_once writer old new a.1 p
acts_once settings writer head body (answered call result) old new a p = one_call writer old new call p (called_once settings writer head body call (Ok result) old new a p)
acts_once settings writer head body (aborted call why) old new a p = one_call writer old new call p (called_once settings writer head body call (Err why) old new a p)
acts_once settings writer head body no_body_memory old new a p = same_once writer old new a p
acts_once settings writer head body (no_reply_memory call result) old new a p = one_call writer old new call p (called_once settings writer head body call (Ok result) old new a p)

GainsOnce-trans : {pass : ℕ} {alone : Bool} {old mid new xs ys : List Entry} → GainsOnce pass alone old mid xs → GainsOnce pass alone mid new ys → GainsOnce pass alone old new (xs ++ ys)
GainsOnce-trans {pass = pass} {old = old} {xs = xs} x y = record {
  gained = x.gained ++ y.gained;
  grown = y.grown ∙ ap (λ (l : List Entry). l ++ y.gained) x.grown ∙ append_assoc old x.gained y.gained;
  exactly = filter-append (has_pass pass) x.gained y.gained ∙ ap (λ (l : List Entry). l ++ filter (has_pass pass) y.gained) x.exactly ∙ ap (λ (l : List Entry). xs ++ l) y.exactly;
  no_others = λ t. ap (λ (l : List Entry). l ++ y.gained) (x.no_others t) ∙ ap (λ (l : List Entry). xs ++ l) (y.no_others t);
}

pub chain_once : (settings : Settings) (writer : Writer) (old : Logs) (xs : List Exchange) (new : Logs) → Chain settings writer old xs new → AreOnce writer old xs new
chain_once settings writer old [] new same p = same_once writer old new same p
chain_once settings writer old (x ∷ xs) new c p = GainsOnce-trans (acts_once settings writer x.head x.body x.outcome old c.0 c.1.acts p) (chain_once settings writer c.0 xs new c.2 p)
