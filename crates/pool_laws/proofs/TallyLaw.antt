-- The tally counts the verdicts, and adds up to the tasks of the base and those that were accepted since.
use Rattle.std.proofs.Common.{◌≡◌, ℕ, ◌+◌, List, [], ◌∷◌, map, length, length-append, refl, ap, sym, ◌∙◌, cond, Bool, arith, sum_by, count_by}
use Rattle.std.proofs.lemmas.List.{length-map}
use Rattle.std.proofs.lemmas.List.Sums.{sum_by-cons, sum-map}
use Rattle.pool_laws.specs.Types.{TaskState, Pending, Running, Expired, TimedOut, BotDied, Canceled, Completed, Killed, NoResource, TaskRow, PoolState, Entry, EntryKind}
use Rattle.swarm_model.specs.declared.entry.EntryKind.TheVariants as kind
use Rattle.swarm_model.specs.Numbers.{AreNumbered}
use Rattle.swarm_model.specs.Finding.{is_state, has_state}
use Rattle.swarm_model.specs.Before.{accepted_since, is_verdict_since, verdicts_since}
use Rattle.swarm_model.specs.Effects.{opening, no_of_task, task_after, added_tasks, after}
use Rattle.swarm_model.specs.History.{replay, states, count_in}
use Rattle.swarm_model.specs.Soundness.{IsSound}
use Rattle.swarm_model.specs.Verdicts.{is_new, is_new_kind, numbers, has_verdict, TallyCountsVerdicts, TallyAddsUp}
use Rattle.pool_laws.specs.Bases.{TallyFromABase, TallyAddsUpFromABase}
use Rattle.pool_laws.proofs.Lists.{Among, here, later}
use Rattle.pool_laws.proofs.Rows.{find_task}
use Rattle.pool_laws.proofs.Sound.{sound_replay, opening_sound}
use Rattle.pool_laws.proofs.BaseVerdicts.{states_from}

-- how many tasks there are

-- an entry adds the row of one task, or none
adds_one : (m : ℕ) (k : EntryKind) → length (added_tasks m k) ≡ cond (is_new_kind k) 1 0
adds_one m (kind.New t who request state slice from) = refl
adds_one m k = refl

-- so there are as many as the log accepts
counted : (s : PoolState) (log : List Entry) → length (replay s log).tasks ≡ length s.tasks + count_by is_new log
counted s [] = omega arith
counted s (e ∷ log) =
    let rest = counted (after s e) log in
    let both = length-append (map (task_after s e.moment e.kind) s.tasks) (added_tasks e.moment e.kind) in
    let same = length-map s.tasks (task_after s e.moment e.kind) in
    let one = adds_one e.moment e.kind in
    let more = sum_by-cons (λ (x : Entry). cond (is_new x) 1 0) e log in
    omega (arith, rest, both, same, one, more)

-- the counts of all states

sum_same : {X : Type 0} (f g : X → ℕ) → ((x : X) → f x ≡ g x) → (xs : List X) → sum_by f xs ≡ sum_by g xs
sum_same f g e [] = refl
sum_same f g e (x ∷ xs) = sum_by-cons f x xs ∙ ap (λ n. n + sum_by f xs) (e x) ∙ ap (λ n. g x + n) (sum_same f g e xs) ∙ sym (sum_by-cons g x xs)

sum_both : {X : Type 0} (f g : X → ℕ) (xs : List X) → sum_by (λ x. f x + g x) xs ≡ sum_by f xs + sum_by g xs
sum_both f g [] = refl
sum_both f g (x ∷ xs) =
    let a = sum_by-cons (λ y. f y + g y) x xs in
    let b = sum_both f g xs in
    let c = sum_by-cons f x xs in
    let d = sum_by-cons g x xs in
    omega (arith, a, b, c, d)

-- a state has one place
one_place : (state : TaskState) → sum_by (λ (other : TaskState). cond (is_state state other) 1 0) states ≡ 1
one_place Pending = refl
one_place Running = refl
one_place Expired = refl
one_place TimedOut = refl
one_place BotDied = refl
one_place Canceled = refl
one_place Completed = refl
one_place Killed = refl
one_place NoResource = refl

-- so each row is counted once
counts_rows : (xs : List TaskRow) → sum_by (λ (state : TaskState). count_by (has_state state) xs) states ≡ length xs
counts_rows [] = refl
counts_rows (x ∷ xs) =
    let a = sum_same (λ (state : TaskState). count_by (has_state state) (x ∷ xs)) (λ (state : TaskState). cond (is_state x.state state) 1 0 + count_by (has_state state) xs)
    (λ state. sum_by-cons (λ (task : TaskRow). cond (has_state state task) 1 0) x xs) states in
    let b = sum_both (λ (state : TaskState). cond (is_state x.state state) 1 0) (λ (state : TaskState). count_by (has_state state) xs) states in
    let c = one_place x.state in
    let d = counts_rows xs in
    a ∙ b ∙ omega (arith, c, d)

-- and the tally adds up to the rows
pub total_since : TallyAddsUpFromABase
total_since base log o c = sum-map (count_in (replay base log)) states ∙ counts_rows (replay base log).tasks ∙ counted base log

pub tally_adds_up : TallyAddsUp
tally_adds_up settings log c = total_since (opening settings) log (opening_sound settings) c ∙ omega arith

-- the numbers of the rows

numbers_are : (n : ℕ) (xs : List TaskRow) → AreNumbered no_of_task n xs → map no_of_task xs ≡ numbers n (length xs)
numbers_are n [] c = refl
numbers_are n (x ∷ xs) c = ap (λ j. j ∷ map no_of_task xs) c.0 ∙ ap (λ r. n ∷ r) (numbers_are (n + 1) xs c.1)

-- rows that pass are counted by what passes of their numbers
count_through : (p : ℕ → Bool) (q : TaskRow → Bool) (xs : List TaskRow) → ((x : TaskRow) → Among x xs → q x ≡ p x.no) → count_by q xs ≡ count_by p (map no_of_task xs)
count_through p q [] e = refl
count_through p q (x ∷ xs) e =
    sum_by-cons (λ y. cond (q y) 1 0) x xs ∙ ap (λ b. cond b 1 0 + count_by q xs) (e x here)
    ∙ ap (λ n. cond (p x.no) 1 0 + n) (count_through p q xs (λ y a. e y (later a))) ∙ sym (sum_by-cons (λ y. cond (p y) 1 0) x.no (map no_of_task xs))

map_same : {A B : Type 0} (f g : A → B) → ((x : A) → f x ≡ g x) → (xs : List A) → map f xs ≡ map g xs
map_same f g e [] = refl
map_same f g e (x ∷ xs) = cc (e x, map_same f g e xs)

-- so the tally counts the verdicts
pub tally_since : TallyFromABase
tally_since base log o c =
    let s : PoolState = replay base log in
    let sound : IsSound s = sound_replay base log o c in
    let names : map no_of_task s.tasks ≡ numbers 1 (accepted_since base log) = numbers_are 1 s.tasks sound.tasks_numbered ∙ ap (numbers 1) (counted base log) in
    map_same (count_in s) (verdicts_since base log)
    (λ state. count_through (is_verdict_since base log state) (has_state state) s.tasks
    (λ task a. ap (λ q. is_state q state) (sym (states_from base log task.no task o c (find_task s sound task task.no a refl))))
    ∙ ap (count_by (is_verdict_since base log state)) names) states

-- of an empty base, those of the log alone
pub tally_counts_verdicts : TallyCountsVerdicts
tally_counts_verdicts settings log c =
    let none : accepted_since (opening settings) log ≡ count_by is_new log = omega arith in
    tally_since (opening settings) log (opening_sound settings) c
    ∙ ap (λ (n : ℕ). map (λ (state : TaskState). count_by (has_verdict settings log state) (numbers 1 n)) states) none
