-- A task that took an outcome has its source, now and whatever follows.
use Rattle.std.proofs.Common.{◌≡◌, ℕ, ◌<◌, true, false, List, [], ◌∷◌, refl, sym, ap, ◌∙◌, subst, arith, Option, Some, None}
use Rattle.std.specs.Option.{option_map_or}
use Rattle.std.proofs.lemmas.Bool.{and_parts}
use Rattle.std.proofs.lemmas.Option.{same_Some}
use Rattle.task_props.specs.Canonical.{hash}
use Rattle.pool_laws.specs.Types.{NewTask, Slice, TaskState, Completed, TaskRow, PoolState, Entry, EntryKind}
use Rattle.swarm_model.specs.declared.entry.EntryKind.TheVariants as kind
use Rattle.swarm_model.specs.Finding.{has_state, is_state, is_final, is_task}
use Rattle.swarm_model.specs.Slices.{current_slice}
use Rattle.swarm_model.specs.Reuse.{ended_well, ran_hash, has_hash}
use Rattle.swarm_model.specs.ReuseLaw.{HasSource, OutcomesAreTaken}
use Rattle.swarm_model.specs.Effects.{opening, after, task_after, added_tasks, new_row, no_of_task}
use Rattle.swarm_model.specs.History.{replay, IsCaused, MayFollow}
use Rattle.swarm_model.specs.Soundness.{IsSound}
use Rattle.pool_laws.proofs.Lists.{Among, Found, each_one, each_map, each_append, find_is, number_within}
use Rattle.pool_laws.proofs.Preconditions.{Finds, FindsNew, FindsSource}
use Rattle.pool_laws.proofs.EntryPreconditions.{finds}
use Rattle.pool_laws.proofs.Rows.{find_task}
use Rattle.pool_laws.proofs.Sound.{sound_after, sound_replay, opening_sound}
use Rattle.pool_laws.proofs.Tracks.{still_among, final_same}
use Rattle.pool_laws.proofs.Origins.{Origin, origin_same}

-- what a task has that took the outcome of one of that number
record Took (s : PoolState) (x : TaskRow) (n : ℕ) : Type 0 where
  completed : x.state ≡ Completed
  no_run : x.attempt ≡ None
  source : TaskRow
  among : Among source s.tasks
  named : source.no ≡ n
  earlier : n < x.no
  ended : ended_well source ≡ true
  own : Slice
  comes_to : current_slice x ≡ Some own
  idempotent : own.properties.idempotent ≡ true
  alike : ran_hash (hash own.properties) source ≡ true

abbrev HaveSources : PoolState → Type 0
HaveSources s = (x : TaskRow) → Among x s.tasks → (n : ℕ) → x.source ≡ Some n → Took s x n

-- what completed is over
completed_final : (state : TaskState) → is_state state Completed ≡ true → is_final state ≡ true
completed_final Completed e = refl
completed_final state e = absurd (cc (e))

pub ended_final : (x : TaskRow) → ended_well x ≡ true → is_final x.state ≡ true
ended_final x e = completed_final x.state (and_parts (has_state Completed x) _ e).0

-- what a new task takes, in a pool that has the source
new_took : (s there : PoolState) (m t : ℕ) (who : List ℕ) (request : NewTask) (state : TaskState) (slice number : ℕ) → IsSound s → (g : FindsNew s t who request state slice (Some number)) →
    Among g.takes.source there.tasks → Took there (new_row m t who request state slice (Some number)) number
new_took s there m t who request state slice number o g among =
    let h : FindsSource s request state slice number = g.takes in
    let low = (number_within no_of_task 1 s.tasks o.tasks_numbered h.source h.among).1 in
    let next = g.next in
    let named = h.named in
    record {
      completed = h.completed;
      no_run = refl;
      source = h.source;
      among = among;
      named = named;
      earlier = omega (arith, low, next, named);
      ended = h.ended;
      own = h.own;
      comes_to = h.reached;
      idempotent = h.idempotent;
      alike = h.alike;
    }

module _ (s : PoolState) (e : Entry) (o : IsSound s) (follows : MayFollow s e) where
  f : Finds s e.kind
  f = finds s e follows

  -- a row that ended well is there after the entry, as it was
  pub stays_there : (x : TaskRow) → Among x s.tasks → is_final x.state ≡ true → Among x (after s e).tasks
  stays_there x a final = subst (λ (z : TaskRow). Among z (after s e).tasks) (final_same s e.moment e.kind o f x a final) (still_among s e x a)

  took_still : (x : TaskRow) (n : ℕ) → Took s x n → Took (after s e) x n
  took_still x n t =
      record {
        completed = t.completed;
        no_run = t.no_run;
        source = t.source;
        among = stays_there t.source t.among (ended_final t.source t.ended);
        named = t.named;
        earlier = t.earlier;
        ended = t.ended;
        own = t.own;
        comes_to = t.comes_to;
        idempotent = t.idempotent;
        alike = t.alike;
      }

  -- a row that was there took what it had taken, and is as it was
  row_took : HaveSources s → (x : TaskRow) → Among x s.tasks → (n : ℕ) → (task_after s e.moment e.kind x).source ≡ Some n → Took (after s e) (task_after s e.moment e.kind x) n
  row_took have x a n is =
      let t : Took s x n = have x a n (sym (ap (λ (z : Origin). z.source) (origin_same s e.moment e.kind o f x a)) ∙ is) in
      let final : is_final x.state ≡ true = ap is_final t.completed in
      subst (λ (z : TaskRow). Took (after s e) z n) (sym (final_same s e.moment e.kind o f x a final)) (took_still x n t)

  -- so did one that is added
  added_took : (k : EntryKind) → Finds s k → (x : TaskRow) → Among x (added_tasks e.moment k) → (n : ℕ) → x.source ≡ Some n → Took (after s e) x n
  added_took (kind.New t who request state slice None) g x a n is = absurd (cc (is, each_one (λ (y : TaskRow). y.source ≡ None) (new_row e.moment t who request state slice None) refl x a))
  added_took (kind.New t who request state slice (Some number)) g x a n is =
      each_one (λ (y : TaskRow). y.source ≡ Some n → Took (after s e) y n) (new_row e.moment t who request state slice (Some number)) (λ j.
      subst (Took (after s e) (new_row e.moment t who request state slice (Some number))) (same_Some _ _ j)
      (new_took s (after s e) e.moment t who request state slice number o g (stays_there g.takes.source g.takes.among (ended_final g.takes.source g.takes.ended)))) x a is
  added_took k g x a n is = elim a [ ]

  sources_after : HaveSources s → HaveSources (after s e)
  sources_after have x a =
      each_append (λ (y : TaskRow). (n : ℕ) → y.source ≡ Some n → Took (after s e) y n) _ (added_tasks e.moment e.kind)
      (each_map (λ (y : TaskRow). (n : ℕ) → y.source ≡ Some n → Took (after s e) y n) (task_after s e.moment e.kind) s.tasks (row_took have)) (added_took e.kind f) x a

sources_replay : (s : PoolState) (log : List Entry) → IsSound s → IsCaused s log → HaveSources s → HaveSources (replay s log)
sources_replay s [] o c have = have
sources_replay s (e ∷ log) o c have = sources_replay (after s e) log (sound_after s e o c.0) c.1 (sources_after s e o c.0 have)

-- in the words of the law
has_source : (s : PoolState) → IsSound s → (x : TaskRow) (n : ℕ) → Took s x n → HasSource s x n
has_source s o x n t = by_slice (current_slice t.source) refl t.alike
  where
    by_slice : (r : Option Slice) → current_slice t.source ≡ r → option_map_or (has_hash (hash t.own.properties)) r false ≡ true → HasSource s x n
    by_slice None g h = absurd (cc (h))
    by_slice (Some ran) g h =
        record {
          completed = t.completed;
          no_run = t.no_run;
          source = t.source;
          there = find_task s o t.source n t.among t.named;
          earlier = t.earlier;
          ended = t.ended;
          own = t.own;
          comes_to = t.comes_to;
          idempotent = t.idempotent;
          ran = ran;
          came_to = g;
          alike = h;
        }

-- what a new task takes when it is accepted
pub new_source : (s : PoolState) (m t : ℕ) (who : List ℕ) (request : NewTask) (state : TaskState) (slice number : ℕ) → IsSound s → FindsNew s t who request state slice (Some number) →
    HasSource s (new_row m t who request state slice (Some number)) number
new_source s m t who request state slice number o g =
    has_source s o (new_row m t who request state slice (Some number)) number (new_took s s m t who request state slice number o g g.takes.among)

pub outcomes_taken : OutcomesAreTaken
outcomes_taken settings log t number task c e is =
    let s : PoolState = replay (opening settings) log in
    let found : Found (is_task t) s.tasks task = find_is (is_task t) s.tasks task e in
    has_source s (sound_replay (opening settings) log (opening_sound settings) c) task number
    (sources_replay (opening settings) log (opening_sound settings) c (λ x a n i. elim a [ ]) task found.among number is)
