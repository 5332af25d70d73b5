-- What the waiting and running tasks need stays there.
use Rattle.std.proofs.Common.{◌≡◌, ℕ, ◌+◌, ◌==◌, ◌&&◌, ◌||◌, not, Bool, true, false, List, [], ◌∷◌, ◌++◌, map, filter, find, ◌⊎◌, inl, inr, refl, sym, ap, ◌∙◌, subst, Option, Some, None, is_some}
use Rattle.std.specs.List.{list_any, flat_map}
use Rattle.std.specs.Option.{option_map, option_map_or}
use Rattle.std.proofs.lemmas.Bool.{and_parts, and_from, or_cases, or_left, or_right, cond_both, not_from_false}
use Rattle.std.proofs.lemmas.Option.{same_Some}
use Rattle.std.proofs.lemmas.List.Folds.{list_any-append}
use Rattle.dimensions.specs.Alike.{same}
use Rattle.pool_laws.specs.Types.{BlobRow, File, Slice, TaskState, Pending, Running, BotDied, Attempt, Chunk, Retried, TaskRow, PoolState, Entry, EntryKind}
use Rattle.blob_rows.specs.BlobRows.{has_digest, is_blob, is_other, renewed, renewed_until, longer_kept, new_blob}
use Rattle.swarm_model.specs.declared.entry.EntryKind.TheVariants as kind
use Rattle.swarm_model.specs.declared.entry.Outcome.TheVariants as outcome
use Rattle.swarm_model.specs.Finding.{is_state, is_final, blob_of}
use Rattle.swarm_model.specs.Blobs.{lacks, missing_file, inputs_of, can_take}
use Rattle.swarm_model.specs.Slices.{admit}
use Rattle.swarm_model.specs.Deadlines.{last_state}
use Rattle.swarm_model.specs.Uses.{is_file_of, has_input, is_chunk_of, has_chunk, needs, is_used}
use Rattle.swarm_model.specs.Effects.{after, task_after, added_tasks, with_blobs, put, put_chunk, blobs_in, life, new_row, expired_slice, retried_from, killed, with_chunk, with_last_report, ended_run, end_state}
use Rattle.swarm_model.specs.History.{MayFollow}
use Rattle.swarm_model.specs.Soundness.{IsSound}
use Rattle.swarm_model.specs.BaseRules.{HasWhatIsUsed}
use Rattle.pool_laws.proofs.Alike.{same_is}
use Rattle.pool_laws.proofs.Lists.{Among, here, later, Found, each_one, each_map, each_append, find_is, find_none, found_once, filter_has, among_map, among_left, among_right}
use Rattle.pool_laws.proofs.Preconditions.{Finds, FindsBlob}
use Rattle.pool_laws.proofs.EntryPreconditions.{finds, finds_blob}
use Rattle.pool_laws.proofs.Rows.{task_by, lost_is, IsFresh}
use Rattle.pool_laws.proofs.Tasks.{end_final, last_final, finished_final}
use Rattle.pool_laws.proofs.BlobChanges.{after_place, after_put, has_place, update_takes}
use Rattle.pool_laws.proofs.BaseRows.{steps}

-- ---- lists

-- a test that an element passes finds one
found_some : {X : Type 0} (test : X → Bool) (xs : List X) (x : X) → Among x xs → test x ≡ true → is_some (find test xs) ≡ true
found_some test xs x a t = by_found (find test xs) refl
  where
    by_found : (r : Option _) → find test xs ≡ r → is_some r ≡ true
    by_found None e = absurd (let none = find_none test xs e x a in cc (none, t))
    by_found (Some y) e = refl

-- an element that passes
record Passes {X : Type 0} (test : X → Bool) (xs : List X) : Type 0 where
  item : X
  among : Among item xs
  passes : test item ≡ true

passes_later : {X : Type 0} (test : X → Bool) (x : X) (xs : List X) → Passes test xs → Passes test (x ∷ xs)
passes_later test x xs p = record { item = p.item; among = later p.among; passes = p.passes }

any_passes : {X : Type 0} (test : X → Bool) (xs : List X) → list_any test xs ≡ true → Passes test xs
any_passes test [] e = absurd (cc (e))
any_passes test (x ∷ xs) e = by_first (or_cases (test x) (list_any test xs) e) (any_passes test xs)
  where
    by_first : (test x ≡ true) ⊎ (list_any test xs ≡ true) → (list_any test xs ≡ true → Passes test xs) → Passes test (x ∷ xs)
    by_first (inl t) rest = record { item = x; among = here; passes = t }
    by_first (inr t) rest = passes_later test x xs (rest t)

passes_any : {X : Type 0} (test : X → Bool) (xs : List X) (x : X) → Among x xs → test x ≡ true → list_any test xs ≡ true
passes_any test [] x a t = elim a [ ]
passes_any test (y ∷ xs) x here t = or_left (test x) (list_any test xs) t
passes_any test (y ∷ xs) x (later a) t = or_right (test y) (list_any test xs) (passes_any test xs x a t)

among_flat : {X Y : Type 0} (f : X → List Y) (xs : List X) (x : X) (y : Y) → Among x xs → Among y (f x) → Among y (flat_map f xs)
among_flat f [] x y a b = elim a [ ]
among_flat f (z ∷ xs) x y here b = among_left y (f x) (flat_map f xs) b
among_flat f (z ∷ xs) x y (later a) b = among_right y (f z) (flat_map f xs) (among_flat f xs x y a b)

-- ---- the parts of a need: an input, the output of the run, or that of the one that is tried again

abbrev Named : Bool → Bool → Bool → Type 0
Named inputs output lost = (inputs ≡ true) ⊎ ((output ≡ true) ⊎ (lost ≡ true))

named_by : (inputs output lost : Bool) → (inputs || (output || lost)) ≡ true → Named inputs output lost
named_by inputs output lost e = by_first (or_cases inputs (output || lost) e)
  where
    by_first : (inputs ≡ true) ⊎ ((output || lost) ≡ true) → Named inputs output lost
    by_first (inl t) = inl t
    by_first (inr t) = inr (or_cases output lost t)

named_from : (inputs output lost : Bool) → Named inputs output lost → (inputs || (output || lost)) ≡ true
named_from inputs output lost (inl t) = or_left inputs (output || lost) t
named_from inputs output lost (inr (inl t)) = or_right inputs (output || lost) (or_left output lost t)
named_from inputs output lost (inr (inr t)) = or_right inputs (output || lost) (or_right output lost t)

needs_by : (final inputs output lost : Bool) → (not final && (inputs || (output || lost))) ≡ true → (not final ≡ true) × Named inputs output lost
needs_by final inputs output lost e = let both = and_parts (not final) (inputs || (output || lost)) e in (both.0, named_by inputs output lost both.1)

needs_from : (final inputs output lost : Bool) → not final ≡ true → Named inputs output lost → (not final && (inputs || (output || lost))) ≡ true
needs_from final inputs output lost goes_on n = and_from (not final) (inputs || (output || lost)) goes_on (named_from inputs output lost n)

-- a task that has ended needs nothing
ended_needs : (final named : Bool) → final ≡ true → (not final && named) ≡ true → ⊥
ended_needs true named f e = cc (e)
ended_needs false named f e = cc (f)

-- one that waits or runs has not ended
waiting_goes_on : (state : TaskState) → is_state state Pending ≡ true → not (is_final state) ≡ true
waiting_goes_on Pending w = refl
waiting_goes_on state w = absurd (cc (w))

running_goes_on : (state : TaskState) → is_state state Running ≡ true → not (is_final state) ≡ true
running_goes_on Running w = refl
running_goes_on state w = absurd (cc (w))

module _ (D : List ℕ) where
  abbrev IsThere : List BlobRow → Type 0
  IsThere rows = is_some (find (has_digest D) rows) ≡ true

  abbrev inputs_in : TaskRow → Bool
  inputs_in x = list_any (has_input D) x.request.task_slices

  abbrev output_in : Option Attempt → Bool
  output_in r = option_map_or (has_chunk D) r false

  abbrev lost_in : Option Retried → Bool
  lost_in q = option_map_or (λ lost. has_chunk D lost.attempt) q false

  -- a run that is asked to stop keeps its output
  killed_output : (r : Option Attempt) → output_in (option_map killed r) ≡ output_in r
  killed_output None = refl
  killed_output (Some a) = refl

  -- so does one that is tried again
  again_output : (m slice : ℕ) (r : Option Attempt) → lost_in (option_map (retried_from m slice) r) ≡ output_in r
  again_output m slice None = refl
  again_output m slice (Some a) = refl

  -- one that goes on has a chunk more
  longer_output : (chunk : Chunk) (r : Option Attempt) → output_in (option_map (with_chunk chunk) r) ≡ true → (output_in r ≡ true) ⊎ (is_chunk_of D chunk ≡ true)
  longer_output chunk None e = inl e
  longer_output chunk (Some a) e = by_parts (or_cases (has_chunk D a) (is_chunk_of D chunk || false) (sym (list_any-append (is_chunk_of D) a.chunks (chunk ∷ [])) ∙ e))
    where
      by_last : (is_chunk_of D chunk ≡ true) ⊎ (false ≡ true) → is_chunk_of D chunk ≡ true
      by_last (inl t) = t
      by_last (inr t) = absurd (cc (t))

      by_parts : (has_chunk D a ≡ true) ⊎ ((is_chunk_of D chunk || false) ≡ true) → (has_chunk D a ≡ true) ⊎ (is_chunk_of D chunk ≡ true)
      by_parts (inl t) = inl t
      by_parts (inr t) = inr (by_last (or_cases (is_chunk_of D chunk) false t))

  -- a report brought a chunk of this digest
  record Brought (s : PoolState) (k : EntryKind) : Type 0 where
    chunk : Chunk
    report : IsFresh s k chunk
    own : is_chunk_of D chunk ≡ true

  module _ (s : PoolState) (m : ℕ) (o : IsSound s) (x : TaskRow) (a : Among x s.tasks) where
    -- what a row needs after an entry it needed before, or a report brought it
    row_needs : (k : EntryKind) → Finds s k → needs D (task_after s m k x) ≡ true → (needs D x ≡ true) ⊎ Brought s k
    row_needs k f =
        task_by P s m o x a k f (record {
          same = λ h. inl h;
          moves = λ w. by_place (admit s x.request.task_slices (x.slice + 1));
          loses = λ w. lost_is P s.settings.retries m x
              (λ t h. again (running_goes_on x.state w) (needs_by false (inputs_in x) false (lost_in (option_map (retried_from m x.slice) x.attempt)) h))
              (λ t h. absurd (ended_needs (is_final (end_state x.attempt BotDied)) (inputs_in x || (output_in x.attempt || lost_in x.retried)) (end_final x.attempt BotDied refl) h));
          begins = λ b t id is found w own h. begun (waiting_goes_on x.state w) (needs_by false (inputs_in x) false (lost_in x.retried) h);
          cancels = λ w h. absurd (cc (h));
          marks = λ w h. inl (subst (λ (r : Bool). (not (is_final x.state) && (inputs_in x || (r || lost_in x.retried))) ≡ true) (killed_output x.attempt) h);
          grows = λ chunk fresh g w h. grown chunk fresh (needs_by (is_final x.state) (inputs_in x) (output_in (option_map (with_chunk chunk) x.attempt)) (lost_in x.retried) h);
          finishes = λ chunk last report y w p h.
              absurd (ended_needs (is_final (ended_run m chunk last y).state) (inputs_in y || (output_in (option_map (with_last_report chunk last) y.attempt) || lost_in y.retried)) (finished_final m chunk last y) h);
        })
      where
        P : TaskRow → Type 0
        P y = needs D y ≡ true → (needs D x ≡ true) ⊎ Brought s k

        -- the row needed it before
        old : not (is_final x.state) ≡ true → Named (inputs_in x) (output_in x.attempt) (lost_in x.retried) → needs D x ≡ true
        old goes_on n = needs_from (is_final x.state) (inputs_in x) (output_in x.attempt) (lost_in x.retried) goes_on n

        by_place : (r : Option ℕ) → P (expired_slice m (option_map_or outcome.Slice r (outcome.Ended (last_state x))) x)
        by_place None h = absurd (ended_needs (is_final (last_state x)) (inputs_in x || (output_in x.attempt || lost_in x.retried)) (last_final x) h)
        by_place (Some place) h = inl h

        again : not (is_final x.state) ≡ true → (not false ≡ true) × Named (inputs_in x) false (lost_in (option_map (retried_from m x.slice) x.attempt)) → (needs D x ≡ true) ⊎ Brought s k
        again goes_on (w, inl t) = inl (old goes_on (inl t))
        again goes_on (w, inr (inl t)) = absurd (cc (t))
        again goes_on (w, inr (inr t)) = inl (old goes_on (inr (inl (sym (again_output m x.slice x.attempt) ∙ t))))

        begun : not (is_final x.state) ≡ true → (not false ≡ true) × Named (inputs_in x) false (lost_in x.retried) → (needs D x ≡ true) ⊎ Brought s k
        begun goes_on (w, inl t) = inl (old goes_on (inl t))
        begun goes_on (w, inr (inl t)) = absurd (cc (t))
        begun goes_on (w, inr (inr t)) = inl (old goes_on (inr (inr t)))

        grown_by : (chunk : Chunk) → IsFresh s k chunk → not (is_final x.state) ≡ true → (output_in x.attempt ≡ true) ⊎ (is_chunk_of D chunk ≡ true) → (needs D x ≡ true) ⊎ Brought s k
        grown_by chunk fresh goes_on (inl t) = inl (old goes_on (inr (inl t)))
        grown_by chunk fresh goes_on (inr t) = inr (record { chunk = chunk; report = fresh; own = t })

        grown : (chunk : Chunk) → IsFresh s k chunk → (not (is_final x.state) ≡ true) × Named (inputs_in x) (output_in (option_map (with_chunk chunk) x.attempt)) (lost_in x.retried) → (needs D x ≡ true) ⊎ Brought s k
        grown chunk fresh (goes_on, inl t) = inl (old goes_on (inl t))
        grown chunk fresh (goes_on, inr (inl t)) = grown_by chunk fresh goes_on (longer_output chunk x.attempt t)
        grown chunk fresh (goes_on, inr (inr t)) = inl (old goes_on (inr (inr t)))

  -- an input of a new task is there
  input_there : (s : PoolState) (slices : List Slice) → missing_file s (inputs_of slices) ≡ None → list_any (has_input D) slices ≡ true → IsThere s.blobs
  input_there s slices none any =
      let p : Passes (has_input D) slices = any_passes (has_input D) slices any in
      let q : Passes (is_file_of D) p.item.properties.inputs = any_passes (is_file_of D) p.item.properties.inputs p.passes in
      by_blob q.item (same_is q.item.digest D q.passes)
      (find_none (lacks s) (inputs_of slices) none q.item (among_flat (λ (slice : Slice). slice.properties.inputs) slices p.item q.item p.among q.among))
    where
      by_row : (file : File) (r : Option BlobRow) → not (option_map_or (λ (blob : BlobRow). blob.size == file.size) r false) ≡ false → is_some r ≡ true
      by_row file None e = absurd (cc (e))
      by_row file (Some row) e = refl

      by_blob : (file : File) → file.digest ≡ D → lacks s file ≡ false → IsThere s.blobs
      by_blob file is e = subst (λ (d : List ℕ). is_some (find (has_digest d) s.blobs) ≡ true) is (by_row file (blob_of s file.digest) e)

  module _ (s : PoolState) (e : Entry) (o : IsSound s) (follows : MayFollow s e) where
    -- what is there stays there, where no removal takes it
    there_still : IsThere s.blobs → ((n : ℕ) → e.kind ≡ kind.Blob n false → is_used s D ≡ true) → IsThere (after s e).blobs
    there_still there used = by_row (find (has_digest D) s.blobs) refl there
      where
        by_row : (r : Option BlobRow) → find (has_digest D) s.blobs ≡ r → is_some r ≡ true → IsThere (after s e).blobs
        by_row None is t = absurd (cc (t))
        by_row (Some x) is t =
            steps s e o follows (λ rows placed. IsThere rows) (record {
              same = there;
              renews = λ digest. found_some (has_digest D) (map (renewed_until (e.moment + life s) digest) s.blobs) (renewed_until (e.moment + life s) digest x) (among_map (renewed_until (e.moment + life s) digest) s.blobs x f.among)
                  (cond_both (has_digest digest x) (renewed (e.moment + life s) x) x (λ (y : BlobRow). has_digest D y ≡ true) (λ t. f.passes) (λ t. f.passes));
              keeps = λ n is. found_some (has_digest D) (map (longer_kept (life s) n) s.blobs) (longer_kept (life s) n x) (among_map (longer_kept (life s) n) s.blobs x f.among)
                  (cond_both (x.no == n) (renewed (x.deadline + life s) x) x (λ (y : BlobRow). has_digest D y ≡ true) (λ t. f.passes) (λ t. f.passes));
              removes = λ n is. removed n is (x.no == n) refl;
              places = λ digest size place p. found_some (has_digest D) (s.blobs ++ new_blob (blobs_in s) (e.moment + life s) digest size place ∷ []) x (among_left x s.blobs (new_blob (blobs_in s) (e.moment + life s) digest size place ∷ []) f.among) f.passes;
            })
          where
            f : Found (has_digest D) s.blobs x
            f = find_is (has_digest D) s.blobs x is

            removed : (n : ℕ) → e.kind ≡ kind.Blob n false → (b : Bool) → (x.no == n) ≡ b → IsThere (filter (is_other n) s.blobs)
            removed n is false off = found_some (has_digest D) (filter (is_other n) s.blobs) x (filter_has (is_other n) s.blobs x f.among (not_from_false (x.no == n) off)) f.passes
            removed n is true on =
                (let g : FindsBlob s e.moment n false = finds_blob s o e n false follows is in
                let one : x ≡ g.blob = same_Some _ _ (sym (found_once (is_blob n) s.blobs x f.among on (o.numbers n)) ∙ g.there) in
                let own : x.digest ≡ D = same_is x.digest D f.passes in
                let unused : is_used s D ≡ false = ap (is_used s) (sym own ∙ ap (λ (y : BlobRow). y.digest) one) ∙ sym g.used in
                let has = used n is in
                absurd (cc (unused, has)))

    -- what a report brought is there
    placed_there : (m : ℕ) (digest : List ℕ) (size : ℕ) → can_take s digest size ≡ true → same digest D ≡ true → IsThere (put s m digest size).blobs
    placed_there m digest size taken own = by_row (blob_of s digest) refl
      where
        is : digest ≡ D
        is = same_is digest D own

        by_row : (r : Option BlobRow) → blob_of s digest ≡ r → IsThere (after_put s m digest size r).rows
        by_row (Some row) found =
            (let f : Found (has_digest digest) s.blobs row = find_is (has_digest digest) s.blobs row found in
            let passes : has_digest D row ≡ true = subst (λ (d : List ℕ). has_digest d row ≡ true) is f.passes in
            found_some (has_digest D) (map (renewed_until (m + life s) digest) s.blobs) (renewed_until (m + life s) digest row) (among_map (renewed_until (m + life s) digest) s.blobs row f.among)
            (cond_both (has_digest digest row) (renewed (m + life s) row) row (λ (y : BlobRow). has_digest D y ≡ true) (λ t. passes) (λ t. passes)))
        by_row None absent =
            (let room = has_place s digest size taken absent in
            let row : BlobRow = new_blob (blobs_in s) (m + life s) digest size room.1 in
            subst (λ (r : Option ℕ). IsThere (after_place s m digest size r).rows) (sym room.2)
            (found_some (has_digest D) (s.blobs ++ row ∷ []) row (among_right row s.blobs (row ∷ []) here) own))

    brought_there : Brought s e.kind → IsThere (after s e).blobs
    brought_there b =
        let r : IsFresh s e.kind b.chunk = b.report in
        let f = subst (Finds s) r.is (finds s e follows) in
        let takes = update_takes s r.bot r.task r.told r.last f b.chunk r.fresh in
        subst (λ (k : EntryKind). IsThere (with_blobs s e.moment k).blobs) (sym r.is)
        (subst (λ (c : Option Chunk). IsThere (put_chunk s e.moment c).blobs) (sym r.fresh) (placed_there e.moment b.chunk.digest b.chunk.size takes.0 b.own))

    -- an entry that adds a task that needs something removes nothing
    no_removal : (k : EntryKind) (n : ℕ) → list_any (needs D) (added_tasks e.moment k) ≡ true → k ≡ kind.Blob n false → is_used s D ≡ true
    no_removal (kind.New t who request state slice from) n any is = absurd (cc (is))
    no_removal k n any is = absurd (cc)

    -- and what the task needs is there
    added_there : (k : EntryKind) → Finds s k → (x : TaskRow) → Among x (added_tasks e.moment k) → needs D x ≡ true → IsThere s.blobs
    added_there (kind.New t who request state slice from) g x a h =
        each_one (λ (y : TaskRow). needs D y ≡ true → IsThere s.blobs) (new_row e.moment t who request state slice from)
        (λ n. by_parts (needs_by (is_final state) (list_any (has_input D) request.task_slices) false false n)) x a h
      where
        by_parts : (not (is_final state) ≡ true) × Named (list_any (has_input D) request.task_slices) false false → IsThere s.blobs
        by_parts (goes_on, inl t) = input_there s request.task_slices g.has_inputs t
        by_parts (goes_on, inr (inl t)) = absurd (cc (t))
        by_parts (goes_on, inr (inr t)) = absurd (cc (t))
    added_there k g x a h = elim a [ ]

    pub used_there : HasWhatIsUsed s → is_used (after s e) D ≡ true → IsThere (after s e).blobs
    used_there has used = by_row (any_passes (needs D) (after s e).tasks used)
      where
        of_row : (x : TaskRow) → Among x s.tasks → (needs D x ≡ true) ⊎ Brought s e.kind → IsThere (after s e).blobs
        of_row x a (inl t) = (let u : is_used s D ≡ true = passes_any (needs D) s.tasks x a t in there_still (has D u) (λ n is. u))
        of_row x a (inr b) = brought_there b

        by_row : Passes (needs D) (after s e).tasks → IsThere (after s e).blobs
        by_row p =
            each_append (λ (y : TaskRow). needs D y ≡ true → IsThere (after s e).blobs) (map (task_after s e.moment e.kind) s.tasks) (added_tasks e.moment e.kind)
            (each_map (λ (y : TaskRow). needs D y ≡ true → IsThere (after s e).blobs) (task_after s e.moment e.kind) s.tasks
            (λ x a n. of_row x a (row_needs s e.moment o x a e.kind (finds s e follows) n)))
            (λ x a n. there_still (added_there e.kind (finds s e follows) x a n) (λ j is. no_removal e.kind j (passes_any (needs D) (added_tasks e.moment e.kind) x a n) is))
            p.item p.among p.passes
