-- The parts of an output are the bytes that were asked for.
use Rattle.std.proofs.Common.{◌≡◌, ◌⊎◌, inl, inr, ℕ, ◌+◌, ◌-◌, ◌≤◌, ◌<◌, not, Bool, true, false, cond, Option, Some, None, IfSome, List, [], ◌∷◌, ◌++◌, map, length, take, drop, length-drop, refl, sym, ap, ◌∙◌, subst, arith, inl, inr, ◌⊎◌}
use Rattle.std.specs.Prelude.{min, max, flat_map}
use Rattle.std.specs.List.{find}
use Rattle.std.specs.Option.{option_map_or, option_and_then}
use Rattle.std.proofs.lemmas.Bool.{cases_lt, ltb-true, ltb-false}
use Rattle.std.proofs.lemmas.Option.{same_Some}
use Rattle.std.proofs.lemmas.List.{append-nil, drop_all, drop-append-le, take_all, take-append-le, take_min}
use Rattle.std.proofs.lemmas.List.Elements.{All-head, All-tail}
use Rattle.std.proofs.Math.Seq.{drop-append-add, take-append-add}
use Rattle.pool_laws.specs.Types.{Attempt, Chunk, TaskRow, Retried, PoolState, Decision, Request}
use Rattle.swarm_model.specs.declared.permission.Permission.TheVariants as permission
use Rattle.swarm_model.specs.declared.request.Request.TheVariants as ask
use Rattle.swarm_model.specs.declared.reply.Reply.TheVariants as reply
use Rattle.swarm_model.specs.declared.rule.Rule.TheVariants as rule
use Rattle.swarm_model.specs.Answers.{decide, named_task, stdout_of, output_between, output_gone, chunks_shown, may, denied, reply_only}
use Rattle.swarm_model.specs.Blobs.{lacks_chunk}
use Rattle.swarm_model.specs.Bytes.{nothing_held}
use Rattle.swarm_model.specs.Bases.{empty_base}
use Rattle.swarm_model.specs.Effects.{opening}
use Rattle.swarm_model.specs.Finding.{is_task, task_of}
use Rattle.swarm_model.specs.History.{replay}
use Rattle.swarm_model.specs.MachineState.{MachineState, ShowsOutput}
use Rattle.swarm_model.specs.Soundness.{IsSoundRetried, IsSound, IsSoundOutput}
use Rattle.swarm_model.specs.Views.{shown_from}
use Rattle.pool_laws.proofs.Lists.{find_is}
use Rattle.pool_laws.proofs.Answering.{by_when, by_map, by_with}
use Rattle.pool_laws.proofs.EntryPreconditions.{IsNamed, IsLost, named_is}
use Rattle.pool_laws.specs.OutputLaw.{OutputIsTold}
use Rattle.pool_laws.proofs.Rows.{task_is}
use Rattle.pool_laws.proofs.Sound.{sound_always}
use Rattle.swarm_model.specs.Output.{AreInRow, HaveSizes, AreBytesFrom, output_of, part_bytes, part_of, parts_within, chunks_within, lies_within}

-- ---- a window of two lists, one behind the other

drop-append : (n : ℕ) (xs ys : List ℕ) → drop n (xs ++ ys) ≡ drop n xs ++ drop (n - length xs) ys
drop-append n xs ys = by_order (cases_lt n (length xs))
  where
    Same : ℕ → Type 0
    Same k = drop k (xs ++ ys) ≡ drop k xs ++ drop (k - length xs) ys

    by_order : (n < length xs) ⊎ (length xs ≤ n) → Same n
    by_order (inl low) =
        let none : n - length xs ≡ 0 = omega arith in
        drop-append-le n xs ys (omega arith) ∙ sym (ap (λ (k : ℕ). drop n xs ++ drop k ys) none)
    by_order (inr high) =
        let sum : length xs + (n - length xs) ≡ n = omega arith in
        ap (λ (k : ℕ). drop k (xs ++ ys)) (sym sum) ∙ drop-append-add xs ys (n - length xs)
        ∙ sym (ap (λ (l : List ℕ). l ++ drop (n - length xs) ys) (drop_all n xs high))

take-append : (n : ℕ) (xs ys : List ℕ) → take n (xs ++ ys) ≡ take n xs ++ take (n - length xs) ys
take-append n xs ys = by_order (cases_lt n (length xs))
  where
    Same : ℕ → Type 0
    Same k = take k (xs ++ ys) ≡ take k xs ++ take (k - length xs) ys

    by_order : (n < length xs) ⊎ (length xs ≤ n) → Same n
    by_order (inl low) =
        let none : n - length xs ≡ 0 = omega arith in
        take-append-le n xs ys (omega arith) ∙ sym (ap (λ (k : ℕ). take n xs ++ take k ys) none ∙ append-nil (take n xs))
    by_order (inr high) =
        let sum : length xs + (n - length xs) ≡ n = omega arith in
        ap (λ (k : ℕ). take k (xs ++ ys)) (sym sum) ∙ take-append-add xs ys (n - length xs)
        ∙ sym (ap (λ (l : List ℕ). l ++ take (n - length xs) ys) (take_all n xs high))

-- so many bytes from a place on, of two lists
window-append : (k n : ℕ) (xs ys : List ℕ) → take k (drop n (xs ++ ys)) ≡ take k (drop n xs) ++ take (k - (length xs - n)) (drop (n - length xs) ys)
window-append k n xs ys =
    ap (take k) (drop-append n xs ys) ∙ take-append k (drop n xs) (drop (n - length xs) ys)
    ∙ ap (λ (m : ℕ). take k (drop n xs) ++ take (k - m) (drop (n - length xs) ys)) (length-drop n xs)

-- ---- one chunk

-- the numbers of a chunk of so many bytes that begins at a place
module _ (from to at size : ℕ) where
  abbrev low : ℕ
  low = max from at

  abbrev high : ℕ
  high = min to (at + size)

  -- what is taken of the chunk
  taken : (bytes : List ℕ) → length bytes ≡ size → take (high - low) (drop (from - at) bytes) ≡ take (to - low) (drop (from - at) bytes)
  taken bytes size_is =
      let many : length (drop (from - at) bytes) ≡ size - (from - at) = length-drop (from - at) bytes ∙ ap (λ (n : ℕ). n - (from - at)) size_is in
      let least : high - low ≡ min (to - low) (length (drop (from - at) bytes)) = omega (arith, many) in
      ap (λ (n : ℕ). take n (drop (from - at) bytes)) least ∙ take_min (to - low) (drop (from - at) bytes)

  -- and of those behind it
  left : to - low - (size - (from - at)) ≡ to - max from (at + size)
  left = omega arith

  behind : from - at - size ≡ from - (at + size)
  behind = omega arith

module _ (content : List ℕ → List ℕ) (from to : ℕ) where
  abbrev parts : List Chunk → List ℕ
  parts chunks = flat_map (part_bytes content) (parts_within from to chunks)

  -- the bytes of a chunk that lie there
  own_bytes : (chunk : Chunk) → length (content chunk.digest) ≡ chunk.size → lies_within from to chunk ≡ true →
      part_bytes content (part_of from to chunk) ≡ take (to - max from chunk.start) (drop (from - chunk.start) (content chunk.digest))
  own_bytes chunk size lies =
      let near = ltb-true (max from chunk.start) (min to (chunk.start + chunk.size)) lies in
      let many : (min to (chunk.start + chunk.size) - chunk.start) - (max from chunk.start - chunk.start) ≡ min to (chunk.start + chunk.size) - max from chunk.start = omega (arith, near) in
      let first : max from chunk.start - chunk.start ≡ from - chunk.start = omega arith in
      ap (λ (n : ℕ). take n (drop (max from chunk.start - chunk.start) (content chunk.digest))) many
      ∙ ap (λ (n : ℕ). take (min to (chunk.start + chunk.size) - max from chunk.start) (drop n (content chunk.digest))) first
      ∙ taken from to chunk.start chunk.size (content chunk.digest) size

  -- where none lies there
  no_bytes : (chunk : Chunk) → length (content chunk.digest) ≡ chunk.size → lies_within from to chunk ≡ false →
      [] ≡ take (to - max from chunk.start) (drop (from - chunk.start) (content chunk.digest))
  no_bytes chunk size lies =
      let far = ltb-false (max from chunk.start) (min to (chunk.start + chunk.size)) lies in
      let none : min to (chunk.start + chunk.size) - max from chunk.start ≡ 0 = omega (arith, far) in
      sym (ap (λ (n : ℕ). take n (drop (from - chunk.start) (content chunk.digest))) none)
      ∙ taken from to chunk.start chunk.size (content chunk.digest) size

  -- the parts of a chunk and of those behind it
  parts-cons : (chunk : Chunk) (chunks : List Chunk) → length (content chunk.digest) ≡ chunk.size →
      parts (chunk ∷ chunks) ≡ take (to - max from chunk.start) (drop (from - chunk.start) (content chunk.digest)) ++ parts chunks
  parts-cons chunk chunks size = by_test (lies_within from to chunk) refl
    where
      by_test : (t : Bool) → lies_within from to chunk ≡ t →
          flat_map (part_bytes content) (map (part_of from to) (cond t (chunk ∷ chunks_within from to chunks) (chunks_within from to chunks)))
          ≡ take (to - max from chunk.start) (drop (from - chunk.start) (content chunk.digest)) ++ parts chunks
      by_test true lies = ap (λ (l : List ℕ). l ++ parts chunks) (own_bytes chunk size lies)
      by_test false lies = ap (λ (l : List ℕ). l ++ parts chunks) (no_bytes chunk size lies)

  -- ---- chunks in a row

  parts_in_row : (chunks : List Chunk) (at end : ℕ) → AreInRow at chunks end → HaveSizes content chunks →
      parts chunks ≡ take (to - max from at) (drop (from - at) (output_of content chunks))
  parts_in_row [] at end row sizes = sym (ap (take (to - max from at)) (drop_all (from - at) [] (omega arith)) ∙ take_all (to - max from at) [] (omega arith))
  parts_in_row (chunk ∷ chunks) at end row sizes =
      let size : length (content chunk.digest) ≡ chunk.size = All-head (λ (c : Chunk). length (content c.digest) ≡ c.size) chunk chunks sizes in
      let rest = parts_in_row chunks (at + chunk.size) end row.1 (All-tail (λ (c : Chunk). length (content c.digest) ≡ c.size) chunk chunks sizes) in
      let bytes : List ℕ = content chunk.digest in
      let more : List ℕ = output_of content chunks in
      parts-cons chunk chunks size
      ∙ ap (λ (n : ℕ). take (to - max from n) (drop (from - n) bytes) ++ parts chunks) row.0
      ∙ ap (λ (l : List ℕ). take (to - max from at) (drop (from - at) bytes) ++ l) rest
      ∙ sym (window-append (to - max from at) (from - at) bytes more
      ∙ ap (λ (n : ℕ). take (to - max from at) (drop (from - at) bytes) ++ take (to - max from at - (n - (from - at))) (drop (from - at - n) more)) size
      ∙ ap (λ (n : ℕ). take (to - max from at) (drop (from - at) bytes) ++ take n (drop (from - at - chunk.size) more)) (left from to at chunk.size)
      ∙ ap (λ (n : ℕ). take (to - max from at) (drop (from - at) bytes) ++ take (to - max from (at + chunk.size)) (drop n more)) (behind from to at chunk.size))

-- the parts of an output between two places are its bytes
pub parts_are_bytes : (offset most : ℕ) (chunks : List Chunk) (end : ℕ) → AreInRow 0 chunks end → AreBytesFrom offset most chunks (parts_within offset (offset + most) chunks)
parts_are_bytes offset most chunks end row content sizes =
    let many : offset + most - max offset 0 ≡ most = omega arith in
    let first : offset - 0 ≡ offset = omega arith in
    parts_in_row content offset (offset + most) chunks 0 end row sizes
    ∙ ap (λ (n : ℕ). take n (drop (offset - 0) (output_of content chunks))) many
    ∙ ap (λ (n : ℕ). take most (drop n (output_of content chunks))) first

-- ---- the output that a task shows

module _ (kept : MachineState) (o : IsSound kept.pool) where
  abbrev s : PoolState
  s = kept.pool

  -- chunks that are in a row from the first byte on
  abbrev StandInRow : List Chunk → Type 0
  StandInRow chunks = (end : ℕ) × AreInRow 0 chunks end

  row_shown : (r : Option TaskRow) → IfSome r (λ x. IfSome x.attempt IsSoundOutput) → StandInRow (option_map_or (λ attempt. attempt.chunks) (option_and_then (λ row. row.attempt) r) [])
  row_shown None a = (0, refl)
  row_shown (Some x) a = by_attempt x.attempt a
    where
      by_attempt : (attempt : Option Attempt) → IfSome attempt IsSoundOutput → StandInRow (option_map_or (λ r. r.chunks) attempt [])
      by_attempt None h = (0, refl)
      by_attempt (Some attempt) h = (attempt.length, h.in_row)

  found_among : (n : ℕ) → IfSome (task_of s n) (λ x. IfSome x.attempt IsSoundOutput)
  found_among n = by_row (task_of s n) refl
    where
      by_row : (r : Option TaskRow) → task_of s n ≡ r → IfSome r (λ x. IfSome x.attempt IsSoundOutput)
      by_row None is = tt
      by_row (Some x) is = (task_is s o x (find_is (is_task n) s.tasks x is).among).output

  chunks_in_row : (x : TaskRow) → IfSome x.attempt IsSoundOutput → StandInRow (chunks_shown s x)
  chunks_in_row x a = row_shown (shown_from s x) (by_source x.source)
    where
      by_source : (source : Option ℕ) → IfSome (option_map_or (task_of s) source (Some x)) (λ y. IfSome y.attempt IsSoundOutput)
      by_source None = a
      by_source (Some n) = found_among n

  -- the output of a row that a try names is sound
  shown_sound : {number try_no : ℕ} (x : TaskRow) → IsNamed s number try_no x → IfSome x.attempt IsSoundOutput
  shown_sound x f = by_shown f.shows
    where
      of_lost : (r : Option Retried) (lost : Retried) → r ≡ Some lost → IfSome r (IsSoundRetried s f.task.request.task_slices) → IsSoundOutput lost.attempt
      of_lost None lost e h = absurd (cc (e))
      of_lost (Some l) lost e h = subst (λ (z : Retried). IsSoundOutput z.attempt) (same_Some _ _ e) h.output

      by_shown : (f.task ≡ x) ⊎ IsLost f.task x → IfSome x.attempt IsSoundOutput
      by_shown (inl same) = subst (λ (y : TaskRow). IfSome y.attempt IsSoundOutput) same (task_is s o f.task f.among).output
      by_shown (inr l) = subst (λ (y : TaskRow). IfSome y.attempt IsSoundOutput) l.shows (of_lost f.task.retried l.lost l.retried (task_is s o f.task f.among).retried)

  -- the parts of an output are the bytes that were asked for
  pub tell_output : (who : List ℕ) (moment : ℕ) (request : Request) → ShowsOutput kept request (decide s who moment request).reply
  tell_output who moment (ask.Stdout number try_no offset most) =
      by_with Shows (named_task s number try_no) rule.NoTask (stdout_of s who offset most) tt (λ x named.
      by_when Shows (not (may s who permission.ListTasks x)) (denied s permission.ListTasks) (output_between s offset (offset + most) x.state (chunks_shown s x)) (λ t. tt) (λ t.
      by_map Shows output_gone (find (lacks_chunk s) (chunks_within offset (offset + most) (chunks_shown s x))) (reply_only (reply.Stdout x.state (parts_within offset (offset + most) (chunks_shown s x)))) (λ c e. tt) (λ e.
      λ task is. let row = chunks_in_row x (shown_sound x (named_is s number try_no x named)) in
      subst (λ (y : TaskRow). AreBytesFrom offset most (chunks_shown s y) (parts_within offset (offset + most) (chunks_shown s x))) (same_Some _ _ (sym named ∙ is))
      (parts_are_bytes offset most (chunks_shown s x) row.0 row.1))))
    where
      Shows : Decision → Type 0
      Shows d = ShowsOutput kept (ask.Stdout number try_no offset most) d.reply
  tell_output who moment request = tt

-- so does every pool that a log leads to
pub output_told : OutputIsTold
output_told settings log caused who moment pass number try_no offset most task state parts named told =
    let kept : MachineState = record { start = empty_base settings; pool = replay (opening settings) log; log = log; ready = None; held = nothing_held } in
    subst (ShowsOutput kept (ask.Stdout number try_no offset most)) told (tell_output kept (sound_always settings log caused) who moment (ask.Stdout number try_no offset most)) task named
