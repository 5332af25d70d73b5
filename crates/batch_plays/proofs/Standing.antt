-- What holds of a batch and a pool whatever turns come.
use Rattle.std.proofs.Common.{◌≡◌, ◌⊎◌, inl, inr, ℕ, ◌+◌, ◌≤◌, ◌<◌, ◌&&◌, not, Bool, true, false, List, [], ◌∷◌, ◌++◌, length, Option, Some, None, refl, ap, sym, ◌∙◌, subst, arith, append_assoc, append-nil, true≢false}
use Rattle.std.specs.Prelude.{⊤, slice_get, MatchOption, if◌then◌else◌}
use Rattle.std.specs.Bool.{MatchBool}
use Rattle.std.specs.List.{list_any}
use Rattle.std.specs.Option.{option_map_or}
use Rattle.std.proofs.lemmas.Bool.{and_parts}
use Rattle.std.proofs.lemmas.List.Folds.{list_any-append}
use Rattle.std.proofs.lemmas.Option.{same_Some}
use Rattle.dimensions.specs.Alike.{same}
use Rattle.dimensions.specs.Rules.{is_empty}
use Rattle.batch_plays.specs.Types.{NewTask, Entry, Settings, Reply, Request, RefusalCode, Told, Asked, Mark}
use Rattle.swarm_model.specs.declared.reply.Reply.TheVariants as reply
use Rattle.swarm_model.specs.declared.request.Request.TheVariants as ask
use Rattle.swarm_model.specs.Bases.{Base}
use Rattle.swarm_model.specs.History.{IsCaused}
use Rattle.swarm_model.specs.Reuse.{sent}
use Rattle.swarm_model.specs.Soundness.{IsSound}
use Rattle.pool_laws.proofs.Alike.{is_same}
use Rattle.pool_laws.proofs.Lists.{Among, among_either}
use Rattle.log_laws.specs.Sent.{sends_as}
use Rattle.server_calls.specs.declared.told.Told.TheVariants as told
use Rattle.swarm_history.specs.Calls.{first_call}
use Rattle.swarm_batch.specs.declared.mark.Mark.TheVariants as mark
use Rattle.swarm_batch.specs.Batches.{BatchValue, AreMarks, next_line, uuid_of}
use Rattle.swarm_batch.specs.Marks.{is_mark, progress_text}
use Rattle.swarm_batch.specs.Told.{told_mark, is_again}
use Rattle.swarm_batch.proofs.Telling.{one_progress}
use Rattle.swarm_batch.proofs.Walking.{more_marks}
use Rattle.batch_plays.specs.declared.asking.Asking.{Asking}
use Rattle.batch_plays.specs.declared.asking.Asking.TheVariants as asking
use Rattle.batch_plays.specs.declared.saved_batch.SavedBatch.{SavedBatch}
use Rattle.batch_plays.specs.declared.turn.BatchTurn.{BatchTurn}
use Rattle.batch_plays.specs.declared.turn.BatchTurn.TheVariants as turn
use Rattle.batch_plays.specs.Asking.{asking_of, told_of}
use Rattle.batch_plays.specs.Once.{IsTaskOf}
use Rattle.batch_plays.specs.Saving.{saved_mark, marked, text_at, ReadsAgain}
use Rattle.batch_plays.specs.Turns.{IsCalled, IsTold, SendsLine, SendsNext, LosesReply, OfNext, Stops, AsksPool, AsksAsOther, may_ask, Turned, Played}
use Rattle.batch_plays.specs.World.{World}
use Rattle.batch_plays.proofs.Entries.{IsNew, at_end}
use Rattle.batch_plays.proofs.Calls.{CallTells, call_tells}
use Rattle.batch_plays.proofs.Asked.{line_task, has_uuid}
use Rattle.batch_plays.proofs.Marking.{IsNext, next_is, TellsTask, MarkIs, mark_told, mark_good}

any_left : {A : Type 0} (test : A → Bool) (xs ys : List A) → list_any test xs ≡ true → list_any test (xs ++ ys) ≡ true
any_left test xs ys e = list_any-append test xs ys ∙ grind (arith, e)

-- A batch of a caller, over a log that began here.
module _ (settings : Settings) (who : List ℕ) (b : BatchValue) (start : Base) (old : List Entry) where
  -- ---- what marks mean

  -- a mark of a task stands for what the log has
  abbrev pub IsMeant : List Entry → ℕ → Mark → Type 0
  IsMeant log line (mark.Task place t) = (place ≡ 0) × (list_any (sends_as who (uuid_of b.name (line + 1)) t) log ≡ true)
  IsMeant log line (mark.Refused code) = ⊤

  abbrev pub AreMeant : List Entry → List Mark → Type 0
  AreMeant log marks = (line : ℕ) (m : Mark) → slice_get marks line ≡ Some m → IsMeant log line m

  -- the text is the progress of marks that are meant
  pub record IsMeantText (log : List Entry) (text : List ℕ) : Type 0 where
    pub marks : List Mark
    pub are : AreMarks (length b.lines) marks
    pub written : text ≡ progress_text b.head marks
    pub meant : AreMeant log marks

  -- what a mark says stays true as the log grows
  meant_still : (log more : List Entry) (marks : List Mark) → AreMeant log marks → AreMeant (log ++ more) marks
  meant_still log more marks meant line (mark.Task place t) e = (let h = meant line (mark.Task place t) e in (h.0, any_left (sends_as who (uuid_of b.name (line + 1)) t) log more h.1))
  meant_still log more marks meant line (mark.Refused code) e = tt

  text_still : (log more : List Entry) (text : List ℕ) → IsMeantText log text → IsMeantText (log ++ more) text
  text_still log more text t = record { marks = t.marks; are = t.are; written = t.written; meant = meant_still log more t.marks t.meant }

  meant_more : (log : List Entry) (marks : List Mark) (m : Mark) → AreMeant log marks → IsMeant log (length marks) m → AreMeant log (marks ++ m ∷ [])
  meant_more log marks m meant new line x e = by_end (at_end marks m x line e)
    where
      by_end : (slice_get marks line ≡ Some x) ⊎ ((line ≡ length marks) × (m ≡ x)) → IsMeant log line x
      by_end (inl h) = meant line x h
      by_end (inr h) = subst (λ (y : Mark). IsMeant log line y) h.1 (subst (λ (i : ℕ). IsMeant log i m) (sym h.0) new)

  -- ---- what stands

  abbrev pub IsOfLine : Entry → Type 0
  IsOfLine e = (t : ℕ) (task : NewTask) → IsNew e who t task → (line : ℕ) × IsTaskOf b line task

  -- a log grew, and stays one that may be; what it has of the caller then are tasks of lines
  pub record GrowsWell (log new : List Entry) : Type 0 where
    pub caused : IsCaused start.rows new
    pub added : List Entry
    pub log_is : new ≡ log ++ added
    pub own : (e : Entry) → Among e added → IsOfLine e

  pub record Stands (w : World) : Type 0 where
    pub start_is : w.start ≡ start
    pub batch_is : w.files.batch ≡ record b { marks = w.files.batch.marks }
    pub log : GrowsWell old w.log
    pub are : AreMarks (length b.lines) w.files.batch.marks
    pub marks : AreMeant w.log w.files.batch.marks
    pub saved : IsMeantText w.log w.files.saved
    pub before : IsMeantText w.log w.files.before

  -- one growth after another
  grown_twice : (log new : List Entry) → GrowsWell old log → GrowsWell log new → GrowsWell old new
  grown_twice log new g h = record {
    caused = h.caused;
    added = g.added ++ h.added;
    log_is = h.log_is ∙ ap (λ (l : List Entry). l ++ h.added) g.log_is ∙ append_assoc old g.added h.added;
    own = λ e a. by_part e (among_either e g.added h.added a);
  }
    where
      by_part : (e : Entry) → Among e g.added ⊎ Among e h.added → IsOfLine e
      by_part e (inl a) = g.own e a
      by_part e (inr a) = h.own e a

  grown : (w : World) (new : List Entry) → Stands w → GrowsWell w.log new → Stands (record w { log = new })
  grown w new i g =
      (let text : (s : List ℕ) → IsMeantText w.log s → IsMeantText new s = λ s t. subst (λ (l : List Entry). IsMeantText l s) (sym g.log_is) (text_still w.log g.added s t) in
      record {
        start_is = i.start_is;
        batch_is = i.batch_is;
        log = grown_twice w.log new i.log g;
        are = i.are;
        marks = subst (λ (l : List Entry). AreMeant l w.files.batch.marks) (sym g.log_is) (meant_still w.log g.added w.files.batch.marks i.marks);
        saved = text w.files.saved i.saved;
        before = text w.files.before i.before;
      })

  -- ---- a line is marked

  lines_is : (w : World) → Stands w → w.files.batch.lines ≡ b.lines
  lines_is w i = ap (λ (x : BatchValue). x.lines) i.batch_is

  head_is : (w : World) → Stands w → w.files.batch.head ≡ b.head
  head_is w i = ap (λ (x : BatchValue). x.head) i.batch_is

  mark_stands : (w : World) (m : Mark) → Stands w → length w.files.batch.marks < length b.lines → is_mark m ≡ true → IsMeant w.log (length w.files.batch.marks) m → Stands (record w { files = saved_mark w.files m })
  mark_stands w m i low good new =
      (let are : AreMarks (length b.lines) (w.files.batch.marks ++ m ∷ []) = more_marks (length b.lines) w.files.batch.marks m i.are low good in
      let meant : AreMeant w.log (w.files.batch.marks ++ m ∷ []) = meant_more w.log w.files.batch.marks m i.marks new in
      record {
        start_is = i.start_is;
        batch_is = ap (λ (x : BatchValue). record x { marks = w.files.batch.marks ++ m ∷ [] }) i.batch_is;
        log = i.log;
        are = are;
        marks = meant;
        saved = record { marks = w.files.batch.marks ++ m ∷ []; are = are; written = ap (λ (h : List ℕ). progress_text h (w.files.batch.marks ++ m ∷ [])) (head_is w i); meant = meant };
        before = i.saved;
      })

  marked_stands : (w : World) (t : Told) → Stands w → length w.files.batch.marks < length b.lines → ((m : Mark) → told_mark t ≡ Some m → IsMeant w.log (length w.files.batch.marks) m) → Stands (record w { files = marked w.files t })
  marked_stands w t i low new = by_again (is_again t) refl
    where
      by_mark : is_again t ≡ false → (o : Option Mark) → told_mark t ≡ o → Stands (record w { files = option_map_or (saved_mark w.files) o w.files })
      by_mark a None is = i
      by_mark a (Some m) is = mark_stands w m i low (mark_good t m a is) (new m is)

      by_again : (a : Bool) → is_again t ≡ a → Stands (record w { files = if a then w.files else option_map_or (saved_mark w.files) (told_mark t) w.files })
      by_again true is = i
      by_again false is = by_mark is (told_mark t) refl

  -- ---- the pool is asked

  module _ (sound : IsSound start.rows) (few : length b.lines ≤ 4096) (unsent : (line : ℕ) → 1 ≤ line → line ≤ length b.lines → sent start.rows who (uuid_of b.name line) ≡ None) where
    -- what the reply to a line tells of it
    record LineSent (w : World) (new : List Entry) (t : Told) : Type 0 where
      log : GrowsWell w.log new
      meant : (m : Mark) → told_mark t ≡ Some m → IsMeant new (length w.files.batch.marks) m

    line_refused : (w : World) (new : List Entry) (t : Told) (code : RefusalCode) → Stands w → new ≡ w.log → t ≡ told.No code [] → LineSent w new t
    line_refused w new t code i is told_is = record {
      log = record { caused = subst (IsCaused start.rows) (sym is) i.log.caused; added = []; log_is = is ∙ sym (append-nil w.log); own = λ e a. elim a [ ] };
      meant = λ m e. subst (IsMeant new (length w.files.batch.marks)) (same_Some (mark.Refused code) m (sym (ap told_mark told_is) ∙ e)) tt;
    }

    line_asked : (w : World) (new : List Entry) (t : Told) (line moment : ℕ) (request : Request) (task : NewTask) (answered : Reply) → Stands w → line ≡ length w.files.batch.marks + 1 →
        request ≡ ask.New task → IsTaskOf b line task → IsCalled start (first_call who moment request) w.log new answered → t ≡ told_of answered → LineSent w new t
    line_asked w new t line moment request task answered i number request_is is_task called told_is = record {
      log = record { caused = tells.caused; added = tells.added; log_is = tells.log; own = own };
      meant = λ m e. by_mark m (mark_told answered m (sym (ap told_mark told_is) ∙ e));
    }
      where
        tells : CallTells start who request w.log new answered
        tells = call_tells start sound who moment request w.log new answered called

        own : (e : Entry) → Among e tells.added → IsOfLine e
        own e a u other n =
            (let asked = tells.own e a who u other n in
            let same_task : task ≡ other = (let both : ask.New task ≡ ask.New other = sym request_is ∙ asked.1 in cc) in
            (line, subst (IsTaskOf b line) same_task is_task))

        by_mark : (m : Mark) → MarkIs answered m → IsMeant new (length w.files.batch.marks) m
        by_mark (mark.Refused code) h = tt
        by_mark (mark.Task place u) h =
            (let no_uuid = unsent line is_task.from is_task.to in
            let held = tells.told task u h.state request_is h.is (subst (λ (x : List ℕ). is_empty x ≡ false) (sym is_task.uuid) (has_uuid b.name line)) (subst (λ (x : List ℕ). sent start.rows who x ≡ None) (sym is_task.uuid) no_uuid) in
            let under : task.request_uuid ≡ uuid_of b.name (length w.files.batch.marks + 1) = is_task.uuid ∙ ap (uuid_of b.name) number in
            (h.place_is, subst (λ (x : List ℕ). list_any (sends_as who x u) new ≡ true) under held))

    line_sent : (w : World) (new : List Entry) (t : Told) (line moment : ℕ) → Stands w → next_line w.files.batch ≡ Some line → SendsLine settings who w.start w.files.batch line moment w.log new t → LineSent w new t
    line_sent w new t line moment i next s = by_asking (asking_of settings who s.body) refl s.tells
      where
        n : IsNext w.files.batch line
        n = next_is w.files.batch line next

        by_task : (a : Asked) (task : NewTask) → a.request ≡ ask.New task → IsTaskOf w.files.batch line task → (answered : Reply) → IsCalled w.start (first_call who moment a.request) w.log new answered → t ≡ told_of answered → LineSent w new t
        by_task a task request_is is_task answered called told_is =
            line_asked w new t line moment a.request task answered i n.number request_is
            (subst (λ (x : BatchValue). IsTaskOf (record x { marks = b.marks }) line task) i.batch_is
            (record { from = is_task.from; to = is_task.to; value = is_task.value; body = is_task.body; reads = is_task.reads; uuid = is_task.uuid }))
            (subst (λ (x : Base). IsCalled x (first_call who moment a.request) w.log new answered) i.start_is called) told_is

        by_asking : (a : Asking) → asking_of settings who s.body ≡ a → IsTold who w.start moment a w.log new t → LineSent w new t
        by_asking (asking.Refused code) is h = line_refused w new t code i h.0 h.1
        by_asking (asking.Asks a) is h =
            (let task = line_task settings who w.files.batch line s.body a (let k = n.number in omega (arith, k)) (let k = n.number in let l = n.within in omega (arith, k, l)) s.reads is in
            by_task a task.0 task.1 task.2 h.0 h.1 h.2)

    low_of : (w : World) (line : ℕ) → Stands w → next_line w.files.batch ≡ Some line → length w.files.batch.marks < length b.lines
    low_of w line i next = subst (λ (l : List (List ℕ)). length w.files.batch.marks < length l) (lines_is w i) (next_is w.files.batch line next).within

    -- ---- the turns

    sent_stands : (w v : World) (moment line : ℕ) → Stands w → next_line w.files.batch ≡ Some line → SendsNext settings who w moment v line → Stands v
    sent_stands w v moment line i next s =
        (let g = line_sent w v.log s.told line moment i next s.sent in
        subst Stands (sym s.is) (marked_stands (record w { log = v.log }) s.told (grown w v.log i g.log) (low_of w line i next) g.meant))

    lost_stands : (w v : World) (moment line : ℕ) → Stands w → next_line w.files.batch ≡ Some line → LosesReply settings who w moment v line → Stands v
    lost_stands w v moment line i next s = (let g = line_sent w v.log s.told line moment i next s.sent in subst Stands (sym s.is) (grown w v.log i g.log))

    next_stands : (w v : World) (P : ℕ → Type 0) → Stands w → ((line : ℕ) → next_line w.files.batch ≡ Some line → P line → Stands v) → OfNext w v P → Stands v
    next_stands w v P i some h = by_next (next_line w.files.batch) refl h
      where
        by_next : (o : Option ℕ) → next_line w.files.batch ≡ o → MatchOption o (v ≡ w) P → Stands v
        by_next None is e = subst Stands (sym e) i
        by_next (Some line) is p = some line is p

    text_is_meant : (saved : Bool) (w : World) → Stands w → IsMeantText w.log (text_at saved w.files)
    text_is_meant true w i = i.saved
    text_is_meant false w i = i.before

    stop_stands : (w v : World) (saved : Bool) → Stands w → Stops saved w v → Stands v
    stop_stands w v saved i s = subst Stands (sym s.is) (subst (λ (f : SavedBatch). Stands (record w { files = f })) (sym s.reads.is) stands)
      where
        text : IsMeantText w.log (text_at saved w.files)
        text = text_is_meant saved w i

        new : List Mark
        new = v.files.batch.marks

        are : AreMarks (length b.lines) new
        are = subst (λ (l : List (List ℕ)). AreMarks (length l) new) (lines_is w i) s.reads.reads.0.0

        written : text_at saved w.files ≡ progress_text b.head new
        written = s.reads.reads.0.1 ∙ ap (λ (h : List ℕ). progress_text h new) (head_is w i)

        same_marks : text.marks ≡ new
        same_marks = one_progress (length b.lines) b.head text.marks new few text.are are (sym text.written ∙ written)

        stands : Stands (record w { files = record w.files { batch = v.files.batch; saved = text_at saved w.files } })
        stands = record {
          start_is = i.start_is;
          batch_is = s.reads.reads.1 ∙ ap (λ (x : BatchValue). record x { marks = new }) i.batch_is;
          log = i.log;
          are = are;
          marks = subst (AreMeant w.log) same_marks text.meant;
          saved = text;
          before = i.before;
        }

    other_stands : (w v : World) (other : List ℕ) (request : Request) (bytes : List ℕ) (moment : ℕ) → Stands w → AsksAsOther settings who w other request bytes moment v → Stands v
    other_stands w v other request bytes moment i h = by_test (may_ask settings request bytes && not (same other who)) refl h
      where
        by_call : not (same other who) ≡ true → AsksPool w other request moment v → Stands v
        by_call apart a =
            (let tells : CallTells start other request w.log v.log a.answered = call_tells start sound other moment request w.log v.log a.answered (subst (λ (x : Base). IsCalled x (first_call other moment request) w.log v.log a.answered) i.start_is a.called) in
            let g : GrowsWell w.log v.log = record {
              caused = tells.caused;
              added = tells.added;
              log_is = tells.log;
              own = λ e x t task n. absurd (true≢false (sym apart ∙ ap not (is_same other who (sym (tells.own e x who t task n).0))));
            } in
            subst Stands (sym a.is) (grown w v.log i g))

        by_test : (c : Bool) → (may_ask settings request bytes && not (same other who)) ≡ c → MatchBool c (AsksPool w other request moment v) (v ≡ w) → Stands v
        by_test true is a = by_call (and_parts (may_ask settings request bytes) (not (same other who)) is).1 a
        by_test false is e = subst Stands (sym e) i

    pub turned : (w v : World) (t : BatchTurn) → Stands w → Turned settings who w t v → Stands v
    turned w v (turn.Send moment) i h = next_stands w v (SendsNext settings who w moment v) i (λ line next s. sent_stands w v moment line i next s) h
    turned w v (turn.Lost moment) i h = next_stands w v (LosesReply settings who w moment v) i (λ line next s. lost_stands w v moment line i next s) h
    turned w v (turn.Stop saved) i h = stop_stands w v saved i h
    turned w v (turn.Other other request bytes moment) i h = other_stands w v other request bytes moment i h

    pub played : (turns : List BatchTurn) (w v : World) → Stands w → Played settings who w turns v → Stands v
    played [] w v i h = subst Stands (sym h) i
    played (t ∷ turns) w v i h = played turns h.0 v (turned w h.0 t i h.1) h.2
