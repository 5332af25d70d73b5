-- Each task of a batch is sent once.
use Rattle.std.proofs.Common.{◌≡◌, ◌⊎◌, inl, inr, ℕ, ◌+◌, ◌-◌, ◌*◌, ◌^◌, ◌≤◌, ◌<◌, true, false, List, [], ◌∷◌, ◌++◌, length, count_by, Option, Some, None, refl, ap, sym, ◌∙◌, subst, arith, append-nil}
use Rattle.std.specs.Prelude.{slice_get}
use Rattle.std.specs.List.{list_any}
use Rattle.std.proofs.lemmas.List.{append_cancel_left}
use Rattle.batch_plays.specs.Types.{NewTask, Entry, Settings, Mark}
use Rattle.swarm_model.specs.declared.entry.EntryKind.TheVariants as kind
use Rattle.swarm_model.specs.BaseRules.{IsBase}
use Rattle.swarm_model.specs.Bases.{Base}
use Rattle.swarm_model.specs.History.{IsCaused, IsLegal}
use Rattle.pool_laws.proofs.Lists.{Among, among_either}
use Rattle.log_laws.specs.Runs.{HasEntry}
use Rattle.log_laws.specs.Sent.{sends, sends_as}
use Rattle.log_laws.proofs.Once.{at_most_once}
use Rattle.swarm_batch.specs.declared.mark.Mark.TheVariants as mark
use Rattle.swarm_batch.specs.Batches.{BatchValue, AreMarks, next_line, uuid_of}
use Rattle.swarm_batch.proofs.Uuids.{uuids_are_apart}
use Rattle.batch_plays.specs.declared.saved_batch.SavedBatch.{SavedBatch}
use Rattle.batch_plays.specs.declared.turn.BatchTurn.{BatchTurn}
use Rattle.batch_plays.specs.Once.{IsTaskOf, Accepts, IsAccepted, IsUnsent, AreSentOnce, EachOnce}
use Rattle.batch_plays.specs.Turns.{Played}
use Rattle.batch_plays.specs.World.{World, new_files}
use Rattle.batch_plays.proofs.Entries.{IsNew, IsSent, among_of, contains_of, within, none_at, any_among, sent_as, sent_counted}
use Rattle.batch_plays.proofs.Asked.{has_uuid}
use Rattle.batch_plays.proofs.Marking.{none_next}
use Rattle.batch_plays.proofs.Standing.{IsMeant, AreMeant, IsMeantText, GrowsWell, Stands, played}

module _ (settings : Settings) (who : List ℕ) (b : BatchValue) (start : Base) (old : List Entry)
    (base : IsBase start.rows.settings start.count start.rows) (legal : IsLegal start.rows old) (few : length b.lines ≤ 4096) (new : IsUnsent who start old b) where
  begun : (w : World) → w.start ≡ start → w.log ≡ old → w.files ≡ new_files b → Stands settings who b start old w
  begun w start_is log_is files_is =
      (let none : AreMeant settings who b start old w.log b.marks = λ line m e. absurd (none_at m line (subst (λ (ms : List Mark). slice_get ms line ≡ Some m) new.none_done e)) in
      let good : AreMarks (length b.lines) b.marks = subst (AreMarks (length b.lines)) (sym new.none_done) (record { few = omega arith; good = refl }) in
      let text : IsMeantText settings who b start old w.log (new_files b).saved = record { marks = b.marks; are = good; written = refl; meant = none } in
      let stands : Stands settings who b start old (record w { files = new_files b }) = record {
        start_is = start_is;
        batch_is = refl;
        log = record { caused = subst (IsCaused start.rows) (sym log_is) legal.caused; added = []; log_is = log_is ∙ sym (append-nil old); own = λ e a. elim a [ ] };
        are = good;
        marks = none;
        saved = text;
        before = text;
      } in
      subst (λ (f : SavedBatch). Stands settings who b start old (record w { files = f })) (sym files_is) stands)

  module _ (v : World) (i : Stands settings who b start old v) where
    at_most : (line : ℕ) → count_by (sends who (uuid_of b.name line)) v.log ≤ 1
    at_most line = at_most_once who (uuid_of b.name line) (has_uuid b.name line) start.rows v.log base.sound i.log.caused

    -- the line of a task whose uuid is a line's
    same_line : (line other : ℕ) (task : NewTask) → line ≤ length b.lines → IsTaskOf b other task → task.request_uuid ≡ uuid_of b.name line → IsTaskOf b line task
    same_line line other task to is uuid =
        (let apart = uuids_are_apart b.name b.name other line (omega (arith, is.to, few)) (omega (arith, to, few)) (sym is.uuid ∙ uuid) in
        subst (λ (n : ℕ). IsTaskOf b n task) apart.1 is)

    -- a task of the caller under the uuid of a line was not there before
    is_added : (line : ℕ) (t : ℕ) (e : Entry) → 1 ≤ line → line ≤ length b.lines → sends_as who (uuid_of b.name line) t e ≡ true → Among e v.log → Among e i.log.added
    is_added line t e from to sends_it a = by_part (among_either e old i.log.added (subst (Among e) i.log.log_is a))
      where
        by_part : Among e old ⊎ Among e i.log.added → Among e i.log.added
        by_part (inl h) = (let one = sent_counted who (uuid_of b.name line) t old e h sends_it in let none = new.entries line from to in absurd (omega (arith, one, none)))
        by_part (inr h) = h

    line_accepted : (line place t : ℕ) → 1 ≤ line → slice_get v.files.batch.marks (line - 1) ≡ Some (mark.Task place t) → (place ≡ 0) × IsAccepted who b v.log line t
    line_accepted line place t from e =
        (let meant = i.marks (line - 1) (mark.Task place t) e in
        let at : line - 1 + 1 ≡ line = omega arith in
        let held : list_any (sends_as who (uuid_of b.name line) t) v.log ≡ true = subst (λ (n : ℕ). list_any (sends_as who (uuid_of b.name n) t) v.log ≡ true) at meant.1 in
        let found = any_among (sends_as who (uuid_of b.name line) t) v.log held in
        let one = sent_counted who (uuid_of b.name line) t v.log found.found found.among found.passes in
        let most = at_most line in
        let low = within v.files.batch.marks (line - 1) (mark.Task place t) e in
        let to : line ≤ length b.lines = (let k = i.are.few in omega (arith, low, k)) in
        let s : IsSent who (uuid_of b.name line) t found.found = sent_as who (uuid_of b.name line) t found.found found.passes in
        let own = i.log.own found.found (is_added line t found.found from to found.passes found.among) t s.task s.new in (
          meant.0,
          record {
            once = omega (arith, one, most);
            task = s.task;
            accepts = record { state = s.new.state; slice = s.new.slice; source = s.new.source; entry = record { entry = found.found; among = contains_of v.log found.found found.among; is = s.new.is } };
            is_line = same_line line own.0 s.task to own.1 s.uuid_is;
          },
        ))

    added_own : (more : List Entry) (t : ℕ) (task : NewTask) → v.log ≡ old ++ more → Accepts who more t task → (line : ℕ) × IsTaskOf b line task
    added_own more t task is a =
        (let same : more ≡ i.log.added = append_cancel_left old more i.log.added (sym is ∙ i.log.log_is) in
        let among : Among a.entry.entry i.log.added = subst (Among a.entry.entry) same (among_of more a.entry.entry a.entry.among) in
        i.log.own a.entry.entry among t task (record { state = a.state; slice = a.slice; source = a.source; is = a.entry.is }))

    done_all : next_line v.files.batch ≡ None → length v.files.batch.marks ≡ length b.lines
    done_all e =
        (let all = none_next v.files.batch e in
        let lines : length v.files.batch.lines ≡ length b.lines = ap (λ (x : BatchValue). length x.lines) i.batch_is in
        let k = i.are.few in
        omega (arith, all, lines, k))

    pub sent_once : AreSentOnce who old v.log b v.files.batch
    sent_once = record { at_most = at_most; marked = line_accepted; added = added_own; all_done = done_all }

pub each_once : EachOnce
each_once settings who old new turns b base legal few files unsent plays =
    sent_once settings who b old.start old.log base legal few unsent new
    (played settings who b old.start old.log base.sound few unsent.rows turns old new (begun settings who b old.start old.log base legal few unsent old refl refl files) plays)
