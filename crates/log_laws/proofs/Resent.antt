-- What a reply to a task under a uuid tells.
use Rattle.std.proofs.Common.{◌≡◌, ◌⊎◌, inl, inr, ℕ, ◌+◌, ◌==◌, ◌&&◌, List, [], ◌∷◌, ◌++◌, refl, sym, ap, ◌∙◌, subst, true, false, Bool, Option, Some, None, option_map, option_to_list, is_some, cond, length, find, count_by, arith}
use Rattle.std.specs.Prelude.{nat_le}
use Rattle.std.specs.List.{list_any}
use Rattle.std.proofs.lemmas.Bool.{cond_both, and_from}
use Rattle.std.proofs.lemmas.List.Folds.{list_any-append}
use Rattle.dimensions.specs.Alike.{same}
use Rattle.dimensions.specs.Rules.{is_empty}
use Rattle.log_laws.specs.Types.{NewTask, TaskState, TaskRow, PoolState, Entry, EntryKind, Decision, Reply}
use Rattle.task_props.specs.Alike.{same_task}
use Rattle.swarm_model.specs.declared.entry.EntryKind.TheVariants as kind
use Rattle.swarm_model.specs.declared.reply.Reply.TheVariants as reply
use Rattle.swarm_model.specs.Answers.{new_task, resubmitted, file_missing, tasks_full, reuse_outcome, accepted, accepted_at, new_task_decision, entry_at}
use Rattle.swarm_model.specs.Blobs.{missing_file, inputs_of}
use Rattle.swarm_model.specs.History.{replay}
use Rattle.swarm_model.specs.Reuse.{sent, is_sent, reuse}
use Rattle.swarm_model.specs.Slices.{admit}
use Rattle.pool_laws.proofs.Answering.{by_when, by_map}
use Rattle.pool_laws.proofs.Lists.{Found, find_is}
use Rattle.pool_laws.proofs.Alike.{same_self}
use Rattle.pool_laws.proofs.UuidLaw.{passes_keyed, sent_find, unsent_new}
use Rattle.log_laws.specs.Sent.{sends, sends_kind_as, sends_as, SentBefore, RepliesAreTold}
use Rattle.log_laws.proofs.Once.{HasRow, came, quiet}

-- the row that a caller sent under a uuid has the key
pub sent_row : (s : PoolState) (who uuid : List ℕ) (named : is_empty uuid ≡ false) (row : TaskRow) → sent s who uuid ≡ Some row → HasRow who uuid named s row.no
sent_row s who uuid named row e =
    let f : Found (is_sent who uuid) s.tasks row = find_is (is_sent who uuid) s.tasks row (sym (sent_find s who uuid named) ∙ e) in
    record { row = row; among = f.among; keyed = passes_keyed row who uuid named f.passes; numbered = refl }

-- where none is found, there is none
unsent_row : (s : PoolState) (who uuid : List ℕ) (named : is_empty uuid ≡ false) (t : ℕ) → sent s who uuid ≡ None → HasRow who uuid named s t → ⊥
unsent_row s who uuid named t none h = unsent_new s who uuid none h.row h.among (who, uuid) h.keyed refl refl

-- a decision that tells a task has its row, or adds the entry that accepts it
abbrev Tells : PoolState → (who uuid : List ℕ) → is_empty uuid ≡ false → ℕ → TaskState → Decision → Type 0
Tells s who uuid named t state d = d.reply ≡ reply.New t state → HasRow who uuid named s t ⊎ ((k : EntryKind) × (d.entry ≡ Some k) × (sends_kind_as who uuid t k ≡ true))

abbrev number : Reply → ℕ
number (reply.New t state) = t
number other = 0

module _ (s : PoolState) (who : List ℕ) (request : NewTask) (named : is_empty request.request_uuid ≡ false) (t : ℕ) (state : TaskState) where
  abbrev P : Decision → Type 0
  P d = Tells s who request.request_uuid named t state d

  found : (row : TaskRow) → sent s who request.request_uuid ≡ Some row → row.no ≡ t → HasRow who request.request_uuid named s t
  found row e is = subst (HasRow who request.request_uuid named s) is (sent_row s who request.request_uuid named row e)

  made : (st : TaskState) (slice : ℕ) (source : Option ℕ) → P (new_task_decision s who request st slice source)
  made st slice source r =
      (let nth : length s.tasks + 1 ≡ t = ap number r in
      inr (
        kind.New (length s.tasks + 1) who request st slice source,
        refl,
        and_from (same who who && same request.request_uuid request.request_uuid) (length s.tasks + 1 == t)
            (and_from (same who who) (same request.request_uuid request.request_uuid) (same_self who) (same_self request.request_uuid)) (grind (arith, nth)),
      ))

  accepted_tells : (o : Option ℕ) → P (accepted_at s who request o)
  accepted_tells (Some place) = made _ place None
  accepted_tells None = made _ _ None

  tells : (moment : ℕ) → P (new_task s who moment request)
  tells moment =
      by_map P (resubmitted request) (sent s who request.request_uuid) _
      (λ row e. cond_both (same_task row.request request) _ _ P (λ b r. inl (found row e (ap number r))) (λ b r. absurd (cc (r)))) (λ unsent.
      by_map P file_missing (missing_file s (inputs_of request.task_slices)) _ (λ file e r. absurd (cc (r))) (λ has_inputs.
      by_when P (nat_le s.settings.most_tasks (length s.tasks)) (tasks_full s) _ (λ b r. absurd (cc (r))) (λ b.
      by_map P (reuse_outcome s who request) (reuse s moment request.task_slices) (accepted s who request) (λ taken e. made _ taken.slice (Some taken.source)) (λ e.
      accepted_tells (admit s request.task_slices 0)))))

any_left : {A : Type 0} (test : A → Bool) (xs ys : List A) → list_any test xs ≡ true → list_any test (xs ++ ys) ≡ true
any_left test xs ys e = list_any-append test xs ys ∙ grind (arith, e)

any_right : {A : Type 0} (test : A → Bool) (xs ys : List A) → list_any test ys ≡ true → list_any test (xs ++ ys) ≡ true
any_right test xs ys e = list_any-append test xs ys ∙ grind (arith, e)

pub replies_are_told : RepliesAreTold
replies_are_told base log who moment pass request t state o caused named unsent replied = by_case (tells s who request named t state moment replied)
  where
    s : PoolState
    s = replay base log

    test : Entry → Bool
    test = sends_as who request.request_uuid t

    adds : Option EntryKind → List Entry
    adds o = option_to_list (option_map (entry_at moment pass) o)

    Held : Option EntryKind → Type 0
    Held o = list_any test (log ++ adds o) ≡ true

    was : HasRow who request.request_uuid named base t ⊎ (list_any test log ≡ true) → list_any test log ≡ true
    was (inl g) = absurd (unsent_row base who request.request_uuid named t unsent g)
    was (inr r) = r

    before : HasRow who request.request_uuid named s t → (o : Option EntryKind) → Held o
    before h added = any_left test log (adds added) (was (came who request.request_uuid named base log t o caused h))

    now : (k : EntryKind) → sends_kind_as who request.request_uuid t k ≡ true → Held (Some k)
    now k e = any_right test log (entry_at moment pass k ∷ []) (grind (arith, e))

    by_case : HasRow who request.request_uuid named s t ⊎ ((k : EntryKind) × ((new_task s who moment request).entry ≡ Some k) × (sends_kind_as who request.request_uuid t k ≡ true)) → Held (new_task s who moment request).entry
    by_case (inl h) = before h (new_task s who moment request).entry
    by_case (inr r) = subst Held (sym r.1) (now r.0 r.2)

-- where the base has one, the log accepts none
pub sent_before : SentBefore
sent_before base log who uuid o caused some = by_empty (is_empty uuid) refl
  where
    by_row : is_empty uuid ≡ false → (r : Option TaskRow) → sent base who uuid ≡ r → is_some r ≡ true → count_by (sends who uuid) log ≡ 0
    by_row named None e h = absurd (cc (h))
    by_row named (Some row) e h = quiet who uuid named base log row.no o caused (sent_row base who uuid named row e)

    by_empty : (b : Bool) → is_empty uuid ≡ b → count_by (sends who uuid) log ≡ 0
    by_empty true e = (let none : sent base who uuid ≡ None = ap (λ (b : Bool). cond b None (find (is_sent who uuid) base.tasks)) e in absurd (cc (none, some)))
    by_empty false e = by_row e (sent base who uuid) refl some
