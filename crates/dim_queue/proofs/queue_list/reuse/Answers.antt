use Rattle.std.proofs.Common.{◌≡◌, ◌≢◌, ◌<◌, ◌∙◌, ℕ, ap, set, inl, inr, length, map, subst, sym, arith}
use Rattle.std.specs.Prelude.{OnOk}
use Rattle.std.proofs.lemmas.Bool.{cases_eq}
use Rattle.std.proofs.lemmas.List.{length-map, length-set}
use Rattle.dim_queue.specs.Taking.{set_with}
use Rattle.dim_queue.specs.Plain.{QueueState, queue_at}
use Rattle.dim_queue.specs.QueueList.{state_of}
use Rattle.dim_queue.proofs.Changes.{here, new_room, changed, unchanged, emptied}
use Rattle.dim_queue.proofs.Apart.{on_both, apart_one, apart_same}
use Rattle.dim_queue.proofs.queue_list.reuse.Goals as goal

pub returns-clause-room : goal.returns-clause-room
returns-clause-room c =
    let queues = c.args.queues.now in
    let low : c.args.at < length queues = omega (arith, c.requires.empty.low, length-map queues state_of) in
    subst (λ (n : ℕ). OnOk c.replace_set.result (0 < n)) (sym (new_room queues c.args.at low c.replace_set.new.self)) c.replace_set.ensures.room

pub returns-clause-alike : goal.returns-clause-alike
returns-clause-alike c =
    let queues = c.args.queues.now in
    let low : c.args.at < length queues = omega (arith, c.requires.empty.low, length-map queues state_of) in
    subst (λ (l : QueueState). OnOk c.replace_set.result (l.set ≡ set_with c.args.dims.now c.args.but)) (sym (changed queues c.args.at low c.replace_set.new.self)) c.replace_set.ensures.ok

pub returns-clause-same : goal.returns-clause-same
returns-clause-same c =
    let queues = c.args.queues.now in
    let low : c.args.at < length queues = omega (arith, c.requires.empty.low, length-map queues state_of) in
    emptied queues c.args.at low c.replace_set.new.self c.index-queues-at.result c.requires.empty.empty c.replace_set.ensures.tasks

pub returns-clause-apart : goal.returns-clause-apart
returns-clause-apart c =
    let queues = c.args.queues.now in
    let at = c.args.at in
    let queue = c.replace_set.new.self in
    let new = set queues at queue in
    let low : at < length queues = omega (arith, c.requires.empty.low, length-map queues state_of) in
    let size : length (map state_of new) ≡ length (map state_of queues) = length-map new state_of ∙ length-set queues at queue ∙ sym (length-map queues state_of) in
    let is = ap (λ (l : QueueState). l.set) (changed queues at low queue) in
    let other : (k : ℕ) → k ≢ at → (queue_at (map state_of new) k).set ≡ (queue_at (map state_of queues) k).set = λ k ne. ap (λ (l : QueueState). l.set) (unchanged queues at low queue k ne) in
    elim (on_both c.replace_set.result c.replace_set.ensures.ok c.replace_set.ensures.err) [
      | inl ok ↦
          apart_one (map state_of queues) (map state_of new) at (set_with c.args.dims.now c.args.but) (λ k less ne. (omega (arith, size), other k ne)) (is ∙ ok)
          (λ k less. c.requires.lack k (omega (arith, length-map queues state_of))) c.requires.apart
      | inr err ↦
          apart_same (map state_of queues) (map state_of new) size (λ k. elim (cases_eq k at) [
            | inl e ↦
                subst (λ (i : ℕ). (queue_at (map state_of new) i).set ≡ (queue_at (map state_of queues) i).set) (sym e)
                (is ∙ err ∙ sym (ap (λ (l : QueueState). l.set) (here queues at low c.index-queues-at.result)))
            | inr ne ↦ other k ne
          ]) c.requires.apart
    ]
