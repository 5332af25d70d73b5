-- What a commit adds to what was made ready.
use Rattle.std.proofs.Common.{◌≡◌, ◌++◌, ◌-◌, ◌<◌, ◌≤◌, ℕ, List, [], ◌∷◌, Option, None, Some, IsTrue, is_some, length, arith, ap, sym, subst, ◌∙◌, IfSome}
use Rattle.std.specs.List.{AllByRecursion}
use Rattle.std.proofs.lemmas.List.{append_assoc, length_push}
use Rattle.swarm_keeper.specs.Tables.{Tables}
use Rattle.swarm_history.specs.Types.{Entry, PoolSettings}
use Rattle.sha2.specs.Sha256.{sha256}
use Rattle.swarm_model.specs.Bytes.{HeldBytes, brings, new_digest}
use Rattle.swarm_model.specs.Effects.{after}
use Rattle.swarm_model.specs.History.{MayFollow}
use Rattle.swarm_model.specs.MachineState.{MachineState, IsHistory, AreHeld}
use Rattle.swarm_model.specs.Points.{IsSettled}
use Rattle.swarm_model.specs.Soundness.{IsSound}
use Rattle.pool_laws.proofs.BlobLaws.{keeps_held}
use Rattle.pool_laws.proofs.Bots.{settings_same}
use Rattle.pool_laws.proofs.MachineLaws.{is_sound}
use Rattle.pool_doors.specs.Doors.{base_told}
use Rattle.pool_loading.specs.Records.{AreFilled}
use Rattle.swarm_history.specs.Records.{AreMachineRecords, KeepsEntry, HoldsNoOthers}
use Rattle.swarm_history.specs.Settling.{Adds, Settles, with_entry}
use Rattle.swarm_history.proofs.Filled.{keeps_filled}
use Rattle.swarm_history.proofs.KeptMachines.{told_after}
use Rattle.swarm_history.proofs.Others.{keeps_no_others}
use Rattle.swarm_history.proofs.OwnPoints.{few_history}

pub adds_from : (old ready new : MachineState) (entry : Entry) (held : HeldBytes)
    → ready ≡ record old { ready = Some entry }
    → new ≡ record ready { pool = after ready.pool entry; log = ready.log ++ entry ∷ []; ready = None; held = held }
    → IsHistory new → Adds old new entry
adds_from old ready new entry held r e h = record {
  start = ap (λ k. k.start) e ∙ ap (λ k. k.start) r;
  log = ap (λ k. k.log) e ∙ ap (λ k. k.log ++ entry ∷ []) r;
  settings = ap (λ k. k.pool.settings) e ∙ (settings_same ready.pool entry.moment entry.kind ∙ ap (λ k. k.pool.settings) r);
  last = ap (λ k. k.pool.last) e;
  history = h;
}

all_push : {A : Type 0} (P : A → Type 0) (xs : List A) (x : A) → AllByRecursion P xs → P x → AllByRecursion P (xs ++ x ∷ [])
all_push P [] x all last = (last, tt)
all_push P (y ∷ xs) x all last = (all.0, all_push P xs x all.1 last)

-- one that was due comes after the others
pub settles_more : (pass moment : ℕ) (old mid new : MachineState) (entry : Entry) → Settles pass moment old mid → IsSettled pass moment entry → Adds mid new entry
    → Settles pass moment old new
settles_more pass moment old mid new entry s is a = record {
  settled = s.settled ++ entry ∷ [];
  start = a.start ∙ s.start;
  log = a.log ∙ ap (λ (l : List Entry). l ++ entry ∷ []) s.log ∙ append_assoc old.log s.settled (entry ∷ []);
  due_first = all_push (IsSettled pass moment) s.settled entry s.due_first is;
  settings = a.settings ∙ s.settings;
  last = subst (λ (n : ℕ). n ≤ moment) (sym a.last) is.2;
  history = a.history;
}

-- an entry that is added takes one of those that the log has room for
pub fewer_left : (old new : MachineState) (entry : Entry) → Adds old new entry
    → new.pool.settings.most_entries - length new.log < old.pool.settings.most_entries - length old.log
fewer_left old new entry a =
    let few = few_history new a.history in
    let grown = ap length a.log ∙ length_push old.log entry in
    let same = ap (λ (p : PoolSettings). p.most_entries) a.settings in
    omega (arith, few, grown, same)

-- each blob has its bytes still
pub adds_held : (old ready new : MachineState) (entry : Entry) (bytes : Option (List ℕ))
    → ready ≡ record old { ready = Some entry } → new ≡ with_entry ready entry bytes
    → IsSound old.pool → AreHeld old → (IsTrue (is_some (new_digest old.pool entry.kind)) → IsTrue (is_some bytes)) → AreHeld new
adds_held old ready new entry bytes r e sound held whole =
    subst AreHeld (sym (e ∙ ap (λ k. with_entry k entry bytes) r)) (keeps_held old entry bytes sound held whole)

-- and it is its own
pub adds_filled : (old ready new : MachineState) (entry : Entry) (bytes : Option (List ℕ))
    → ready ≡ record old { ready = Some entry } → new ≡ with_entry ready entry bytes → IsSound old.pool → IsHistory new
    → (IsTrue (is_some (new_digest old.pool entry.kind)) → IsTrue (is_some bytes)) → IfSome bytes (λ b. brings entry.kind ≡ Some (sha256 b, length b))
    → AreFilled old → AreFilled new
adds_filled old ready new entry bytes r e sound history whole brought are =
    let is : new ≡ with_entry old entry bytes = e ∙ ap (λ k. with_entry k entry bytes) r in
    subst AreFilled (sym is) (keeps_filled old entry bytes sound (subst (λ (k : MachineState). IsSound k.pool) is (is_sound new history)) are whole brought)

-- the line of an entry leaves what is told of where the log begins
pub base_kept : (kept : MachineState) (entry : Entry) (bytes : Option (List ℕ)) (told now : Option Tables) → KeepsEntry kept entry bytes told now → base_told now ≡ base_told told
base_kept kept entry bytes None now keeps = ap base_told keeps
base_kept kept entry bytes (Some t) now keeps = ap base_told keeps.tables

-- records say nothing of what is ready
pub told_ready : (told : Option Tables) (old ready : MachineState) (next : Option Entry) → ready ≡ record old { ready = next } → AreMachineRecords told old → AreMachineRecords told ready
told_ready None old ready next r are = tt
told_ready (Some t) old ready next r are = rw r (record { base = are.base; count = are.count; lines = are.lines; blobs = are.blobs })

-- The records once the line of an entry that was made ready is kept, and the entry is added.
module _ (old ready new : MachineState) (entry : Entry) (bytes : Option (List ℕ)) (told now : Option Tables)
    (r : ready ≡ record old { ready = Some entry }) (e : new ≡ with_entry ready entry bytes) (keeps : KeepsEntry ready entry bytes told now) where
  pub adds_records : (IsTrue (is_some (new_digest old.pool entry.kind)) → IsTrue (is_some bytes)) → AreMachineRecords told old → AreMachineRecords now new
  adds_records whole are =
      subst (AreMachineRecords now) (sym e)
      (told_after ready told now entry bytes keeps (λ places. whole (subst (λ (k : MachineState). IsTrue (is_some (new_digest k.pool entry.kind))) r places)) (told_ready told old ready (Some entry) r are))

  history_ready : IsHistory old → IsHistory ready
  history_ready h = rw r (record { base = h.base; replayed = h.replayed; legal = h.legal })

  pub adds_no_others : IsHistory old → IsSound old.pool → MayFollow old.pool entry → HoldsNoOthers told old → HoldsNoOthers now new
  adds_no_others h sound follows none =
      keeps_no_others ready new entry bytes told now (history_ready h)
      (subst (λ (k : MachineState). IsSound k.pool) (sym r) sound)
      (subst (λ (k : MachineState). MayFollow k.pool entry) (sym r) follows)
      (ap (λ k. k.log) e)
      (ap (λ k. k.start) e)
      keeps (subst (HoldsNoOthers told) (sym r) none)
