-- What is refused is not legal.
use Rattle.std.proofs.Common.{◌≡◌, ◌+◌, ℕ, List, [], ◌∷◌, ◌++◌, length, sum_by, nat_lt, nat_le, Bool, true, false, Some, sym, ◌∙◌, subst, true≢false, lt-ltb, le-leb, arith}
use Rattle.std.proofs.lemmas.Bool.{and_from}
use Rattle.std.proofs.lemmas.List.{length_push}
use Rattle.std.proofs.lemmas.List.Sums.{sum_by_push}
use Rattle.std.proofs.lemmas.Option.{same_Some}
use Rattle.pool_loading.specs.Types.{Entry, PoolState}
use Rattle.swarm_model.specs.Effects.{after}
use Rattle.swarm_model.specs.Entries.{weight}
use Rattle.swarm_model.specs.History.{replay, IsCaused, IsLegal, MayFollow, has_room}
use Rattle.swarm_model.specs.MachineState.{MachineState, IsHistory}
use Rattle.swarm_model.specs.StateWeight.{state_weight}
use Rattle.entry_lines.specs.Lines.{entry_of_line}
use Rattle.pool_loading.specs.Lines.{Refuses}

-- the last entry of a log may follow those before it
caused_last : (s : PoolState) (log : List Entry) (e : Entry) → IsCaused s (log ++ e ∷ []) → MayFollow (replay s log) e
caused_last s [] e h = h.0
caused_last s (x ∷ log) e h = caused_last (after s x) log e h.1

-- a log that is legal had room for its last entry
had_room : (base : PoolState) (log : List Entry) (e : Entry) → IsLegal base (log ++ e ∷ []) → has_room base log e ≡ true
had_room base log e legal =
    let few = legal.few in
    let light = legal.light in
    let counted = length_push log e in
    let heavy = sum_by_push weight log e in
    and_from (nat_lt (length log) base.settings.most_entries) (nat_le (state_weight base + sum_by weight log + weight e) base.settings.most_weight)
    (lt-ltb (length log) base.settings.most_entries (omega (arith, few, counted)))
    (le-leb (state_weight base + sum_by weight log + weight e) base.settings.most_weight (omega (arith, light, heavy)))

module _ (line : List ℕ) (kept : MachineState) (entry : Entry) (is : entry_of_line line ≡ Some entry) where
  -- the entry that is read may not follow
  pub refuses_entry : IsHistory kept → (b : Bool) → b ≡ false → (MayFollow kept.pool entry → b ≡ true) → Refuses line kept
  refuses_entry history b refused tells e reads legal =
      let same : entry ≡ e = same_Some entry e (sym is ∙ reads) in
      let follows : MayFollow kept.pool e = subst (λ (s : PoolState). MayFollow s e) (sym history.replayed) (caused_last kept.start.rows kept.log e legal.caused) in
      absurd (true≢false (sym (tells (subst (MayFollow kept.pool) (sym same) follows)) ∙ refused))

  -- the log has no room for it
  pub refuses_more : has_room kept.start.rows kept.log entry ≡ false → Refuses line kept
  refuses_more full e reads legal =
      let same : entry ≡ e = same_Some entry e (sym is ∙ reads) in
      let room : has_room kept.start.rows kept.log entry ≡ true = subst (λ (x : Entry). has_room kept.start.rows kept.log x ≡ true) (sym same) (had_room kept.start.rows kept.log e legal) in
      absurd (true≢false (sym room ∙ full))
