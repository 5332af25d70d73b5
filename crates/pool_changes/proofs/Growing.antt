-- The rows go on as the log does.
use Rattle.std.proofs.Common.{◌≡◌, ℕ, ◌+◌, ◌≤◌, List, [], ◌∷◌, ◌++◌, length, Option, Some, None, Bor, sym, ap, ◌∙◌, refl, arith}
use Rattle.std.specs.Prelude.{IfSome}
use Rattle.std.specs.Option.{option_map}
use Rattle.sha2.specs.Sha256.{sha256}
use Rattle.swarm_model.specs.declared.entry.Entry.{Entry}
use Rattle.swarm_model.specs.declared.entry.EntryKind.{EntryKind}
use Rattle.swarm_model.specs.declared.pool_state.PoolState.{PoolState}
use Rattle.swarm_model.specs.Bytes.{brings}
use Rattle.swarm_model.specs.Effects.{after}
use Rattle.swarm_model.specs.History.{replay}
use Rattle.pool_laws.proofs.BlobLaws.{placed_through}
use Rattle.pool_changes.specs.Blobs.{AreBrought}

replay_push : (s : PoolState) (log : List Entry) (entry : Entry) → replay s (log ++ entry ∷ []) ≡ after (replay s log) entry
replay_push s [] entry = refl
replay_push s (e ∷ log) entry = replay_push (after s e) log entry

pub replayed_more : (s old new : PoolState) (log more : List Entry) (entry : Entry) → old ≡ replay s log → more ≡ log ++ entry ∷ [] → new ≡ after old entry → new ≡ replay s more
replayed_more s old new log more entry is grown changed =
    changed ∙ ap (λ (o : PoolState). after o entry) is ∙ sym (replay_push s log entry) ∙ ap (replay s) (sym grown)

-- a log places at most one blob an entry
pub placed_within : (base s : PoolState) (log : List Entry) → s ≡ replay base log → s.placed ≤ base.placed + length log
placed_within base s log is = let placed = placed_through base log in let same = ap (λ (p : PoolState). p.placed) is in omega (arith, placed, same)

-- bytes that are lent are those that they are
pub brought_is : (k : EntryKind) (bytes : Option (Bor (List ℕ))) → IfSome bytes (λ b. brings k ≡ Some (sha256 b.now, length b.now)) → AreBrought k (option_map (λ b. b.now) bytes)
brought_is k None brought = tt
brought_is k (Some b) brought = brought
