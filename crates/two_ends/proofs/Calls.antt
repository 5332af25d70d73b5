-- What a machine may be asked, and what it has settled where it stops.
use Rattle.std.proofs.Common.{◌≡◌, ℕ, ◌==◌, ◌&&◌, Bool, true, IsTrue, List, [], ◌∷◌, ◌++◌, length, Option, Some, None, Result, Ok, Err, OnErr, refl, ap, sym, ◌∙◌, subst, eqb-true}
use Rattle.std.specs.List.{AllByRecursion}
use Rattle.std.specs.Option.{option_to_list}
use Rattle.std.proofs.lemmas.Bool.{and_parts}
use Rattle.std.proofs.lemmas.List.{append-nil}
use Rattle.sha2.specs.Sha256.{sha256}
use Rattle.dimensions.specs.Alike.{same}
use Rattle.swarm_model.specs.declared.entry.Entry.{Entry}
use Rattle.swarm_model.specs.declared.request.Request.{Request}
use Rattle.swarm_model.specs.declared.request.Request.TheVariants as ask
use Rattle.swarm_model.specs.Bases.{Base}
use Rattle.swarm_model.specs.Bytes.{Carries}
use Rattle.swarm_model.specs.Entries.{is_deadline}
use Rattle.swarm_model.specs.History.{IsLegal}
use Rattle.swarm_model.specs.MachineState.{MachineState}
use Rattle.swarm_model.specs.Points.{IsSettled, added}
use Rattle.pool_laws.proofs.Alike.{same_is}
use Rattle.swarm_history.specs.Calls.{first_call}
use Rattle.swarm_history.specs.Settling.{IsOwnStop}
use Rattle.bot_worlds.specs.Pool.{carries}
use Rattle.bot_worlds.specs.Turns.{IsSettledFrom, Settles}
use Rattle.bot_worlds.specs.World.{WorldState}
use Rattle.two_ends.specs.declared.bot_end.BotEnd.{BotEnd}
use Rattle.two_ends.specs.Ends.{world_of, world_with}

is_content : (digest : List ℕ) (size : ℕ) (bytes : List ℕ) → (same digest (sha256 bytes) && (size == length bytes)) ≡ true → (digest ≡ sha256 bytes) × (size ≡ length bytes)
is_content digest size bytes h = let k = and_parts (same digest (sha256 bytes)) (size == length bytes) h in (same_is digest (sha256 bytes) k.0, eqb-true size (length bytes) k.1)

-- bytes that are those of the request are what it carries
pub carries_is : (request : Request) (bytes : List ℕ) → carries request bytes ≡ true → Carries request bytes
carries_is (ask.PutBlob named actual size) bytes h = is_content actual size bytes h
carries_is (ask.Update bot task try_no (Some chunk) last) bytes h = is_content chunk.digest chunk.size bytes h
carries_is (ask.Update bot task try_no None last) bytes h = tt
carries_is request bytes h = tt

are_deadlines : (pass m : ℕ) (settled : List Entry) → AllByRecursion (IsSettled pass m) settled → AllByRecursion (λ e. IsTrue (is_deadline e.kind)) settled
are_deadlines pass m [] h = tt
are_deadlines pass m (e ∷ settled) h = (h.0.0, are_deadlines pass m settled h.1)

-- a call that stops has settled deadlines at most
pub stop_settles : (start : Base) (who : List ℕ) (m : ℕ) (request : Request) (old new : List Entry) (full : Bool) → IsOwnStop start (first_call who m request) old new full → Settles start old new
stop_settles start who m request old new full h = record {
  settled = h.growth.settled;
  deadlines = are_deadlines _ _ h.growth.settled h.stop.due_first;
  legal = h.stop.grows.legal;
  log =
      h.stop.grows.parts ∙ ap (λ (xs : List Entry). old ++ (xs ++ added h.growth)) h.no_others ∙ ap (λ (o : Option Entry). old ++ (h.growth.settled ++ option_to_list o)) h.stop.no_own ∙
      ap (λ (xs : List Entry). old ++ xs) (append-nil h.growth.settled);
}

-- a world that stays has settled nothing
pub nothing_settled : (old new : WorldState) → IsLegal old.start.rows old.log → new ≡ old → IsSettledFrom old new
nothing_settled old new legal is =
    subst (IsSettledFrom old) (sym is) (record { settles = record { settled = []; deadlines = tt; legal = legal; log = sym (append-nil old.log) }; is = refl })

-- where memory was wanted, and the bot's end stayed
pub stays_settled : {X E : Type 0} (kept : MachineState) (old new : BotEnd) (r : Result X E) → IsLegal kept.start.rows kept.log →
    OnErr r ((start : Base) (log : List Entry) → world_with start log new ≡ world_with start log old) → OnErr r (IsSettledFrom (world_of kept old) (world_of kept new))
stays_settled kept old new (Ok x) legal h = tt
stays_settled kept old new (Err e) legal h = nothing_settled (world_of kept old) (world_of kept new) legal (h kept.start kept.log)
