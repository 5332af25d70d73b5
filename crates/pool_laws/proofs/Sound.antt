-- Each entry that may follow keeps a pool sound.
use Rattle.std.proofs.Common.{◌≡◌, ◌≤◌, List, [], ◌∷◌, refl, ◌∙◌, lit≤, arith}
use Rattle.std.specs.List.{All}
use Rattle.std.proofs.lemmas.List.Elements.{All-nil}
use Rattle.pool_laws.specs.Types.{PoolSettings, TaskRow, BotRow, PoolState, Deadline, Entry}
use Rattle.swarm_model.specs.Effects.{opening, after}
use Rattle.swarm_model.specs.History.{replay, IsCaused, MayFollow}
use Rattle.swarm_model.specs.Soundness.{IsSound, IsSoundTask, IsSoundBot, IsSoundBlob, Agree, AreClaimedApart, AreSentApart, AreNamedApart, StaysSound}
use Rattle.pool_laws.proofs.Tasks.{tasks_sound}
use Rattle.pool_laws.proofs.Bots.{bots_sound, settings_same}
use Rattle.pool_laws.proofs.Runs.{runs_agree}
use Rattle.pool_laws.proofs.Moments.{ahead_after}
use Rattle.pool_laws.proofs.Numbers.{tasks_numbered, bots_numbered}
use Rattle.pool_laws.proofs.Claimed.{claims_apart}
use Rattle.pool_laws.proofs.UuidLaw.{all_sent_apart}
use Rattle.pool_laws.proofs.Limits.{tasks_few, bots_few}
use Rattle.pool_laws.proofs.Names.{names_apart}
use Rattle.pool_laws.proofs.Blobs.{blobs_few, blobs_sound, blobs_distinct, blobs_apart}

-- the parts together
pub sound_after : (s : PoolState) (e : Entry) → IsSound s → MayFollow s e → IsSound (after s e)
sound_after s e o follows =
    let distinct = blobs_distinct s e o follows in
    record {
      last = follows.not_late;
      tasks_numbered = tasks_numbered s e o follows;
      bots_numbered = bots_numbered s e o follows;
      few_tasks = tasks_few s e o follows;
      few_bots = bots_few s e o follows;
      tasks = tasks_sound s e o follows;
      bots = bots_sound s e o follows;
      ahead = ahead_after s e o follows;
      runs = runs_agree s e o follows;
      claims = claims_apart s e o follows;
      sent = all_sent_apart s e o follows;
      names = names_apart s e o follows;
      few_blobs = blobs_few s e o follows;
      blobs = blobs_sound s e o follows;
      digests = distinct.digests;
      numbers = distinct.numbers;
      apart = blobs_apart s e o follows;
    }

-- so does every log
pub sound_replay : (s : PoolState) (log : List Entry) → IsSound s → IsCaused s log → IsSound (replay s log)
sound_replay s [] o caused = o
sound_replay s (e ∷ log) o caused = sound_replay (after s e) log (sound_after s e o caused.0) caused.1

-- no log changes the settings
pub settings_stay : (s : PoolState) (log : List Entry) → (replay s log).settings ≡ s.settings
settings_stay s [] = refl
settings_stay s (e ∷ log) = settings_stay (after s e) log ∙ settings_same s e.moment e.kind

-- a pool without rows is sound
pub opening_sound : (settings : PoolSettings) → IsSound (opening settings)
opening_sound settings =
    record {
      last = lit≤ tt;
      tasks_numbered = tt;
      bots_numbered = tt;
      few_tasks = omega arith;
      few_bots = omega arith;
      tasks = All-nil (IsSoundTask (opening settings));
      bots = All-nil (IsSoundBot (opening settings));
      ahead = All-nil (λ (d : Deadline). 0 ≤ d.moment);
      runs = All-nil (λ (bot : BotRow). All (Agree bot) []);
      claims = All-nil (λ (task : TaskRow). All (AreClaimedApart task) []);
      sent = All-nil (λ (task : TaskRow). All (AreSentApart task) []);
      names = All-nil (λ (bot : BotRow). All (AreNamedApart bot) []);
      few_blobs = omega arith;
      blobs = All-nil (IsSoundBlob (opening settings));
      digests = λ digest. omega arith;
      numbers = λ number. omega arith;
      apart = λ i j d less low. absurd (omega (arith, low));
    }

-- so every pool is
pub sound_always : StaysSound
sound_always settings log caused = sound_replay (opening settings) log (opening_sound settings) caused
