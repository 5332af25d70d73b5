-- Each entry keeps the rules of a base's rows, so a log leads from a base to a base.
use Rattle.std.proofs.Common.{◌≤◌, List, [], ◌∷◌, refl, ◌∙◌, arith, IfSome}
use Rattle.std.proofs.lemmas.List.Elements.{All-nil}
use Rattle.pool_laws.specs.Types.{BlobRow, PoolSettings, TaskRow, PoolState, Entry}
use Rattle.swarm_model.specs.Effects.{after, opening}
use Rattle.swarm_model.specs.History.{replay, IsCaused}
use Rattle.swarm_model.specs.Soundness.{IsSound}
use Rattle.swarm_model.specs.BaseRules.{IsKeptTask, HasOutcome, AreBaseRows}
use Rattle.pool_laws.specs.BaseLaws.{KeepsBaseRows, LeadsToABase, OpeningIsABase}
use Rattle.pool_laws.proofs.Sound.{sound_after, sound_replay, settings_stay, opening_sound}
use Rattle.pool_laws.proofs.BlobLaws.{placed_through}
use Rattle.pool_laws.proofs.Weights.{weight_bounded}
use Rattle.pool_laws.proofs.BaseTasks.{tasks_kept}
use Rattle.pool_laws.proofs.BaseOrder.{order_after, none_in_order}
use Rattle.pool_laws.proofs.BaseRows.{outcomes_after, blobs_from, rise_after}
use Rattle.pool_laws.proofs.BaseNeeds.{used_there}

pub rows_after : KeepsBaseRows
rows_after s e o rows follows =
    record {
      tasks = tasks_kept s e o follows rows.tasks;
      order = order_after s e o follows rows.tasks rows.order;
      outcomes = outcomes_after s e o follows rows.outcomes;
      used = λ digest used. used_there digest s e o follows rows.used used;
      blobs = blobs_from s e o follows rows.blobs;
      rising = rise_after s e o follows rows.rising;
    }

pub rows_replay : (s : PoolState) (log : List Entry) → IsSound s → IsCaused s log → AreBaseRows s → AreBaseRows (replay s log)
rows_replay s [] o c rows = rows
rows_replay s (e ∷ log) o c rows = rows_replay (after s e) log (sound_after s e o c.0) c.1 (rows_after s e o rows c.0)

pub leads_to_base : LeadsToABase
leads_to_base settings count base log b caused light short =
    let few = b.placed in
    let more = placed_through base log in
    let heavy = weight_bounded base log b.sound caused in
    record {
      own = settings_stay base log ∙ b.own;
      sound = sound_replay base log b.sound caused;
      rows = rows_replay base log b.sound caused b.rows;
      light = omega (arith, heavy, light);
      placed = omega (arith, few, more);
      few = short;
    }

-- a pool without rows keeps the rules
pub opening_rows : (settings : PoolSettings) → AreBaseRows (opening settings)
opening_rows settings =
    record {
      tasks = All-nil (IsKeptTask settings 0 0);
      order = none_in_order;
      outcomes = All-nil (λ (task : TaskRow). IfSome task.source (HasOutcome (opening settings) task));
      used = λ digest used. absurd (cc (used));
      blobs = All-nil (λ (blob : BlobRow). 1 ≤ blob.no);
      rising = λ i j d less low. absurd (omega (arith, less, low));
    }

pub opening_base : OpeningIsABase
opening_base settings count short = record { own = refl; sound = opening_sound settings; rows = opening_rows settings; light = omega arith; placed = omega arith; few = short }
