-- A task that has ended stays as it is, whatever follows.
use Rattle.std.proofs.Common.{◌≡◌, ℕ, List, [], ◌∷◌, ◌++◌, refl, ap, ◌∙◌, Some, IsTrue, eqb-true}
use Rattle.pool_laws.specs.Types.{TaskRow, PoolState, Entry}
use Rattle.swarm_model.specs.Finding.{is_final, is_task, task_of}
use Rattle.swarm_model.specs.Effects.{opening, after}
use Rattle.swarm_model.specs.History.{replay, IsCaused, MayFollow}
use Rattle.swarm_model.specs.Soundness.{IsSound}
use Rattle.swarm_model.specs.Verdicts.{FinalsStay}
use Rattle.pool_laws.proofs.Lists.{Found, find_is}
use Rattle.pool_laws.proofs.Rows.{find_task}
use Rattle.pool_laws.proofs.Sound.{sound_replay, opening_sound}
use Rattle.pool_laws.proofs.Tracks.{Tracked, track, final_lasts}

-- from a sound pool on
final_after : (s : PoolState) (more : List Entry) (t : ℕ) (task : TaskRow) → IsSound s → IsCaused s more → task_of s t ≡ Some task → IsTrue (is_final task.state) → task_of (replay s more) t ≡ Some task
final_after s more t task o c e final =
    let f : Found (is_task t) s.tasks task = find_is (is_task t) s.tasks task e in
    let g : Tracked (λ (y : TaskRow). y ≡ task) (replay s more) t = track (λ (y : TaskRow). y ≡ task) (final_lasts task final) s more o c task t f.among (eqb-true task.no t f.passes) refl in
    find_task (replay s more) (sound_replay s more o c) g.row t g.among g.named ∙ ap (λ (y : TaskRow). Some y) g.holds

-- through one entry that may follow
pub final_through : (s : PoolState) (e : Entry) (t : ℕ) (task : TaskRow) → IsSound s → MayFollow s e → task_of s t ≡ Some task → IsTrue (is_final task.state) → task_of (after s e) t ≡ Some task
final_through s e t task o follows is final = final_after s (e ∷ []) t task o (follows, tt) is final

-- two parts of a log

pub replay_parts : (s : PoolState) (log more : List Entry) → replay s (log ++ more) ≡ replay (replay s log) more
replay_parts s [] more = refl
replay_parts s (e ∷ log) more = replay_parts (after s e) log more

pub caused_first : (s : PoolState) (log more : List Entry) → IsCaused s (log ++ more) → IsCaused s log
caused_first s [] more c = tt
caused_first s (e ∷ log) more c = (c.0, caused_first (after s e) log more c.1)

pub caused_rest : (s : PoolState) (log more : List Entry) → IsCaused s (log ++ more) → IsCaused (replay s log) more
caused_rest s [] more c = c
caused_rest s (e ∷ log) more c = caused_rest (after s e) log more c.1

-- through all that follows
pub final_stays : FinalsStay
final_stays settings log more t task c e final =
    ap (λ (z : PoolState). task_of z t) (replay_parts (opening settings) log more)
    ∙ final_after (replay (opening settings) log) more t task (sound_replay (opening settings) log (opening_sound settings) (caused_first (opening settings) log more c))
    (caused_rest (opening settings) log more c) e final
