use Rattle.std.proofs.Common.{◌≡◌, List, [], ◌∷◌, take, refl, subst, sym, ◌∙◌}
use Rattle.swarm_batch.specs.Batches.{BatchValue}
use Rattle.batch_plays.specs.declared.saved_batch.SavedBatch.{SavedBatch}
use Rattle.batch_plays.specs.Once.{AreSentOnce}
use Rattle.batch_plays.specs.Turns.{Played, PlayedPart}
use Rattle.batch_plays.specs.World.{world_of, world_at}
use Rattle.batch_plays.proofs.Playing.{no_entries, part_none, part_more, played_more, begun_files, own_base}
use Rattle.batch_plays.proofs.Sent.{each_once}
use Rattle.batch_plays.proofs.play.play_batch.Goals as goal

pub returns-in-Err-clause-stopped : goal.returns-in-Err-clause-stopped
returns-in-Err-clause-stopped g c =
    part_none c.args.settings.now c.args.who.now c.args.turns.now (world_at (g.M.Machine.kept c.args.machine) c.args.batch) (g.M.Machine.kept c.args.machine).log (no_entries (g.M.Machine.kept c.args.machine).log)

pub returns-in-Err-play_turn-clause-stopped : goal.returns-in-Err-play_turn-clause-stopped
returns-in-Err-play_turn-clause-stopped g c =
    let kept = g.M.Machine.kept c.args.machine in
    let files_is = begun_files c.args.batch c.in-Ok.texts.0 c.in-Ok.texts.1 c.in-Ok.ensures.saved c.in-Ok.ensures.before in
    let mid = world_of (g.M.Machine.kept c.loop-turn.machine) c.loop-turn.files in
    let played : Played c.args.settings.now c.args.who.now (world_at kept c.args.batch) (take c.loop-turn.turn-index c.args.turns.now) mid =
    subst (λ (f : SavedBatch). Played c.args.settings.now c.args.who.now (world_of kept f) (take c.loop-turn.turn-index c.args.turns.now) mid) (sym files_is) c.loop-turn.invariant.played in
    part_more c.args.settings.now c.args.who.now c.args.turns.now c.loop-turn.turn-index c.turn-item.result (world_at kept c.args.batch) mid (g.M.Machine.kept c.play_turn.new.machine).log c.into_batch.result
    c.loop-turn-test.true c.turn-item.is played
    (subst (λ (b : BatchValue). PlayedPart c.args.settings.now c.args.who.now mid (c.turn-item.result ∷ []) (g.M.Machine.kept c.play_turn.new.machine).log b) (sym c.into_batch.ensures) c.in-Err-play_turn.ensures.stopped)

pub loop-turn-preserved : goal.loop-turn-preserved
loop-turn-preserved g c = record {
  ready = c.in-Ok-play_turn.ensures.ready;
  start = c.play_turn.ensures.start ∙ c.loop-turn.invariant.start;
  played = played_more c.args.settings.now c.args.who.now c.args.turns.now c.loop-turn.turn-index c.turn-item.result
      (world_of (g.M.Machine.kept c.args.machine) (record { batch = c.args.batch; saved = c.in-Ok.texts.0; before = c.in-Ok.texts.1 }))
      (world_of (g.M.Machine.kept c.loop-turn.machine) c.loop-turn.files) (world_of (g.M.Machine.kept c.play_turn.new.machine) c.play_turn.new.files)
      c.loop-turn-test.true c.turn-item.is c.loop-turn.invariant.played c.in-Ok-play_turn.ensures.turned;
}

pub returns-clause-once : goal.returns-clause-once
returns-clause-once g c = λ unsent.
    let kept = g.M.Machine.kept c.args.machine in
    let history = c.begin.ensures.history in
    let files_is = begun_files c.args.batch c.in-Ok.texts.0 c.in-Ok.texts.1 c.in-Ok.ensures.saved c.in-Ok.ensures.before in
    let left = world_of (g.M.Machine.kept c.loop-turn.machine) c.loop-turn.files in
    let played : Played c.args.settings.now c.args.who.now (world_at kept c.args.batch) (take c.loop-turn.turn-index c.args.turns.now) left =
    subst (λ (f : SavedBatch). Played c.args.settings.now c.args.who.now (world_of kept f) (take c.loop-turn.turn-index c.args.turns.now) left) (sym files_is) c.loop-turn.invariant.played in
    subst (λ (b : BatchValue). AreSentOnce c.args.who.now kept.log left.log c.args.batch b) (sym c.into_batch-2.ensures)
    (each_once c.args.settings.now c.args.who.now (world_at kept c.args.batch) left (take c.loop-turn.turn-index c.args.turns.now) c.args.batch
    (own_base kept history) history.legal c.begin.ensures.few refl unsent played)
