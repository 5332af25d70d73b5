-- The tasks, the bots and the blobs are changed.
use Rattle.std.proofs.Common.{◌≡◌, ℕ, Bor, ap, refl, sym, ◌∙◌, List, Option}
use Rattle.std.specs.Option.{option_map}
use Rattle.blob_rows.specs.BlobRows.{BlobRowsState}
use Rattle.content_store.specs.StoredRows.{rows_in}
use Rattle.swarm_model.specs.declared.attempt.Chunk.{Chunk}
use Rattle.swarm_model.specs.declared.pool_state.PoolState.{PoolState}
use Rattle.swarm_model.specs.Effects.{life, blobs_in, with_rows, with_blobs, after}
use Rattle.pool_changes.specs.declared.effects.BlobEffect.{BlobEffect}
use Rattle.pool_changes.specs.Blobs.{held_in, blob_effect, effect_of, rows_with, held_with}
use Rattle.pool_changes.proofs.BlobEffects.{with_blobs_is, held_is, can_change}
use Rattle.common_rows.specs.Rows.{state_of}
use Rattle.common_rows.proofs.Entering.{suits_tasks, follows_bots}
use Rattle.common_rows.proofs.rows.Rows.apply.Goals as goal

pub change_rows-requires-clause-suits : goal.change_rows-requires-clause-suits
change_rows-requires-clause-suits c = suits_tasks (state_of c.args.self.now) c.args.entry.now c.requires.sound c.requires.follows

pub change_rows-requires-clause-follows : goal.change_rows-requires-clause-follows
change_rows-requires-clause-follows c =
    follows_bots (state_of c.args.self.now) c.args.entry.now c.args.self.now.bots refl c.requires.of_settings.bots c.requires.sound c.requires.follows

pub change_blobs-requires-clause-may : goal.change_blobs-requires-clause-may
change_blobs-requires-clause-may c =
    let short = rw c.blob_life-life.ensures.value at c.blob_life-life.ensures.short in
    rw (c.blob_life-life.ensures.value, c.blob_effect-effect.ensures, c.fresh_in.ensures)
    (can_change (state_of c.args.self.now) c.args.self.now.blobs.store c.requires.of_settings.blobs c.args.entry.now c.requires.sound c.requires.follows _ short c.requires.bytes)

pub returns : goal.returns
returns c =
    let old = c.args.self.now in
    let s = state_of old in
    let e = c.args.entry.now in
    let m = e.moment in
    let k = e.kind in
    let bytes = option_map (λ (b : Bor (List ℕ)). b.now) c.args.bytes in
    let pool = c.requires.of_settings.blobs in
    let tasks = c.change_rows.ensures.rows.of_tasks s refl refl (sym c.requires.of_settings.tasks) in
    let bots = c.change_rows.ensures.rows.of_bots s refl in
    let effect : c.blob_effect-effect.result ≡ blob_effect s k = c.blob_effect-effect.ensures ∙ ap (λ (fresh : Option Chunk). effect_of fresh k) c.fresh_in.ensures in
    let own : rows_in old.blobs ≡ blobs_in s = λ i. (let x : BlobRowsState = record { rows = old.blobs.rows; placed = old.blobs.placed; units = pool.units i } in x) in
    let blobs : rows_in c.change_blobs.new.blobs ≡ rows_with (life s) m (blob_effect s k) (blobs_in s) =
    c.change_blobs.ensures.rows ∙ (λ i. rows_with (c.blob_life-life.ensures.value i) m (effect i) (rows_in old.blobs)) ∙ ap (rows_with (life s) m (blob_effect s k)) own in
    let by_blob : with_rows (rows_in c.change_blobs.new.blobs) s ≡ with_blobs s m k = ap (λ (b : BlobRowsState). with_rows b s) blobs ∙ with_blobs_is s m k in
    record {
      settings = refl;
      state = (λ i. let x : PoolState = record s { last = m; tasks = tasks i; bots = bots i; blobs = c.change_blobs.new.blobs.rows; placed = c.change_blobs.new.blobs.placed } in x)
          ∙ ap (λ (p : PoolState). let x : PoolState = record p { last = m; tasks = (after s e).tasks; bots = (after s e).bots } in x) by_blob;
      held = c.change_blobs.ensures.held ∙ ap (λ (f : BlobEffect). held_with f old.blobs.rows bytes (held_in old.blobs)) effect ∙ held_is s k bytes (held_in old.blobs);
      of_settings = record {
        tasks = c.change_rows.ensures.retries ∙ c.requires.of_settings.tasks;
        blobs = record { units = c.change_blobs.ensures.units ∙ pool.units; names = c.change_blobs.ensures.names ∙ pool.names };
        bots = c.change_rows.ensures.most ∙ c.requires.of_settings.bots;
      };
    }
