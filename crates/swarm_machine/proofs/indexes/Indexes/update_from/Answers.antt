-- Each index follows the entry by its law.
use Rattle.std.proofs.Common.{◌≡◌, ℕ, Option, sym, ap, ◌∙◌, subst}
use Rattle.swarm_machine.specs.Types.{ClaimLink, SourceLink, UuidLink, PoolState}
use Rattle.pool_index.specs.Claims as claims
use Rattle.pool_index.specs.Sources.{AreWith}
use Rattle.pool_index.specs.Uuids as uuids
use Rattle.swarm_model.specs.Effects.{after}
use Rattle.index_laws.specs.RowDeadlines.{put_deadline, task_deadline_of, bot_deadline_of}
use Rattle.index_laws.specs.StateCounts.{touched_row}
use Rattle.index_laws.specs.TaskQueues.{IsRequeued, touched_place}
use Rattle.index_laws.specs.Touched.{touched_task}
use Rattle.index_laws.proofs.ClaimLinks.{claims_follow, claims_are_fresh}
use Rattle.index_laws.proofs.QueuesFollow.{queues_follow}
use Rattle.index_laws.proofs.ToCome.{place_ready}
use Rattle.index_laws.proofs.SourceHash.{source_hash_is_known_before}
use Rattle.index_laws.proofs.SourcesFollow.{sources_follow}
use Rattle.index_laws.proofs.UuidLinks.{uuids_follow, uuids_are_fresh}
use Rattle.common_rows.specs.Rows.{state_of}
use Rattle.swarm_machine.specs.Indexes.{state_of_row, AreIndexes}
use Rattle.swarm_machine.specs.UsesBehind.{AreUses}
use Rattle.swarm_machine.proofs.Following.{blob_ends_after, counts_after, task_ends_after, bot_ends_after}
use Rattle.swarm_machine.proofs.indexes.Indexes.update_from.Goals as goal

pub move_in_queue-requires : goal.move_in_queue-requires
move_in_queue-requires c =
    let b = c.requires.behind in
    rw (b.is_after, b.touched_by.task) (record { ready = place_ready b.before c.args.entry.now b.sound b.follows c.args.self.now.queues.ready b.ready.queue })

pub add-requires : goal.add-requires
add-requires c =
    let b = c.requires.behind in
    rw b.ready.claim (claims_are_fresh b.before c.args.entry.now b.sound b.follows c.args.self.now.claims.links b.indexes_of.claims)

pub add-requires-2 : goal.add-requires-2
add-requires-2 c =
    let b = c.requires.behind in
    rw b.ready.uuid (uuids_are_fresh b.before c.args.entry.now b.sound b.follows c.args.self.now.uuids.links b.indexes_of.uuids)

pub follow_uses-requires : goal.follow_uses-requires
follow_uses-requires c =
    let b = c.requires.behind in
    record {
      before = b.before;
      sound = b.sound;
      follows = b.follows;
      is_after = b.is_after;
      task = b.touched_by.task;
      fresh = b.touched_by.fresh;
      uses_of_rows = b.indexes_of.uses;
      few = b.few_uses;
      listed = b.ready.uses;
    }

pub returns : goal.returns
returns c =
    let b = c.requires.behind in
    let s = b.before in
    let e = c.args.entry.now in
    let old = c.args.self.now in
    let task = b.touched_by.task in
    let now : state_of c.args.rows.now ≡ after s e = b.is_after in
    let requeued : IsRequeued (touched_task s e.kind) (touched_place (after s e) (touched_task s e.kind)) old.queues.queues c.move_in_queue.new.queues.queues =
    rw (now, task) at c.move_in_queue.ensures in
    subst (AreIndexes _) (sym now) (record {
      queues = queues_follow s e b.sound b.follows old.queues.queues c.move_in_queue.new.queues.queues b.indexes_of.queues requeued;
      task_ends = task_ends_after s e b.sound b.follows old.task_ends c.put_task_deadline.new.ends c.args.touched.task b.indexes_of.task_ends b.ready.task_ends task
          (c.put_task_deadline.ensures ∙ ap (λ (p : PoolState). put_deadline (task_deadline_of p) c.args.touched.task old.task_ends) now);
      bot_ends = bot_ends_after s e b.sound b.follows old.bot_ends c.put_bot_deadline.new.ends c.args.touched.bot b.indexes_of.bot_ends b.ready.bot_ends b.touched_by.bot
          (c.put_bot_deadline.ensures ∙ ap (λ (p : PoolState). put_deadline (bot_deadline_of p) c.args.touched.bot old.bot_ends) now);
      blob_ends = blob_ends_after s e b.sound b.follows old.blob_ends.deadlines c.move_deadline.new.ends.deadlines c.args.touched.blob_end c.blob_end_with-blob_end.result c.args.touched.fresh
          c.args.rows.now.blobs.rows b.indexes_of.blob_ends b.touched_by.blob_end b.touched_by.fresh (ap (λ (p : PoolState). p.blobs) now) c.blob_end_with-blob_end.ensures c.move_deadline.ensures;
      claims = claims_follow s e b.sound b.follows old.claims.links c.add.new.self.links b.indexes_of.claims
          (ap (λ (x : claims.ClaimIndexState). x.links) c.add.ensures ∙ ap (λ (ready : Option ClaimLink). claims.links_with ready old.claims.links) b.ready.claim);
      uuids = uuids_follow s e b.sound b.follows old.uuids.links c.add-2.new.self.links b.indexes_of.uuids
          (ap (λ (x : uuids.UuidIndexState). x.links) c.add-2.ensures ∙ ap (λ (ready : Option UuidLink). uuids.links_with ready old.uuids.links) b.ready.uuid);
      sources = sources_follow s e b.sound b.follows old.sources.links c.add-3.new.self.links b.indexes_of.sources
          (subst (λ (ready : Option SourceLink). AreWith ready old.sources.links c.add-3.new.self.links) (b.ready.source ∙ sym (source_hash_is_known_before s e b.sound b.follows)) c.add-3.ensures.links);
      uses = subst (AreUses c.follow_uses.new.uses) now c.follow_uses.ensures;
      counts = counts_after s e b.sound b.follows old.counts c.shift_counts-self.result c.args.touched.state c.state_in.result b.indexes_of.counts b.touched_by.state
          (c.state_in.ensures ∙ ap (λ (p : PoolState). state_of_row (touched_row p c.args.touched.task)) now ∙ ap (λ (t : Option ℕ). state_of_row (touched_row (after s e) t)) task) c.shift_counts-self.ensures;
    })
