-- The rows go on by what an entry does that may come next.
use Rattle.std.proofs.Common.{ℕ, List, Bor, ap, ◌∙◌}
use Rattle.std.specs.Option.{option_map}
use Rattle.content_store.specs.Contents.{bytes_of}
use Rattle.swarm_model.specs.Bytes.{held_after}
use Rattle.swarm_model.specs.Effects.{after}
use Rattle.pool_changes.proofs.Growing.{brought_is}
use Rattle.pool_log.specs.Reached.{MayComeNext}
use Rattle.pool_log.specs.Plain.{RowsState}
use Rattle.pool_log.proofs.Reached.{few_placed, reached_after}
use Rattle.common_rows.specs.Rows.{state_of}
use Rattle.swarm_plain.proofs.Holding.{kept_sound, made_for}
use Rattle.swarm_plain.proofs.list_rows.ListRowsPoolRows.apply.Goals as goal

pub apply-requires-clause-sound : goal.apply-requires-clause-sound
apply-requires-clause-sound c = kept_sound c.self.inside c.self.invariant

pub apply-requires-clause-follows : goal.apply-requires-clause-follows
apply-requires-clause-follows c = (rw (← c.self.view_is) at c.requires.next).follows

pub apply-requires-clause-number : goal.apply-requires-clause-number
apply-requires-clause-number c = few_placed (state_of c.self.inside.rows) c.args.entry.now (rw (← c.self.view_is) at c.requires.next)

pub apply-requires-clause-bytes : goal.apply-requires-clause-bytes
apply-requires-clause-bytes c = brought_is c.args.entry.now.kind c.args.bytes c.requires.bytes

pub apply-requires-clause-ready : goal.apply-requires-clause-ready
apply-requires-clause-ready c =
    made_for c.self.inside c.self.invariant c.args.entry.now (ap (λ (kept : RowsState). kept.ready) c.self.view_is ∙ c.requires.ready)

pub invariant_of-self : goal.invariant_of-self
invariant_of-self c =
    let s = state_of c.self.inside.rows in
    let next : MayComeNext s c.args.entry.now = rw (← c.self.view_is) at c.requires.next in
    record {
      reached = reached_after s c.args.entry.now next (state_of c.apply.new.self) c.apply.ensures.state;
      of_settings = c.apply.ensures.of_settings;
      prepared = rw c.take.ensures.after tt;
    }

pub returns-clause-state : goal.returns-clause-state
returns-clause-state c = c.apply.ensures.state ∙ ap (λ (kept : RowsState). after kept.pool c.args.entry.now) c.self.view_is

pub returns-clause-held : goal.returns-clause-held
returns-clause-held c =
    c.apply.ensures.held ∙ ap (λ (kept : RowsState). held_after kept.pool c.args.entry.now.kind (option_map (λ (b : Bor (List ℕ)). b.now) c.args.bytes) (bytes_of kept.held)) c.self.view_is
