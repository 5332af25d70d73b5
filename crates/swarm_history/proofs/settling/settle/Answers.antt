-- An entry that is due may follow.
use Rattle.std.proofs.Common.{arith, ap, sym, subst, ◌≤◌, ◌∙◌}
use Rattle.swarm_model.specs.Deadlines.{due_entry}
use Rattle.swarm_model.specs.Points.{IsSettled}
use Rattle.pool_laws.proofs.Carrying.{due_brings}
use Rattle.pool_laws.proofs.Legality.{due_follows, due_settled}
use Rattle.pool_laws.proofs.MachineLaws.{is_sound}
use Rattle.swarm_history.specs.Records.{HoldsNoOthers}
use Rattle.swarm_history.specs.Settling.{Adds}
use Rattle.swarm_history.proofs.Additions.{fewer_left, settles_more}
use Rattle.swarm_history.proofs.Bringing.{none_new}
use Rattle.swarm_history.proofs.settling.settle.Goals as goal

pub add-requires : goal.add-requires
add-requires g c =
    let k = g.D.Desk.kept c.loop-entry.desk in
    let pass = g.D.Desk.number c.loop-entry.desk in
    let history = c.loop-entry.invariant.settles.history in
    let due = sym {b = due_entry k.pool _ pass} c.in-Some.ensures.due in
    rw c.due.ensures.same (record {
      ready = c.loop-entry.invariant.ready;
      number = (due_settled k.pool _ pass c.in-Some.entry due).1;
      follows = due_follows k.pool _ pass c.in-Some.entry (is_sound k history) (omega arith) due;
      history = history;
      brings = tt;
      whole = none_new k.pool c.in-Some.entry.kind (due_brings k.pool _ pass c.in-Some.entry due);
    })

pub loop-entry-preserved : goal.loop-entry-preserved
loop-entry-preserved g c =
    let desk = c.loop-entry.desk in
    let k = g.D.Desk.kept desk in
    let pass = g.D.Desk.number desk in
    let new = c.add.new.self in
    let same = c.due.ensures.same in
    let due = sym {b = due_entry k.pool _ pass} c.in-Some.ensures.due in
    let before = c.loop-entry.invariant.grows in
    let grows = subst (λ d. g.D.Desk.faults d ≤ g.D.Desk.faults new) same c.add.ensures.grows in
    record {
      settles = settles_more (g.D.Desk.number c.args.desk.now) c.args.moment (g.D.Desk.kept c.args.desk.now) k (g.D.Desk.kept new) c.in-Some.entry
          c.loop-entry.invariant.settles
          (subst (λ p. IsSettled p c.args.moment c.in-Some.entry) c.loop-entry.invariant.number (due_settled k.pool c.args.moment pass c.in-Some.entry due))
          (subst (λ d. Adds (g.D.Desk.kept d) (g.D.Desk.kept new) c.in-Some.entry) same c.in_ok-add.ensures.added);
      ready = c.add.ensures.ready;
      grows = omega (arith, before, grows);
      no_others = λ none. c.add.ensures.no_other_blobs (subst (λ d. HoldsNoOthers (g.D.Desk.records d) (g.D.Desk.kept d)) (sym same) (c.loop-entry.invariant.no_others none));
      number = c.add.ensures.number ∙ ap g.D.Desk.number same ∙ c.loop-entry.invariant.number;
      rest = c.add.ensures.rest ∙ ap g.D.Desk.rest same ∙ c.loop-entry.invariant.rest;
    }

pub loop-entry-smaller : goal.loop-entry-smaller
loop-entry-smaller g c =
    let new = c.add.new.self in
    fewer_left (g.D.Desk.kept c.loop-entry.desk) (g.D.Desk.kept new) c.in-Some.entry
    (subst (λ d. Adds (g.D.Desk.kept d) (g.D.Desk.kept new) c.in-Some.entry) c.due.ensures.same c.in_ok-add.ensures.added)
