-- One pool more is posted.
use Rattle.std.proofs.Common.{◌+◌, ◌<◌, length, arith, sym, subst, ◌∙◌}
use Rattle.std.proofs.lemmas.List.{length-map, map-set}
use Rattle.shared_doors.specs.Machines.{lasting_in}
use Rattle.shared_doors.specs.SharedDoors.{pools_of}
use Rattle.shared_doors.specs.Views.{views}
use Rattle.board_workers.proofs.Following.{IsPosting, all_posted, behind_here, none_posted, posted_one, reads_none, reads_on, turn_only_reads}
use Rattle.board_workers.proofs.rounds.post_all.Goals as goal

pub loop-place-init : goal.loop-place-init
loop-place-init g c = record {
  posting = λ turns few may. none_posted (lasting_in g.M.Machine.kept) c.args.server.now.turnstiles.items turns _ _ may;
  reads = reads_none (length c.args.server.now.turnstiles.items) (views c.args.passes.passes.items);
}

pub index_mut-requires : goal.index_mut-requires
index_mut-requires g c =
    let t = c.requires.may in
    let m = c.loop-place.invariant.posting t.0 t.1 t.2 in
    omega (arith, c.loop-place-test.true, c.len-place-end.ensures, c.args.posters.now.ok.0, t.2.count, length-map c.args.posters.now.items (λ own. own.poster), m.count, length-map c.loop-place.posters.items (λ own. own.poster), c.loop-place.posters.ok.0)

pub post-given-requires-clause-own : goal.post-given-requires-clause-own
post-given-requires-clause-own g c = (c.loop-place.invariant.posting c.requires.may.0 c.requires.may.1 c.requires.may.2).own

pub post-given-requires-clause-turns : goal.post-given-requires-clause-turns
post-given-requires-clause-turns g c =
    let t = c.requires.may in
    let low : c.loop-place.place < length c.args.server.now.turnstiles.items = omega (arith, c.loop-place-test.true, c.len-place-end.ensures, c.args.posters.now.ok.0, t.2.count, length-map c.args.posters.now.items (λ own. own.poster)) in
    let turns = (c.loop-place.invariant.posting t.0 t.1 t.2).above c.loop-place.place low (omega arith) in
    omega (arith, turns, t.1)

pub post-given-requires-clause-start : goal.post-given-requires-clause-start
post-given-requires-clause-start g c =
    let t = c.requires.may in
    let m = c.loop-place.invariant.posting t.0 t.1 t.2 in
    let low : c.loop-place.place < length c.args.server.now.turnstiles.items = omega (arith, c.loop-place-test.true, c.len-place-end.ensures, c.args.posters.now.ok.0, t.2.count, length-map c.args.posters.now.items (λ own. own.poster)) in
    (behind_here (λ own. own.poster) (pools_of (lasting_in g.M.Machine.kept) c.args.server.now.turnstiles.items) c.loop-place.posters.items c.index_mut.result.now c.loop-place.place _
    (omega (arith, low, m.count, length-map c.loop-place.posters.items (λ own. own.poster))) c.index_mut.ensures.value (m.behind c.loop-place.place low)).start_is

pub post-given-requires-clause-prefix : goal.post-given-requires-clause-prefix
post-given-requires-clause-prefix g c =
    let t = c.requires.may in
    let m = c.loop-place.invariant.posting t.0 t.1 t.2 in
    let low : c.loop-place.place < length c.args.server.now.turnstiles.items = omega (arith, c.loop-place-test.true, c.len-place-end.ensures, c.args.posters.now.ok.0, t.2.count, length-map c.args.posters.now.items (λ own. own.poster)) in
    (behind_here (λ own. own.poster) (pools_of (lasting_in g.M.Machine.kept) c.args.server.now.turnstiles.items) c.loop-place.posters.items c.index_mut.result.now c.loop-place.place _
    (omega (arith, low, m.count, length-map c.loop-place.posters.items (λ own. own.poster))) c.index_mut.ensures.value (m.behind c.loop-place.place low)).taken

pub loop-place-preserved : goal.loop-place-preserved
loop-place-preserved g c =
    let ts = c.args.server.now.turnstiles.items in
    let fixed = lasting_in g.M.Machine.kept in
    let place = c.loop-place.place in
    record {
      posting = λ turns few may.
          let m = c.loop-place.invariant.posting turns few may in
          let low : place < length ts = omega (arith, c.loop-place-test.true, c.len-place-end.ensures, c.args.posters.now.ok.0, may.count, length-map c.args.posters.now.items (λ own. own.poster)) in
          let behind = behind_here (λ own. own.poster) (pools_of fixed ts) c.loop-place.posters.items c.index_mut.result.now place _
          (omega (arith, low, m.count, length-map c.loop-place.posters.items (λ own. own.poster))) c.index_mut.ensures.value (m.behind place low) in
          subst (λ posters. IsPosting fixed ts (place + 1) turns posters c.post-given.result.0.passes.items) (sym (map-set (λ own. own.poster) c.loop-place.posters.items place _))
          (posted_one fixed ts _ place turns _ _ _ c.post-given.new.poster m low c.post-given.ensures.own c.post-given.ensures.turn (c.post-given.ensures.start ∙ behind.start_is) c.post-given.ensures.prefix);
      reads = reads_on (length ts) _ _ _ c.loop-place.invariant.reads (turn_only_reads _ place (length ts) _ _ c.post-given.ensures.turn);
    }

pub returns-clause-may : goal.returns-clause-may
returns-clause-may g c = λ turns few may.
    all_posted (lasting_in g.M.Machine.kept) c.args.server.now.turnstiles.items _ turns _ _
    (omega (arith, c.loop-place-test.false, c.len-place-end.ensures, c.args.posters.now.ok.0, may.count, length-map c.args.posters.now.items (λ own. own.poster))) (c.loop-place.invariant.posting turns few may)
