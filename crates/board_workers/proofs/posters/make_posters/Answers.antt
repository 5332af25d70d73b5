-- One poster more is made.
use Rattle.std.proofs.Common.{arith}
use Rattle.std.proofs.lemmas.List.{length-map}
use Rattle.turnstile.specs.Passes.{fixed_of}
use Rattle.shared_doors.specs.Machines.{lasting_in}
use Rattle.shared_doors.specs.SharedDoors.{pools_of}
use Rattle.board_workers.proofs.Splitting.{posters_more}
use Rattle.board_workers.proofs.posters.make_posters.Goals as goal

pub loop-place-preserved : goal.loop-place-preserved
loop-place-preserved g c =
    let i = c.loop-place.invariant in
    record {
      count = omega (arith, i.count, c.push_reserved.ensures.len);
      room = omega (arith, i.room, c.push_reserved.ensures.capacity);
      made = posters_more (λ own. own.poster) (pools_of (lasting_in g.M.Machine.kept) c.args.server.now.turnstiles.items) c.loop-place.place c.loop-place.posters.items c.push_reserved.new.self.items c.in_ok-poster.poster (omega (arith, c.loop-place-test.true, c.len-count.ensures, c.args.server.now.turnstiles.ok.0, length-map c.args.server.now.turnstiles.items (λ t. (fixed_of (lasting_in g.M.Machine.kept) t).settings)))
          c.push_reserved.ensures.items i.made c.in_ok-poster.ensures;
    }
