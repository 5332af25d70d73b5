-- The pass at the place takes its turn.
use Rattle.std.proofs.Common.{None, length, arith, ap, ◌∙◌}
use Rattle.std.proofs.lemmas.List.{length-set}
use Rattle.shared_doors.specs.Machines.{lasting_in}
use Rattle.shared_doors.proofs.ByPlace.{low_pass, one_of, own_stays, there}
use Rattle.shared_doors.proofs.SharedCalls.{door_call, fits_at, low_at, standing_at, turns_at}
use Rattle.shared_doors.proofs.shared_door.SharedDoorDoor.call.Goals as goal

pub take_at-pass-requires : goal.take_at-pass-requires
take_at-pass-requires g c =
    let ts = c.args.self.now.server.now.turnstiles.items in
    let items = c.args.self.now.passes.items in
    let low = low_at (lasting_in g.M.Machine.kept) ts c.args.place c.requires.place in
    record {
      place = low_pass (lasting_in g.M.Machine.kept) ts items c.args.place c.args.self.now.own low;
      there = there (lasting_in g.M.Machine.kept) ts items c.args.place c.args.self.now.own low;
    }

pub index-turnstile-requires : goal.index-turnstile-requires
index-turnstile-requires g c =
    let low = low_at (lasting_in g.M.Machine.kept) c.args.self.now.server.now.turnstiles.items c.args.place c.requires.place in omega (arith, low)

pub take_turn-result-requires : goal.take_turn-result-requires
take_turn-result-requires g c =
    let ts = c.args.self.now.server.now.turnstiles.items in
    let items = c.args.self.now.passes.items in
    let own = c.args.self.now.own in
    let t = c.index-turnstile.result.now in
    let at = c.index-turnstile.ensures in
    let pass = c.take_at-pass.result in
    let is = c.take_at-pass.ensures.pass in
    let low = low_at (lasting_in g.M.Machine.kept) ts c.args.place c.requires.place in
    record {
      own = one_of (lasting_in g.M.Machine.kept) ts items c.args.place pass own low is t at;
      turns = turns_at (lasting_in g.M.Machine.kept) ts items c.args.place t own low at pass is 1099511627776 c.requires.calls;
      standing = standing_at (lasting_in g.M.Machine.kept) ts items c.args.place t own low at c.args.self.now.server.now.standing;
      sure = c.args.self.now.server.now.sure;
      fits = fits_at (lasting_in g.M.Machine.kept) ts items c.args.place t own low at c.args.call.now.request.now c.requires.fits;
      carries = c.requires.carries;
    }

pub index_mut-requires : goal.index_mut-requires
index_mut-requires g c =
    let items = c.args.self.now.passes.items in
    let low = low_pass (lasting_in g.M.Machine.kept) c.args.self.now.server.now.turnstiles.items items c.args.place c.args.self.now.own
    (low_at (lasting_in g.M.Machine.kept) c.args.self.now.server.now.turnstiles.items c.args.place c.requires.place) in
    let same = ap length c.take_at-pass.ensures.taken ∙ length-set items c.args.place None in
    omega (arith, low, same)

pub invariant_of-self : goal.invariant_of-self
invariant_of-self g c =
    let ts = c.args.self.now.server.now.turnstiles.items in
    let low = low_at (lasting_in g.M.Machine.kept) ts c.args.place c.requires.place in
    record {
      own = rw c.take_at-pass.ensures.taken
          (own_stays (lasting_in g.M.Machine.kept) ts c.args.self.now.passes.items c.args.place None c.take_turn-result.result.1
          c.index-turnstile.result.now c.args.self.now.own low c.index-turnstile.ensures c.take_turn-result.ensures.own);
    }

pub returns : goal.returns
returns g c =
    let ts = c.args.self.now.server.now.turnstiles.items in
    let low = low_at (lasting_in g.M.Machine.kept) ts c.args.place c.requires.place in
    rw c.take_at-pass.ensures.taken
    (door_call (lasting_in g.M.Machine.kept) ts c.args.self.now.passes.items c.args.place c.index-turnstile.result.now c.args.self.now.own low c.index-turnstile.ensures
    c.take_at-pass.result c.take_at-pass.ensures.pass c.args.self.now.server.now.store c.args.call.now.who.now c.args.call.now.moment c.args.call.now.after c.args.call.now.request.now
    c.take_turn-result.result.0 c.take_turn-result.result.1 c.take_turn-result.ensures.rest c.take_turn-result.ensures.no_fault c.take_turn-result.ensures.done)
