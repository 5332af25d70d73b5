-- The pass at the place is of the turnstile there.
use Rattle.std.proofs.Common.{None, sym, ◌∙◌}
use Rattle.std.proofs.lemmas.List.{get_or_default}
use Rattle.shared_doors.specs.Machines.{lasting_in}
use Rattle.shared_doors.proofs.ByPlace.{low_pass, one_of}
use Rattle.shared_doors.proofs.places.alone_at.Goals as goal

pub alone-requires : goal.alone-requires
alone-requires g c =
    let ts = c.args.server.now.turnstiles.items in
    let items = c.args.passes.now.passes.items in
    let low = low_pass (lasting_in g.M.Machine.kept) ts items c.args.place c.requires.own c.requires.place in
    record {
      own = one_of (lasting_in g.M.Machine.kept) ts items c.args.place c.in-Some.pass c.requires.own c.requires.place
          (get_or_default items c.args.place None c.index.result.now low ∙ sym c.index.ensures ∙ c.in-Some.is)
          c.index-in-Some.result.now c.index-in-Some.ensures;
    }
