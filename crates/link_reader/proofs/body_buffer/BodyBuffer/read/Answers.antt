use Rattle.std.proofs.Common.{◌≡◌, ◌≤◌, ◌+◌, take, length, true, is_ok, arith, ap, sym, ◌∙◌, subst, Some, None, Ok, if◌then◌else◌}
use Rattle.std.proofs.lemmas.Grind.{common_steps}
use Rattle.std.proofs.lemmas.List.{with_items_is}
use Rattle.link_reader.specs.Pieces.{TakesPiece}
use Rattle.link_reader.proofs.PieceLemmas.{front_stays, kept_behind}
use Rattle.link_reader.proofs.body_buffer.BodyBuffer.read.Goals as goal

pub returns : goal.returns
returns g c =
    let whole : c.self.inside.whole ≡ true = grind (arith, common_steps) in
    let grown : c.resize.new.self.len ≤ c.self.inside.filled + c.args.most = grind (arith, common_steps) in
    let size : length c.read_at.new.bytes ≡ c.resize.new.self.len = omega arith in
    let same : take c.self.inside.filled c.read_at.new.bytes ≡ take c.self.inside.filled c.self.inside.bytes.items
    = c.in_ok-n.ensures.kept ∙ ap (λ l. take c.self.inside.filled l) c.deref_mut.ensures.value
    ∙ front_stays (is_ok c.resize.result) c.self.inside.bytes.items _ c.resize.new.self.items c.self.inside.filled (c.self.inside.filled + c.min-room.result) (omega arith) c.self.invariant c.resize.ensures.items in
    subst (λ l. TakesPiece (g.L.Link.state c.args.link.now) (g.L.Link.state c.read_at.new.link) c.args.self.now (if c.self.inside.whole then Some (take (c.self.inside.filled + c.in_ok-n.n) l) else None) c.args.most (Ok c.in_ok-n.n))
    (sym (with_items_is c.resize.new.self c.read_at.new.bytes size))
    (kept_behind c.self.inside.whole c.args.self.now c.self.inside.bytes.items c.read_at.new.bytes c.self.inside.filled c.args.most c.in_ok-n.n c.self.view_is whole same (omega arith) c.in_ok-n.ensures.reads)
