use Rattle.std.proofs.Common.{◌≡◌, ℕ, ◌-◌, ◌++◌, length, take, drop, arith}
use Rattle.std.proofs.lemmas.Grind.{common_steps}
use Rattle.std.proofs.lemmas.List.{take_at}
use Rattle.link_reader.proofs.HeadLemmas.{filled}
use Rattle.link_reader.proofs.pending.Pending.fill.Goals as goal

pub returns : goal.returns
returns g c =
    let at : ℕ = c.self.inside.end - c.self.inside.start in
    let moved : take c.self.inside.bytes.len (c.shift_front.new.bytes ++ drop (length c.shift_front.new.bytes) c.self.inside.bytes.items) ≡ c.shift_front.new.bytes
    = take_at c.shift_front.new.bytes (drop (length c.shift_front.new.bytes) c.self.inside.bytes.items) c.self.inside.bytes.len (omega arith) in
    let kept : take at c.read_at.new.bytes ≡ c.args.self.now
    = cc (c.in_ok-n.ensures.kept, c.deref_mut-2.ensures.value, c.shift_front.ensures, c.deref_mut.ensures.value, c.self.view_is) in
    let size : length c.args.self.now ≡ at = grind (arith, common_steps) in
    filled c.args.self.now c.read_at.new.bytes _ c.self.inside.bytes.len at c.in_ok-n.n (omega arith) kept size c.in_ok-n.ensures.reads
