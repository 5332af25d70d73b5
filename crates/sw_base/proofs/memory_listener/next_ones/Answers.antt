use Rattle.std.proofs.Common.{◌≡◌, ◌+◌, [], rules, subst, sym}
use Rattle.sw_base.specs.Listeners.{IsTaken}
use Rattle.sw_base.proofs.Taking.{taken_none, taken_more}
use Rattle.sw_base.proofs.memory_listener.next_ones.Goals as goal

pub numbers-init : goal.numbers-init
numbers-init g c = record {
  taken = let e : c.in_ok-given.given.items ≡ [] = search rules in
      subst (IsTaken g.A.Acceptor.state c.args.waiting.now.items c.args.waiting.now.items 0) (sym e) (taken_none g.A.Acceptor.state c.args.waiting.now.items c.requires.given);
  room = search rules;
}

pub numbers-preserved : goal.numbers-preserved
numbers-preserved g c = record {
  taken = subst (IsTaken g.A.Acceptor.state c.args.waiting.now.items c.next_waiting.new.waiting.items (c.numbers.counter + 1)) (sym c.push_reserved.ensures.items)
      (taken_more g.A.Acceptor.state c.args.waiting.now.items c.numbers.waiting.items c.next_waiting.new.waiting.items c.numbers.given.items c.numbers.counter c.next_waiting.result
      c.numbers.invariant.taken c.next_waiting.ensures.first c.next_waiting.ensures.fresh c.next_waiting.ensures.rest);
  room = search rules;
}
