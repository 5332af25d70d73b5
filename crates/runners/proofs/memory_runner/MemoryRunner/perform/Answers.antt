use Rattle.std.proofs.Common.{refl, inl}
use Rattle.runners.specs.declared.answer.RunnerAnswer.TheVariants as answer
use Rattle.runners.proofs.Taking.{takes_done}
use Rattle.runners.proofs.memory_runner.MemoryRunner.perform.Goals as goal

pub returns-then-take_done : goal.returns-then-take_done
returns-then-take_done c = record {
  answer = takes_done c.args.call c.requires.plain c.args.self.now.calls.items c.push_call.new.calls.items c.if-not-push_call.ensures
      c.args.self.now.output.items c.deref.result.now c.deref.ensures.value
      c.args.self.now.at c.take_done.new.at c.args.self.now.answers.items c.take_done.new.answers.items answer.Done c.if-take_done.ensures.taken c.if-take_done.ensures.done
      c.args.self.now.faults c.args.self.now.faults;
  faults = refl;
}

pub returns-else-take_done : goal.returns-else-take_done
returns-else-take_done c = record {
  rose = c.count_fault.ensures;
  told = inl (takes_done c.args.call c.requires.plain c.args.self.now.calls.items c.push_call.new.calls.items c.if-not-push_call.ensures
      c.args.self.now.output.items c.deref.result.now c.deref.ensures.value
      c.args.self.now.at c.take_done.new.at c.args.self.now.answers.items c.take_done.new.answers.items answer.Failure c.if-take_done.ensures.taken c.if-take_done.ensures.done
      c.args.self.now.faults c.count_fault.new.faults);
}
