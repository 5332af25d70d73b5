-- The sets are the old ones and the one that is put.
use Rattle.std.proofs.lemmas.List.Elements.{All-set, All-push}
use Rattle.bot_registry.specs.Demands.{IsCounted}
use Rattle.bot_registry.proofs.demand.Demands.put.Goals.{then-self-len, else-self-len+in_ok-push}
use Rattle.bot_registry.proofs.demand.Demands.put.Goals as goal

pub returns-clause-counted : goal.returns-clause-counted
returns-clause-counted c = λ rows all here. elim c.if-self-len.branch [
  | then-self-len w ↦
      rw (w.self-is, w.replace.ensures.after) (All-set (IsCounted rows) c.args.self.now.sets.items c.args.self.now.next c.args.demand here all)
  | else-self-len+in_ok-push w ↦
      rw (w.self-is, w.in_ok-push.ensures.items) (All-push (IsCounted rows) c.args.self.now.sets.items c.args.demand all here)
]
