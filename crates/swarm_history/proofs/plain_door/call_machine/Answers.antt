-- A call of the one machine, before which no other wrote.
use Rattle.std.proofs.Common.{ℕ, List, Option, ap, rules}
use Rattle.swarm_history.proofs.OwnPoints.{served_call}
use Rattle.swarm_history.proofs.plain_door.call_machine.Goals as goal

pub returns-clause-done : goal.returns-clause-done
returns-clause-done g c =
    let done = served_call {start = (g.M.Machine.kept c.args.machine.now).start} (g.M.Machine.kept c.serve-result.new.desk.machine.now) c.serve-result.result
    c.serve-result.ensures.start c.serve-result.ensures.point c.serve-result.ensures.shows c.serve-result.ensures.stopped in
    search rules

pub returns-clause-base : goal.returns-clause-base
returns-clause-base g c = let base = ap (λ (r : ℕ × ℕ × Option (List (List ℕ) × ℕ)). r.2) c.serve-result.ensures.rest in search rules
