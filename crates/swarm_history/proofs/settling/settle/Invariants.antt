-- The entries that were added were due; each takes one of those that the log still has room for.
use Rattle.std.proofs.Common.{◌≡◌, ◌-◌, ◌≤◌, length}
use Rattle.swarm_history.specs.Records.{HoldsNoOthers}
use Rattle.swarm_history.specs.Settling.{Settles}
use Rattle.swarm_history.proofs.settling.settle.Given as goal

abbrev pub invariant-loop-entry : goal.invariant-loop-entry
invariant-loop-entry g l = record {
  settles : Settles (g.D.Desk.number l.initial.desk) l.moment (g.D.Desk.kept l.initial.desk) (g.D.Desk.kept l.desk);
  ready : g.D.Desk.ready l.desk;
  grows : g.D.Desk.faults l.initial.desk ≤ g.D.Desk.faults l.desk;
  no_others : HoldsNoOthers (g.D.Desk.records l.initial.desk) (g.D.Desk.kept l.initial.desk) → HoldsNoOthers (g.D.Desk.records l.desk) (g.D.Desk.kept l.desk);
  number : g.D.Desk.number l.desk ≡ g.D.Desk.number l.initial.desk;
  rest : g.D.Desk.rest l.desk ≡ g.D.Desk.rest l.initial.desk;
}

abbrev pub decreases-loop-entry : goal.decreases-loop-entry
decreases-loop-entry g l = (g.D.Desk.kept l.desk).pool.settings.most_entries - length (g.D.Desk.kept l.desk).log
