-- What is known once all have ended.
use Rattle.std.proofs.Common.{◌∙◌, length, map, ap, sym}
use Rattle.std.proofs.lemmas.List.{length-map}
use Rattle.shared_doors.specs.Views.{view_at, views}
use Rattle.swarm_workers.specs.declared.worked.WorkStop.TheVariants as stop
use Rattle.swarm_workers.specs.Crews.{gravest}
use Rattle.board_workers.proofs.Shutting.{left_out, shuts_both, stops_both}
use Rattle.board_workers.proofs.ending.end_all.Goals as goal

pub end_boards-stop-requires-clause-out : goal.end_boards-stop-requires-clause-out
end_boards-stop-requires-clause-out g c κs within =
    left_out _ _ _ (length c.args.workers.items) (length c.args.boards.items) (sym (length-map c.args.workers.items _)) c.end_workers-stop.ensures.shuts c.requires.out

pub returns-clause-joined : goal.returns-clause-joined
returns-clause-joined g c = λ p low. record {
  crew = view_at (views c.end_workers-stop.result.1.passes.items) p;
  joined = c.end_workers-stop.ensures.joined p low;
  first = c.end_workers-stop.ensures.first p low;
  joins = c.join.ensures.joined p low;
}

pub returns-clause-shuts : goal.returns-clause-shuts
returns-clause-shuts g c = shuts_both _ _ _ _ _ c.end_workers-stop.ensures.shuts c.end_boards-stop.ensures.shuts

pub returns-clause-stop : goal.returns-clause-stop
returns-clause-stop g c =
    c.end_boards-stop.ensures.stop ∙ ap (λ s. gravest s (map (λ b. b.worked.stop) c.args.boards.items)) c.end_workers-stop.ensures.stop
    ∙ sym (stops_both stop.Done (map (λ w. w.worked.stop) c.args.workers.items) (map (λ b. b.worked.stop) c.args.boards.items))
