-- A call that is refused adds no entry of its own.
use Rattle.std.specs.Bool.{MatchBool}
use Rattle.std.specs.Option.{option_map}
use Rattle.std.proofs.Common.{◌≡◌, ◌++◌, Bool, true, false, List, None, ap, sym, ◌∙◌}
use Rattle.swarm_history.specs.Types.{Reply, Entry}
use Rattle.swarm_model.specs.Answers.{entry_at}
use Rattle.swarm_model.specs.Bases.{Base, front}
use Rattle.swarm_model.specs.Points.{is_ahead, Call, Growth, IsPoint}
use Rattle.swarm_model.specs.History.{replay, moment_of}
use Rattle.pool_laws.proofs.Refusals.{quiet}
use Rattle.pool_doors.specs.Doors.{IsRefusal}

split : {A B C : Type 0} (b : Bool) → MatchBool b A B → (A → C) → (B → C) → C
split true m f g = f m
split false m f g = g m

pub refused_adds_nothing : {start : Base} {call : Call} {old new : List Entry} {growth : Growth} {answered : Reply}
    → IsPoint start call old new growth answered → IsRefusal answered → growth.own ≡ None
refused_adds_nothing {start = start} {call = call} {old = old} {growth = growth} p r =
    let at = replay start.rows (old ++ growth.others) in
    let moment = moment_of at call.moment in
    split (is_ahead (front start (old ++ growth.others)) call.after) p.finds (λ early. early.own_is)
    (λ served. sym served.entry ∙ ap (option_map (entry_at moment call.pass)) (quiet (replay at growth.settled) call.caller moment call.request r.0 (served.reply ∙ r.1)))
