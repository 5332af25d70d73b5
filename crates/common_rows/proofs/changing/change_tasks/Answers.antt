-- Each kind of entry changes the rows by one call, or leaves them.
use Rattle.std.proofs.Common.{refl, sym, subst, ap, ◌∙◌}
use Rattle.swarm_model.specs.Effects.{run_of_bot}
use Rattle.task_rows.specs.Acting.{ComesFromRun}
use Rattle.common_rows.specs.Changing.{run_to_end}
use Rattle.common_rows.proofs.Tasks.{kept_by, none_lost}
use Rattle.common_rows.proofs.changing.change_tasks.Goals as goal

pub returns-in-Slice-clause-rows : goal.returns-in-Slice-clause-rows
returns-in-Slice-clause-rows c = λ s same tries run. c.next_slice.ensures.rows s same

pub returns-in-New-clause-rows : goal.returns-in-New-clause-rows
returns-in-New-clause-rows c = λ s same tries run. c.add_row.ensures.rows s same

pub returns-in-Cancel-clause-rows : goal.returns-in-Cancel-clause-rows
returns-in-Cancel-clause-rows c = λ s same tries run. c.cancel.ensures.rows s same

pub returns-in-Kill-clause-rows : goal.returns-in-Kill-clause-rows
returns-in-Kill-clause-rows c = λ s same tries run. c.mark_kill.ensures.rows s same

pub returns-in-Claim-clause-rows : goal.returns-in-Claim-clause-rows
returns-in-Claim-clause-rows c = λ s same tries run. c.claim_row.ensures.rows s same

pub returns-in-None-clause-rows : goal.returns-in-None-clause-rows
returns-in-None-clause-rows c = λ s same tries run. c.append_chunk.ensures.rows s same

pub returns-in-Some-clause-rows : goal.returns-in-Some-clause-rows
returns-in-Some-clause-rows c = λ s same tries run. c.finish.ensures.rows s same tries (subst (ComesFromRun s c.in-Update.t) (sym c.in-Update.is) tt)

pub returns-in-Silence-clause-rows : goal.returns-in-Silence-clause-rows
returns-in-Silence-clause-rows c = λ s same tries run. c.finish-in-Silence.ensures.rows s same tries (subst (ComesFromRun s c.in-Silence.t) (sym c.in-Silence.is) tt)

pub returns-in-Some-run-clause-rows : goal.returns-in-Some-run-clause-rows
returns-in-Some-run-clause-rows c = λ s same tries run.
    c.finish-in-Some-run.ensures.rows s same tries
    (subst (ComesFromRun s c.in-Some-run.t) (sym c.in-Handshake.is) (sym (ap (run_to_end s.bots) c.in-Handshake.is) ∙ sym run ∙ c.in-Some-run.is))

pub returns-in-None-run-clause-rows : goal.returns-in-None-run-clause-rows
returns-in-None-run-clause-rows c = λ s same tries run.
    kept_by c.args.tasks.now.rows s c.args.entry.now _ c.in-Handshake.is same
    (none_lost s.settings.retries c.args.entry.now.moment (run_of_bot s c.in-Handshake.b) s.tasks (sym (ap (run_to_end s.bots) c.in-Handshake.is) ∙ sym run ∙ c.in-None-run.is))

pub returns-in-Dead-clause-rows : goal.returns-in-Dead-clause-rows
returns-in-Dead-clause-rows c = λ s same tries run. kept_by c.args.tasks.now.rows s c.args.entry.now _ c.in-Dead.is same refl

pub returns-in-Blob-clause-rows : goal.returns-in-Blob-clause-rows
returns-in-Blob-clause-rows c = λ s same tries run. kept_by c.args.tasks.now.rows s c.args.entry.now _ c.in-Blob.is same refl

pub returns-in-Poll-clause-rows : goal.returns-in-Poll-clause-rows
returns-in-Poll-clause-rows c = λ s same tries run. kept_by c.args.tasks.now.rows s c.args.entry.now _ c.in-Poll.is same refl

pub returns-in-Contact-clause-rows : goal.returns-in-Contact-clause-rows
returns-in-Contact-clause-rows c = λ s same tries run. kept_by c.args.tasks.now.rows s c.args.entry.now _ c.in-Contact.is same refl

pub returns-in-Event-clause-rows : goal.returns-in-Event-clause-rows
returns-in-Event-clause-rows c = λ s same tries run. kept_by c.args.tasks.now.rows s c.args.entry.now _ c.in-Event.is same refl

pub returns-in-Terminate-clause-rows : goal.returns-in-Terminate-clause-rows
returns-in-Terminate-clause-rows c = λ s same tries run. kept_by c.args.tasks.now.rows s c.args.entry.now _ c.in-Terminate.is same refl

pub returns-in-Put-clause-rows : goal.returns-in-Put-clause-rows
returns-in-Put-clause-rows c = λ s same tries run. kept_by c.args.tasks.now.rows s c.args.entry.now _ c.in-Put.is same refl
