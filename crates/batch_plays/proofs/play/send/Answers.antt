use Rattle.std.proofs.Common.{◌≡◌, [], ◌∷◌, ap, sym, ◌∙◌}
use Rattle.swarm_model.specs.declared.pool_settings.PoolSettings.{PoolSettings}
use Rattle.batch_plays.proofs.Playing.{on_ok, on_err, sent_turn, stopped_turn}
use Rattle.batch_plays.proofs.play.send.Goals as goal

pub returns-clause-ready : goal.returns-clause-ready
returns-clause-ready g c =
    on_ok c.mark.result _ _
    (λ p. record {
      one = c.requires.ready.one ∙ ap (λ (s : PoolSettings). s ∷ []) (sym c.ask_line.ensures.settings);
      filled = c.ask_line.ensures.filled;
      progress = p;
    })
    c.mark.ensures.progress

pub returns-clause-sent : goal.returns-clause-sent
returns-clause-sent g c =
    on_ok c.mark.result _ _
    (sent_turn c.args.settings.now c.args.who.now (g.M.Machine.kept c.args.machine.now) (g.M.Machine.kept c.ask_line.new.machine) c.ask_line.ensures.start c.args.files.now c.in-Some.line c.args.moment c.in_ok-told.told
    (sym c.next.ensures ∙ c.in-Some.is) c.in_ok-told.ensures.sent c.mark.new.self)
    c.mark.ensures.ok

pub returns-clause-stopped : goal.returns-clause-stopped
returns-clause-stopped g c =
    on_err c.mark.result _ _
    (stopped_turn c.args.settings.now c.args.who.now (g.M.Machine.kept c.args.machine.now) (g.M.Machine.kept c.ask_line.new.machine) c.ask_line.ensures.start c.args.files.now c.in-Some.line c.args.moment c.in_ok-told.told
    (sym c.next.ensures ∙ c.in-Some.is) c.in_ok-told.ensures.sent c.mark.new.self)
    c.mark.ensures.err
