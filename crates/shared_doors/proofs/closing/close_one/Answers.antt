-- What never changed of the machine tells where its log begins.
use Rattle.std.proofs.Common.{ap, ◌∙◌}
use Rattle.shared_doors.specs.declared.view.Lasting.{Lasting}
use Rattle.shared_doors.specs.Lasting.{start_in}
use Rattle.shared_doors.proofs.closing.close_one.Goals as goal

pub returns : goal.returns
returns g c =
    let e = c.in-Ok.ensures in
    record {
      settings_are = ap (λ (l : Lasting). l.settings) e.fixed;
      begins = ap start_in e.fixed ∙ c.requires.standing.2;
      history = c.length-length.ensures.history;
      seen = e.log;
      all_joined = e.joined;
      no_others = e.by_passes;
    }
