use Rattle.std.proofs.Common.{◌≤◌, length, arith, subst, sym, ap, ◌∙◌}
use Rattle.sw_base.specs.Faults.{Rose}
use Rattle.std.proofs.lemmas.List.{take_all}
use Rattle.link_reader.specs.Heads.{IsOpen, HasNoEnd}
use Rattle.link_reader.proofs.HeadLemmas.{Grows-trans, nothing_read, none_read, one_more}
use Rattle.link_reader.proofs.head_end.read_head.Goals as goal

pub reads-init : goal.reads-init
reads-init g c = none_read _ _

pub reads-preserved : goal.reads-preserved
reads-preserved g c = one_more c.reads.invariant c.in_default.ensures c.in-Ok.ensures c.in-Ok.ensures.faults (omega arith)

pub returns-in-Ok-eq0 : goal.returns-in-Ok-eq0
returns-in-Ok-eq0 g c =
    let h = c.in-Ok-eq0.ensures in
    let here : IsOpen c.reads.pending = record { short = omega arith; no_end = c.in_default.ensures } in
    record {
      grows = Grows-trans c.reads.invariant.grows c.fill.ensures.grows;
      short = omega arith;
      faults = h.faults ∙ c.reads.invariant.faults;
      outcome = (h.outcome.1 c.in-Ok-eq0.field-0-test, subst IsOpen (nothing_read h.grows (omega arith)) here);
    }

pub returns-in-Err : goal.returns-in-Err
returns-in-Err g c =
    let h = c.in-Err.ensures in
    let here : IsOpen c.reads.pending = record { short = omega arith; no_end = c.in_default.ensures } in
    record {
      grows = Grows-trans c.reads.invariant.grows c.fill.ensures.grows;
      short = omega (arith, ap length h.outcome);
      faults = subst (λ n. Rose n (g.L.Link.state c.fill.new.link).read_faults) c.reads.invariant.faults h.faults;
      outcome = subst IsOpen (sym h.outcome) here;
    }

pub returns-then-length-eq-HEAD_LIMIT : goal.returns-then-length-eq-HEAD_LIMIT
returns-then-length-eq-HEAD_LIMIT g c =
    let full : length c.reads.pending ≤ 16384 = c.len-length.ensures.bound in
    record {
      grows = c.reads.invariant.grows;
      short = full;
      faults = c.reads.invariant.faults;
      outcome = record {
        long = omega (arith, c.len-length.ensures.length, c.if-length-eq-HEAD_LIMIT.true);
        no_end = subst HasNoEnd (sym (take_all 16384 c.reads.pending full)) c.in_default.ensures;
      };
    }
