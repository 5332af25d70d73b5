-- The last of the pools that are left is closed.
use Rattle.std.proofs.Common.{◌≡◌, ◌∷◌, [], length, refl, arith, sym, ap, ◌∙◌, append-nil, IsTrue, is_some, Some}
use Rattle.std.proofs.lemmas.List.{length_push}
use Rattle.shared_doors.specs.Machines.{lasting_in, log_in}
use Rattle.shared_doors.proofs.ByPlace.{all_front}
use Rattle.shared_doors.proofs.LastPools.{behind, closed_more, last_alone, last_own, last_standing, no_items, one_less, turned}
use Rattle.shared_doors.proofs.closing.close_all.Goals as goal

pub take_last-pass-requires : goal.take_last-pass-requires
take_last-pass-requires g c =
    let less = ap length c.in-Some.ensures.items ∙ length_push c.pop.new.self.items c.in-Some.turnstile in
    record { some = omega (arith, less, c.loop-turnstile.invariant.count); whole = c.loop-turnstile.invariant.whole }

pub close_one-machine-requires : goal.close_one-machine-requires
close_one-machine-requires g c =
    let i = c.loop-turnstile.invariant in
    let t = c.in-Some.turnstile in
    let p = c.take_last-pass.result in
    let xs = c.pop.new.self.items in
    let ys = c.take_last-pass.new.passes.items in
    let is_t = one_less xs i.closed.0 t c.args.turnstiles.items c.loop-turnstile.turnstiles.items i.closed.2 c.in-Some.ensures.items in
    let is_p = one_less ys i.closed.1 (Some p) c.args.passes.items c.loop-turnstile.passes.items i.closed.3 c.take_last-pass.ensures in
    let less_t = ap length c.in-Some.ensures.items ∙ length_push xs t in
    let less_p = ap length c.take_last-pass.ensures ∙ length_push ys (Some p) in
    let even : length ys ≡ length xs = omega (arith, less_t, less_p, i.count) in
    record {
      own = last_own (lasting_in g.M.Machine.kept) c.args.turnstiles.items xs i.closed.0 c.args.passes.items ys i.closed.1 t (Some p) p c.requires.own is_t is_p refl even;
      standing = last_standing (lasting_in g.M.Machine.kept) c.args.turnstiles.items xs i.closed.0 c.args.passes.items ys i.closed.1 t (Some p) p c.requires.own is_t is_p refl even c.requires.standing;
      alone = last_alone (lasting_in g.M.Machine.kept) c.args.turnstiles.items xs i.closed.0 c.args.passes.items ys i.closed.1 t (Some p) p c.requires.own is_t is_p refl even c.requires.alone;
    }

pub loop-turnstile-preserved : goal.loop-turnstile-preserved
loop-turnstile-preserved g c =
    let i = c.loop-turnstile.invariant in
    let t = c.in-Some.turnstile in
    let p = c.take_last-pass.result in
    let xs = c.pop.new.self.items in
    let ys = c.take_last-pass.new.passes.items in
    let is_t = one_less xs i.closed.0 t c.args.turnstiles.items c.loop-turnstile.turnstiles.items i.closed.2 c.in-Some.ensures.items in
    let is_p = one_less ys i.closed.1 (Some p) c.args.passes.items c.loop-turnstile.passes.items i.closed.3 c.take_last-pass.ensures in
    let less_t = ap length c.in-Some.ensures.items ∙ length_push xs t in
    let less_p = ap length c.take_last-pass.ensures ∙ length_push ys (Some p) in
    record {
      count = omega (arith, less_t, less_p, i.count);
      whole = all_front (λ o. IsTrue (is_some o)) ys (Some p ∷ []) c.loop-turnstile.passes.items c.take_last-pass.ensures i.whole;
      room = omega (arith, less_t, i.room, c.push_reserved.ensures.len, c.push_reserved.ensures.capacity);
      closed = (
        t ∷ i.closed.0,
        Some p ∷ i.closed.1,
        behind xs i.closed.0 t c.args.turnstiles.items is_t,
        behind ys i.closed.1 (Some p) c.args.passes.items is_p,
        closed_more (lasting_in g.M.Machine.kept) (log_in g.M.Machine.kept) i.closed.0 i.closed.1 t (Some p) p
            (g.M.Machine.kept c.close_one-machine.result) _ _ refl
            (turned g.M.Machine.kept c.loop-turnstile.machines.items c.push_reserved.new.self.items c.close_one-machine.result c.push_reserved.ensures.items)
            c.close_one-machine.ensures i.closed.4,
      );
    }

pub loop-turnstile-init : goal.loop-turnstile-init
loop-turnstile-init g c = record {
  count = c.requires.own.count;
  whole = c.requires.own.whole;
  room = omega (arith, c.requires.empty, c.requires.room);
  closed = ([], [], sym (append-nil c.args.turnstiles.items), sym (append-nil c.args.passes.items), rw (no_items c.args.room.items (omega (arith, c.requires.empty, c.args.room.ok.0))) tt);
}
