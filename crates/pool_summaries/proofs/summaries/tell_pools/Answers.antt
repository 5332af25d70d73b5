use Rattle.std.proofs.Common.{◌≡◌, ◌∙◌, ℕ, ap, arith, length, sym, map, string_bytes}
use Rattle.pool_summaries.specs.Summaries.{first_told}
use Rattle.pool_summaries.proofs.Lines.{starts_in, logs_in, nothing_told, as_many, settings_at, told_of_machines}
use Rattle.pool_summaries.proofs.summaries.tell_pools.Goals as goal

pub loop-place-init : goal.loop-place-init
loop-place-init g c = λ none.
    c.new-text.ensures.bytes
    ∙ sym (nothing_told c.args.what c.args.pools.now (starts_in (λ m. m.start) none (map g.M.Machine.kept c.args.machines.now)) (logs_in (λ m. m.log) (map g.M.Machine.kept c.args.machines.now)))

pub bounds-machines-place : goal.bounds-machines-place
bounds-machines-place g c = omega (arith, as_many g.M.Machine.kept c.args.pools.now c.args.machines.now c.requires)

-- the machine has the settings of the pool at its place
pub write_told-requires : goal.write_told-requires
write_told-requires g c = record {
  settings = settings_at g.M.Machine.kept c.args.pools.now c.args.machines.now c.loop-place.place c.index-pools-place.result c.index-machines-place.result c.requires c.loop-place-test.true
      c.index-pools-place.is c.index-machines-place.is;
}

pub loop-place-preserved : goal.loop-place-preserved
loop-place-preserved g c = λ none.
    told_of_machines c.args.what g.M.Machine.kept none c.args.pools.now c.args.machines.now c.loop-place.place c.index-pools-place.result c.index-machines-place.result (string_bytes c.loop-place.text)
    (string_bytes c.write_told.new.text) (as_many g.M.Machine.kept c.args.pools.now c.args.machines.now c.requires) c.loop-place-test.true c.index-pools-place.is c.index-machines-place.is
    (c.loop-place.invariant none) c.in_ok-write_told.ensures

pub returns : goal.returns
returns g c = λ none.
    let over : c.loop-place.place ≡ length c.args.pools.now = omega arith in
    c.loop-place.invariant none
    ∙ ap (λ (n : ℕ). first_told c.args.what c.args.pools.now (starts_in (λ m. m.start) none (map g.M.Machine.kept c.args.machines.now)) (logs_in (λ m. m.log) (map g.M.Machine.kept c.args.machines.now)) n) over
