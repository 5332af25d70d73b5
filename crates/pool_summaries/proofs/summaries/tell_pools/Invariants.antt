use Rattle.std.proofs.Common.{◌≡◌, map, [], slice_index_or, string_bytes}
use Rattle.swarm_model.specs.Bases.{Base}
use Rattle.pool_summaries.specs.Summaries.{first_told}
use Rattle.pool_summaries.proofs.summaries.tell_pools.Given as goal

abbrev pub invariant-loop-place : goal.invariant-loop-place
invariant-loop-place g l =
    (none : Base)
    → string_bytes l.text ≡ first_told l.what l.pools (λ place. slice_index_or (map (λ m. m.start) (map g.M.Machine.kept l.machines)) place none)
    (λ place. slice_index_or (map (λ m. m.log) (map g.M.Machine.kept l.machines)) place []) l.place
