-- A log that nothing led to.
use Rattle.std.proofs.Common.{◌≡◌, List, length, ap, arith}
use Rattle.swarm_model.specs.Types.{Entry, PoolSettings}
use Rattle.swarm_model.specs.Bases.{Base, empty_base, front}

-- it has the length of its entries
pub front_is_length : (settings : PoolSettings) (start : Base) (log : List Entry) → start ≡ empty_base settings → front start log ≡ length log
front_is_length settings start log is = let none : start.count ≡ 0 = ap (λ (b : Base). b.count) is in omega (arith, none)
