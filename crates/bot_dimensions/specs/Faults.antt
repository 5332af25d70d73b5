-- How a fault is told.
use Rattle.std.specs.Prelude.{ℕ, List, codes}
use Rattle.bot_dimensions.specs.declared.pairs.PairsFault.{PairsFault}
use Rattle.bot_dimensions.specs.declared.pairs.PairsFault.TheVariants.{Memory, Grammar}

abbrev pub fault_text : PairsFault → List ℕ
fault_text Memory = codes "want of memory"
fault_text Grammar = codes "not the dimensions of a bot"
