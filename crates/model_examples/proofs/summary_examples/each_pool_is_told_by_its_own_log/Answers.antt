use Rattle.std.proofs.Common.{refl}
use Rattle.std.specs.Fmt.{digits}
use Rattle.pool_summaries.specs.Summaries.{pool_line, count_line, first_told}
use Rattle.model_examples.proofs.summary_examples.each_pool_is_told_by_its_own_log.Goals as goal

pub returns : goal.returns
unfolding pool_line count_line first_told digits
returns c = refl
