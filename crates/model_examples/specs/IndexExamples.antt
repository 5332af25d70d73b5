-- Small links and deadlines.
use Rattle.std.specs.Prelude.{ℕ, List, [], ◌∷◌}
use Rattle.swarm_model.specs.declared.deadline.Cause.{Cause}
use Rattle.swarm_model.specs.declared.deadline.Deadline.{Deadline}
use Rattle.pool_index.specs.declared.source_link.SourceLink.{SourceLink}
use Rattle.pool_index.specs.declared.use_link.UseLink.{UseLink}

-- two digests with the same first byte
abbrev pub first_digest : List ℕ
first_digest = 1 ∷ 2 ∷ []

abbrev pub second_digest : List ℕ
second_digest = 1 ∷ 3 ∷ []

abbrev pub source : List ℕ → ℕ → SourceLink
source hash task = record { hash = hash; task = task }

abbrev pub used : List ℕ → ℕ → UseLink
used digest uses = record { digest = digest; uses = uses }

abbrev pub ends : ℕ → Cause → ℕ → Deadline
ends moment cause number = record { moment = moment; cause = cause; number = number }
