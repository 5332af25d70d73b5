-- Each rule is kept by each entry.
use Rattle.pool_laws.proofs.BaseLaws.{opening_base, rows_after, leads_to_base}
use Rattle.pool_laws.proofs.bases.bases_lead_to_bases.Goals as goal

pub returns : goal.returns
returns c = record { opening = opening_base; keeps = rows_after; leads = leads_to_base }
