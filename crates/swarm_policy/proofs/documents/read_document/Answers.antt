use Rattle.std.proofs.Common.{rules, ap, sym, ◌∙◌, Err}
use Rattle.swarm_policy.specs.Documents.{or_no_toml}
use Rattle.swarm_policy.proofs.DocumentTable.{table_some, table_none}
use Rattle.swarm_policy.proofs.documents.read_document.Goals as goal

pub returns-in-Ok : goal.returns-in-Ok
returns-in-Ok c = ap or_no_toml (table_some _ _ c.in-Ok.ensures.ok.0 c.in-Ok.ensures.ok.1)

pub returns-else-is_memory : goal.returns-else-is_memory
returns-else-is_memory c different =
    ap or_no_toml (table_none _ (c.in-Err.ensures.refused (search rules))) ∙ ap (λ e. Err e) (sym (c.broken.ensures different))
