-- What a copy stands for after the entries of a log.
use Rattle.std.proofs.Common.{◌≡◌, List, [], ◌∷◌, ◌++◌, fold, sym, ap, ◌∙◌}
use Rattle.std.proofs.lemmas.List.{append-nil, append_assoc}
use Rattle.std.proofs.lemmas.List.Sums.{fold-append}
use Rattle.swarm_model.specs.declared.pool_state.PoolState.{PoolState}
use Rattle.swarm_model.specs.declared.entry.Entry.{Entry}
use Rattle.swarm_model.specs.Effects.{after}
use Rattle.swarm_model.specs.History.{replay}
use Rattle.row_copies.specs.declared.kept.Kept.{Kept}
use Rattle.row_copies.specs.Kept.{rows_alone, followed}
use Rattle.row_copies.proofs.RowsAlone.{rows_alone_after}

-- the rows after entries, of a pool that has these rows
pub rows_follow : (kept : Kept) (s : PoolState) (es : List Entry) → kept.now ≡ rows_alone s → (fold followed kept es).now ≡ rows_alone (replay s es)
rows_follow kept s [] is = is
rows_follow kept s (e ∷ es) is = rows_follow (followed kept e) (after s e) es (ap (λ (p : PoolState). rows_alone (after p e)) is ∙ sym (rows_alone_after s e))

-- the entries come behind those that were followed, and what it began with stays
pub follows : (kept : Kept) (s : PoolState) (es : List Entry) → kept.now ≡ rows_alone s → fold followed kept es ≡ record { base = kept.base; now = rows_alone (replay s es); log = kept.log ++ es }
follows kept s [] is = λ i. let x : Kept = record { base = kept.base; now = is i; log = sym (append-nil kept.log) i } in x
follows kept s (e ∷ es) is =
    follows (followed kept e) (after s e) es (ap (λ (p : PoolState). rows_alone (after p e)) is ∙ sym (rows_alone_after s e))
    ∙ ap (λ (l : List Entry). let x : Kept = record { base = kept.base; now = rows_alone (replay s (e ∷ es)); log = l } in x) (append_assoc kept.log (e ∷ []) es)

-- a copy that stands for its base after its log goes on to do so
pub replays : (kept : Kept) (es : List Entry) → kept.now ≡ rows_alone (replay kept.base kept.log) → fold followed kept es ≡ record { base = kept.base; now = rows_alone (replay kept.base (kept.log ++ es)); log = kept.log ++ es }
replays kept es is =
    follows kept (replay kept.base kept.log) es is
    ∙ ap (λ (p : PoolState). let x : Kept = record { base = kept.base; now = rows_alone p; log = kept.log ++ es } in x) (sym (fold-append after kept.base kept.log es))
