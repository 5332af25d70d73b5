-- The rows of the bots after an entry, and with one that comes.
use Rattle.std.proofs.Common.{◌≡◌, ℕ, List, [], ◌∷◌, ◌++◌, map, append-nil, refl, sym, ap, ◌∙◌, Option, Some, None}
use Rattle.std.specs.Option.{option_map_or}
use Rattle.swarm_model.specs.declared.pool_state.PoolState.{PoolState}
use Rattle.swarm_model.specs.declared.entry.EntryKind.{EntryKind}
use Rattle.swarm_model.specs.declared.entry.EntryKind.TheVariants as kind
use Rattle.swarm_model.specs.declared.bot_row.BotRow.{BotRow}
use Rattle.swarm_model.specs.Numbers.{change_at}
use Rattle.swarm_model.specs.Effects.{no_of_bot, after}
use Rattle.row_changes.specs.Rows.{row_of}
use Rattle.row_changes.specs.Bots.{with_bot, bots_after}
use Rattle.row_changes.proofs.Numbered.{changed_none}

-- the rows are those of every pool that had the rows before
pub bots_after-is : (s : PoolState) (moment pass : ℕ) (k : EntryKind) → bots_after moment k s.bots ≡ (after s (record { moment = moment; pass = pass; kind = k })).bots
bots_after-is s moment pass (kind.Handshake b id session dims q) = refl
bots_after-is s moment pass (kind.Silence t) = sym (append-nil _)
bots_after-is s moment pass (kind.Dead b) = sym (append-nil _)
bots_after-is s moment pass (kind.Poll b dims q hint) = sym (append-nil _)
bots_after-is s moment pass (kind.Claim b t claim) = sym (append-nil _)
bots_after-is s moment pass (kind.Contact b) = sym (append-nil _)
bots_after-is s moment pass (kind.Event b e text) = sym (append-nil _)
bots_after-is s moment pass (kind.Update b t try_no chunk last) = sym (append-nil _)
bots_after-is s moment pass (kind.Terminate b) = sym (append-nil _)
bots_after-is s moment pass (kind.Slice t to) = sym (append-nil _)
bots_after-is s moment pass (kind.Blob n kept) = sym (append-nil _)
bots_after-is s moment pass (kind.New t who request state slice from) = sym (append-nil _)
bots_after-is s moment pass (kind.Cancel t) = sym (append-nil _)
bots_after-is s moment pass (kind.Kill t) = sym (append-nil _)
bots_after-is s moment pass (kind.Put digest size) = sym (append-nil _)

-- the row of a new bot stands behind all others, which stay
pub with_bot-new : (row : BotRow) (rows : List BotRow) → row_of no_of_bot row.no rows ≡ None → with_bot row rows ≡ rows ++ row ∷ []
with_bot-new row rows none =
    sym (ap (λ (xs : List BotRow). xs ++ row ∷ []) (sym (changed_none no_of_bot rows row.no (λ old. row) none))
    ∙ ap (λ (o : Option BotRow). map (change_at no_of_bot row.no (λ old. row)) rows ++ option_map_or (λ old. []) o (row ∷ [])) (sym none))

-- the row of a bot that is there stands at its place
pub with_bot-known : (row known : BotRow) (rows : List BotRow) → row_of no_of_bot row.no rows ≡ Some known → with_bot row rows ≡ map (change_at no_of_bot row.no (λ old. row)) rows
with_bot-known row known rows some =
    ap (λ (o : Option BotRow). map (change_at no_of_bot row.no (λ old. row)) rows ++ option_map_or (λ old. []) o (row ∷ [])) some ∙ append-nil _
