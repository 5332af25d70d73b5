-- An entry that may follow a pool suits its rows.
use Rattle.std.proofs.Common.{◌≡◌, ℕ, ◌+◌, List, length, Option, Some, None, ◌⊎◌, inl, inr, refl, MatchOption, eqb-true, sym, ap, ◌∙◌, subst, arith}
use Rattle.dimensions.proofs.Found.{IfSome-find}
use Rattle.swarm_model.specs.declared.bot_row.BotRow.{BotRow}
use Rattle.swarm_model.specs.declared.pool_state.PoolState.{PoolState}
use Rattle.swarm_model.specs.declared.entry.Entry.{Entry}
use Rattle.swarm_model.specs.declared.entry.EntryKind.{EntryKind}
use Rattle.swarm_model.specs.declared.entry.EntryKind.TheVariants as kind
use Rattle.swarm_model.specs.Finding.{is_bot, is_task, bot_of}
use Rattle.swarm_model.specs.History.{MayFollow}
use Rattle.swarm_model.specs.Soundness.{IsSound}
use Rattle.swarm_model.specs.Effects.{no_of_bot}
use Rattle.row_changes.specs.Rows.{HasFewSlices}
use Rattle.pool_laws.proofs.Alike.{same_is}
use Rattle.pool_laws.proofs.Lists.{Found, find_is, number_within}
use Rattle.pool_laws.proofs.Preconditions.{Finds, IsOld, IsNewcomer}
use Rattle.pool_laws.proofs.EntryPreconditions.{finds}
use Rattle.pool_laws.proofs.Rows.{find_bot}
use Rattle.pool_changes.specs.Blobs.{KeepsShort}
use Rattle.pool_changes.proofs.BlobEffects.{keeps_short}
use Rattle.pool_log.proofs.RowFacts.{all_few}
use Rattle.bot_registry.specs.Plain.{RegistryState}
use Rattle.bot_registry.specs.Acting.{row_of, row_named, Follows, IsNewBot}
use Rattle.common_rows.specs.Suiting.{SuitsTasks}

-- the rows of tasks can take it
pub suits_tasks : (s : PoolState) (e : Entry) → IsSound s → MayFollow s e → SuitsTasks s.tasks e.kind
suits_tasks s e sound follows = of_kind e.kind (finds s e follows) (keeps_short s e follows)
  where
    of_kind : (k : EntryKind) → Finds s k → KeepsShort s.tasks k → SuitsTasks s.tasks k
    of_kind (kind.New t who request state slice from) f short = f.next
    of_kind (kind.Slice t to) f short = IfSome-find HasFewSlices (is_task t) s.tasks (all_few s sound)
    of_kind (kind.Update b t try_no chunk last) f short = short
    of_kind k f short = tt

-- so can those of bots: a bot that comes is new, or known by its name
pub follows_bots : (s : PoolState) (e : Entry) (kept : RegistryState) → kept.rows ≡ s.bots → kept.most ≡ s.settings.most_bots → IsSound s → MayFollow s e → Follows kept e.kind
follows_bots s e kept same most sound follows = of_kind e.kind (finds s e follows)
  where
    greets : (b : ℕ) (id : List ℕ) → IsNewcomer s b id ⊎ IsOld s b id → (r : Option BotRow) → bot_of s b ≡ r → MatchOption r (IsNewBot kept b id) (λ bot. bot.name ≡ id)
    greets b id (inl new) None is =
        record {
          next = new.next ∙ ap (λ (rows : List BotRow). length rows + 1) (sym same);
          fresh = ap (λ (rows : List BotRow). row_named rows id) same ∙ new.unknown;
          few = (let room = new.room in let count = ap (λ (rows : List BotRow). length rows) same in omega (arith, room, count, most));
        }
    greets b id (inl new) (Some y) is =
        (let found : Found (is_bot b) s.bots y = find_is (is_bot b) s.bots y is in
        let named : y.no ≡ b = eqb-true y.no b found.passes in
        let low = (number_within no_of_bot 1 s.bots sound.bots_numbered y found.among).1 in
        let next = new.next in absurd (omega (arith, named, low, next)))
    greets b id (inr old) None is = absurd (cc (find_bot s sound old.bot b old.among old.named, is))
    greets b id (inr old) (Some y) is =
        (let found : Some old.bot ≡ Some y = sym (find_bot s sound old.bot b old.among old.named) ∙ is in
        let same_bot : old.bot ≡ y = cc (found) in
        subst (λ (x : BotRow). x.name ≡ id) same_bot (same_is old.bot.name id old.called))

    of_kind : (k : EntryKind) → Finds s k → Follows kept k
    of_kind (kind.Handshake b id session dims q) f =
        subst (λ (rows : List BotRow). MatchOption (row_of rows b) (IsNewBot kept b id) (λ bot. bot.name ≡ id)) (sym same) (greets b id f (bot_of s b) refl)
    of_kind k f = tt

-- what a registry can take, another one of the same rows can take
pub follows_alike : (a b : RegistryState) (k : EntryKind) → a.rows ≡ b.rows → a.most ≡ b.most → Follows a k → Follows b k
follows_alike a b (kind.Handshake n id session dims q) rows most follows = by_row (row_of a.rows n) (row_of b.rows n) (ap (λ (x : List BotRow). row_of x n) rows) follows
  where
    new : IsNewBot a n id → IsNewBot b n id
    new its = record {
      next = its.next ∙ ap (λ (x : List BotRow). length x + 1) rows;
      fresh = ap (λ (x : List BotRow). row_named x id) (sym rows) ∙ its.fresh;
      few = (let few = its.few in let count = ap (λ (x : List BotRow). length x) rows in omega (arith, few, count, most));
    }

    by_row : (r q : Option BotRow) → r ≡ q → MatchOption r (IsNewBot a n id) (λ bot. bot.name ≡ id) → MatchOption q (IsNewBot b n id) (λ bot. bot.name ≡ id)
    by_row None None is its = new its
    by_row None (Some y) is its = absurd (cc (is))
    by_row (Some x) None is its = absurd (cc (is))
    by_row (Some x) (Some y) is its = (let same : x ≡ y = cc (is) in subst (λ (z : BotRow). z.name ≡ id) same its)
follows_alike a b k rows most follows = tt
