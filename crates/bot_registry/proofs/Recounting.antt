-- The sets while an entry changes a bot, seen from the rows after the entry.
use Rattle.std.proofs.Common.{◌≡◌, ℕ, ◌+◌, List, [], ◌∷◌, ◌++◌, map, refl, sym, ap, ◌∙◌, subst, Option, Some, None, Bool, true, false, cond, arith}
use Rattle.std.specs.Prelude.{◌==◌, if◌then◌else◌, MatchOption}
use Rattle.std.specs.List.{count_by, All}
use Rattle.std.specs.Option.{option_map, option_and_then}
use Rattle.std.proofs.lemmas.List.Elements.{All-weaker}
use Rattle.bot_registry.specs.Types.{DimSet, BotDims, Text, BotRow, EntryKind}
use Rattle.dimensions.specs.Matching.{matches}
use Rattle.swarm_model.specs.declared.entry.EntryKind.TheVariants as kind
use Rattle.swarm_model.specs.Numbers.{AreNumbered}
use Rattle.swarm_model.specs.Slices.{could_run}
use Rattle.swarm_model.specs.Effects.{no_of_bot, bot_after, session_row, bot_at, idle_bot_at, heard, dead_bot, polled, assigned_bot, event_effect, idle_bot, terminated}
use Rattle.row_changes.specs.Bots.{with_bot, bots_after}
use Rattle.row_changes.proofs.RowEffects.{with_bot-new, with_bot-known}
use Rattle.bot_registry.specs.declared.demand.Demand.{Demand}
use Rattle.bot_registry.specs.Acting.{row_of}
use Rattle.bot_registry.specs.Demands.{IsCountedBut, KeepsDims, bot_of_entry, row_of_entry, capable_one}
use Rattle.bot_registry.proofs.Counting.{counted_change, row_of-map, count-push, row_of-push}
use Rattle.bot_registry.proofs.RowEffects.{after_no}

-- ---- an entry changes the row of the number that it names, and no other

if_other : (t : Bool) (x y : BotRow) → t ≡ false → (if t then x else y) ≡ y
if_other true x y other = absurd (cc)
if_other false x y other = refl

some_is : (a b : ℕ) → Some a ≡ Some b → a ≡ b
some_is a b e = cc

at_other : (b number : ℕ) (change : BotRow → BotRow) (bot : BotRow) → Some b ≡ Some number → (bot.no == number) ≡ false → bot_at b change bot ≡ bot
at_other b number change bot is other = if_other (bot.no == b) (change bot) bot (ap (λ (n : ℕ). bot.no == n) (some_is b number is) ∙ other)

only : (moment : ℕ) (k : EntryKind) (number : ℕ) → bot_of_entry k ≡ Some number → (bot : BotRow) → (bot.no == number) ≡ false → bot_after moment k bot ≡ bot
only moment (kind.Dead b) number is bot other = at_other b number dead_bot bot is other
only moment (kind.Handshake b id session dims q) number is bot other = at_other b number (λ old. session_row moment b id session dims q) bot is other
only moment (kind.Poll b dims q hint) number is bot other = at_other b number (polled moment dims q hint) bot is other
only moment (kind.Claim b t claim) number is bot other = at_other b number (assigned_bot moment t) bot is other
only moment (kind.Contact b) number is bot other = at_other b number (heard moment) bot is other
only moment (kind.Event b e text) number is bot other = at_other b number (event_effect moment e text) bot is other
only moment (kind.Update b t try_no chunk None) number is bot other = at_other b number (heard moment) bot is other
only moment (kind.Update b t try_no chunk (Some last)) number is bot other =
    ap (idle_bot_at b last) (at_other b number (heard moment) bot is other) ∙ at_other b number idle_bot bot is other
only moment (kind.Terminate b) number is bot other = at_other b number terminated bot is other
only moment k number is bot other = absurd (cc)

-- ---- the sets that leave out a bot serve for its new row

-- the row of the number before the entry and after it, and the numbers of bots that could run a set
pub record IsChanged (old new : List BotRow) (number : ℕ) (row after : Option BotRow) : Type 0 where
  pub before : row_of old number ≡ row
  pub behind : row_of new number ≡ after
  pub counts : (dims : DimSet) → count_by (could_run dims) new + capable_one dims row ≡ count_by (could_run dims) old + capable_one dims after

-- a bot that was there is changed, or none has the number
changed : (moment : ℕ) (k : EntryKind) (number : ℕ) (rows : List BotRow) → bot_of_entry k ≡ Some number → AreNumbered no_of_bot 1 rows → (row : Option BotRow) → row_of rows number ≡ row →
    IsChanged rows (map (bot_after moment k) rows) number row (option_map (bot_after moment k) row)
changed moment k number rows is numbered row there = record {
  before = there;
  behind = row_of-map (bot_after moment k) number (after_no moment k) rows ∙ ap (option_map (bot_after moment k)) there;
  counts = λ dims.
      subst (λ (o : Option BotRow). count_by (could_run dims) (map (bot_after moment k) rows) + capable_one dims o ≡ count_by (could_run dims) rows + capable_one dims (option_map (bot_after moment k) o)) there
      (counted_change (bot_after moment k) number (after_no moment k) (only moment k number is) (could_run dims) 1 rows numbered);
}

-- a bot comes for the first time
added : (rows : List BotRow) (row : BotRow) → row_of rows row.no ≡ None → IsChanged rows (rows ++ row ∷ []) row.no None (Some row)
added rows row none = record {
  before = none;
  behind = row_of-push rows row none;
  counts = λ dims. omega (arith, count-push (could_run dims) rows row);
}

-- what is kept of a bot that stays included
abbrev StaysIncluded : EntryKind → Bool → Option BotRow → Type 0
StaysIncluded k included row = included ≡ true → MatchOption row ⊥ (KeepsDims k)

same_match : (dims : DimSet) (a b : BotDims) → a ≡ b → cond {A = ℕ} (matches a dims) 1 0 ≡ cond {A = ℕ} (matches b dims) 1 0
same_match dims a b e = ap (λ (x : BotDims). cond {A = ℕ} (matches x dims) 1 0) e

-- a set from which the old row is left out
known_bot : (moment : ℕ) (k : EntryKind) (old new : List BotRow) (number : ℕ) (row : Option BotRow) (included : Bool) → StaysIncluded k included row →
    IsChanged old new number row (option_map (bot_after moment k) row) → (demand : Demand) → IsCountedBut old row included demand → IsCountedBut new (option_map (bot_after moment k) row) included demand
known_bot moment k old new number None true stays change demand left = absurd (stays refl)
known_bot moment k old new number None false stays change demand left = omega (arith, left, change.counts demand.dims)
known_bot moment k old new number (Some bot) true stays change demand left =
    omega (arith, left, change.counts demand.dims, same_match demand.dims (bot_after moment k bot).dims bot.dims (stays refl moment))
known_bot moment k old new number (Some bot) false stays change demand left = omega (arith, left, change.counts demand.dims)

new_bot : (k : EntryKind) (old new : List BotRow) (number : ℕ) (row : BotRow) (included : Bool) → StaysIncluded k included None → IsChanged old new number None (Some row) →
    (demand : Demand) → IsCountedBut old None included demand → IsCountedBut new (Some row) included demand
new_bot k old new number row true stays change demand left = absurd (stays refl)
new_bot k old new number row false stays change demand left = omega (arith, left, change.counts demand.dims)

module _ (moment : ℕ) (k : EntryKind) (number : ℕ) (rows : List BotRow) (is : bot_of_entry k ≡ Some number) (numbered : AreNumbered no_of_bot 1 rows) (included : Bool) (row : Option BotRow)
    (there : row_of rows number ≡ row) (stays : StaysIncluded k included row) (demands : List Demand) (all : All (IsCountedBut rows row included) demands) where
  abbrev Serves : List BotRow → Type 0
  Serves new = All (IsCountedBut new (row_of_entry k new) included) demands

  serves : (new : List BotRow) (after : Option BotRow) → IsChanged rows new number row after →
      ((demand : Demand) → IsCountedBut rows row included demand → IsCountedBut new after included demand) → Serves new
  serves new after change step =
      let now : row_of_entry k new ≡ after = ap (option_and_then (row_of new)) is ∙ change.behind in
      subst (λ (o : Option BotRow). All (IsCountedBut new o included) demands) (sym now) (All-weaker (IsCountedBut rows row included) (IsCountedBut new after included) step demands all)

  known_serves : Serves (map (bot_after moment k) rows)
  known_serves =
      let change = changed moment k number rows is numbered row there in
      serves (map (bot_after moment k) rows) (option_map (bot_after moment k) row) change
      (known_bot moment k rows (map (bot_after moment k) rows) number row included stays change)

new_serves : (k : EntryKind) (number : ℕ) (rows : List BotRow) → bot_of_entry k ≡ Some number → AreNumbered no_of_bot 1 rows → (included : Bool) → row_of rows number ≡ None → StaysIncluded k included None →
    (demands : List Demand) → All (IsCountedBut rows None included) demands → (row : BotRow) → row.no ≡ number → All (IsCountedBut (rows ++ row ∷ []) (row_of_entry k (rows ++ row ∷ [])) included) demands
new_serves k number rows is numbered included none stays demands all row own =
    let change : IsChanged rows (rows ++ row ∷ []) number None (Some row) =
    subst (λ (n : ℕ). IsChanged rows (rows ++ row ∷ []) n None (Some row)) own (added rows row (subst (λ (n : ℕ). row_of rows n ≡ None) (sym own) none)) in
    serves 0 k number rows is numbered included None none stays demands all (rows ++ row ∷ []) (Some row) change (new_bot k rows (rows ++ row ∷ []) number row included stays change)

session_serves : (moment b : ℕ) (id session : Text) (dims : BotDims) (q : Text) (rows : List BotRow) → AreNumbered no_of_bot 1 rows → (included : Bool) (row : Option BotRow) → row_of rows b ≡ row →
    StaysIncluded (kind.Handshake b id session dims q) included row → (demands : List Demand) → All (IsCountedBut rows row included) demands →
    All (IsCountedBut (with_bot (session_row moment b id session dims q) rows) (row_of (with_bot (session_row moment b id session dims q) rows) b) included) demands
session_serves moment b id session dims q rows numbered included None none stays demands all =
    let row = session_row moment b id session dims q in
    subst (λ (new : List BotRow). All (IsCountedBut new (row_of new b) included) demands) (sym (with_bot-new row rows none))
    (new_serves (kind.Handshake b id session dims q) b rows refl numbered included none stays demands all row refl)
session_serves moment b id session dims q rows numbered included (Some bot) there stays demands all =
    let row = session_row moment b id session dims q in
    subst (λ (new : List BotRow). All (IsCountedBut new (row_of new b) included) demands) (sym (with_bot-known row bot rows there))
    (known_serves moment (kind.Handshake b id session dims q) b rows refl numbered included (Some bot) there stays demands all)

pub all_counted_but : (moment : ℕ) (k : EntryKind) (number : ℕ) (rows : List BotRow) → bot_of_entry k ≡ Some number → AreNumbered no_of_bot 1 rows → (included : Bool) → StaysIncluded k included (row_of rows number) →
    (demands : List Demand) → All (IsCountedBut rows (row_of rows number) included) demands → All (IsCountedBut (bots_after moment k rows) (row_of_entry k (bots_after moment k rows)) included) demands
all_counted_but moment (kind.Handshake b id session dims q) number rows is numbered included stays demands all =
    let e = sym (some_is b number is) in
    session_serves moment b id session dims q rows numbered included (row_of rows b) refl (rw e at stays) demands (rw e at all)
all_counted_but moment k number rows is numbered included stays demands all =
    known_serves moment k number rows is numbered included (row_of rows number) refl stays demands all
