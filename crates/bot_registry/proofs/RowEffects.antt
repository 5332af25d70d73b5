-- The rows after an entry.
use Rattle.std.proofs.Common.{◌≡◌, ℕ, ◌+◌, ◌≤◌, List, [], ◌∷◌, ◌++◌, map, length, refl, sym, ap, ◌∙◌, subst, Option, Some, None, Bool, true, false, cond, arith, eqb-true}
use Rattle.std.specs.Prelude.{◌==◌, ◌<◌, if◌then◌else◌, MatchOption, IfSome, ⊤}
use Rattle.std.specs.List.{find}
use Rattle.std.proofs.lemmas.Bool.Decides.{nat_tests}
use Rattle.std.proofs.lemmas.List.{map_push, length_push, length-map}
use Rattle.bot_registry.specs.Types.{Text, BotDims, BotRow, EntryKind, BotParts}
use Rattle.swarm_model.specs.declared.attempt.Last.{Last}
use Rattle.swarm_model.specs.declared.entry.EntryKind.TheVariants as kind
use Rattle.swarm_model.specs.declared.entry.EventKind.{EventKind}
use Rattle.swarm_model.specs.declared.entry.EventKind.TheVariants as event
use Rattle.swarm_model.specs.Numbers.{AreNumbered, change_at}
use Rattle.swarm_model.specs.Finding.{is_bot}
use Rattle.swarm_model.specs.Effects.{no_of_bot, bot_after, session_row, event_effect, idle_bot_at, if_some, bot_at, heard, runs_task}
use Rattle.row_changes.specs.Bots.{with_bot, bots_after, HasRoomFor}
use Rattle.row_changes.proofs.Numbered.{find_before, changed_none, numbered-map, numbered-push}
use Rattle.row_changes.proofs.RowEffects.{with_bot-new, with_bot-known}
use Rattle.bot_registry.specs.Plain.{RegistryState}
use Rattle.bot_registry.specs.Acting.{row_of, IsNewBot, Follows}
use Rattle.bot_registry.specs.Inside.{IsNextBot, FollowsIn}
use Rattle.bot_registry.specs.Names.{name_of, AreByName}

-- ---- the numbers stay

if_no : (b : Bool) (x y : BotRow) → x.no ≡ y.no → (if b then x else y).no ≡ y.no
if_no true x y e = e
if_no false x y e = refl

own_no : (number : ℕ) (row bot : BotRow) → row.no ≡ number → (change_at no_of_bot number (λ old. row) bot).no ≡ bot.no
own_no number row bot is = grind (arith, nat_tests)

event_effect_no : (moment : ℕ) (e : EventKind) (text : List ℕ) (bot : BotRow) → (event_effect moment e text bot).no ≡ bot.no
event_effect_no moment event.Ping text bot = refl
event_effect_no moment event.Quarantine text bot = refl
event_effect_no moment event.Unquarantine text bot = refl

idle_bot_no : (b : ℕ) (last : Option Last) (bot : BotRow) → (if_some (idle_bot_at b) last bot).no ≡ bot.no
idle_bot_no b None bot = refl
idle_bot_no b (Some last) bot = if_no (bot.no == b) _ bot refl

pub heard_no : (moment b : ℕ) (bot : BotRow) → (bot_at b (heard moment) bot).no ≡ bot.no
heard_no moment b bot = if_no (bot.no == b) _ bot refl

pub after_no : (moment : ℕ) (k : EntryKind) (bot : BotRow) → (bot_after moment k bot).no ≡ bot.no
after_no moment (kind.Silence t) bot = if_no (runs_task t bot) _ bot refl
after_no moment (kind.Dead b) bot = if_no (bot.no == b) _ bot refl
after_no moment (kind.Handshake b id session dims q) bot = own_no b (session_row moment b id session dims q) bot refl
after_no moment (kind.Poll b dims q hint) bot = if_no (bot.no == b) _ bot refl
after_no moment (kind.Claim b t claim) bot = if_no (bot.no == b) _ bot refl
after_no moment (kind.Contact b) bot = heard_no moment b bot
after_no moment (kind.Event b e text) bot = if_no (bot.no == b) _ bot (event_effect_no moment e text bot)
after_no moment (kind.Update b t try_no chunk last) bot = idle_bot_no b last (bot_at b (heard moment) bot) ∙ heard_no moment b bot
after_no moment (kind.Terminate b) bot = if_no (bot.no == b) _ bot refl
after_no moment k bot = refl

-- ---- the names stay

if_name : (b : Bool) (x y : BotRow) → x.name ≡ y.name → (if b then x else y).name ≡ y.name
if_name true x y e = e
if_name false x y e = refl

event_effect_name : (moment : ℕ) (e : EventKind) (text : List ℕ) (bot : BotRow) → (event_effect moment e text bot).name ≡ bot.name
event_effect_name moment event.Ping text bot = refl
event_effect_name moment event.Quarantine text bot = refl
event_effect_name moment event.Unquarantine text bot = refl

idle_bot_name : (b : ℕ) (last : Option Last) (bot : BotRow) → (if_some (idle_bot_at b) last bot).name ≡ bot.name
idle_bot_name b None bot = refl
idle_bot_name b (Some last) bot = if_name (bot.no == b) _ bot refl

-- every entry but a handshake
abbrev pub IsOther : EntryKind → Type 0
IsOther (kind.Handshake b id session dims q) = ⊥
IsOther k = ⊤

after_name : (moment : ℕ) (k : EntryKind) → IsOther k → (bot : BotRow) → (bot_after moment k bot).name ≡ bot.name
after_name moment (kind.Silence t) other bot = if_name (runs_task t bot) _ bot refl
after_name moment (kind.Dead b) other bot = if_name (bot.no == b) _ bot refl
after_name moment (kind.Handshake b id session dims q) other bot = absurd other
after_name moment (kind.Poll b dims q hint) other bot = if_name (bot.no == b) _ bot refl
after_name moment (kind.Claim b t claim) other bot = if_name (bot.no == b) _ bot refl
after_name moment (kind.Contact b) other bot = if_name (bot.no == b) _ bot refl
after_name moment (kind.Event b e text) other bot = if_name (bot.no == b) _ bot (event_effect_name moment e text bot)
after_name moment (kind.Update b t try_no chunk last) other bot = idle_bot_name b last (bot_at b (heard moment) bot) ∙ if_name (bot.no == b) _ bot refl
after_name moment (kind.Terminate b) other bot = if_name (bot.no == b) _ bot refl
after_name moment k other bot = refl

-- what a change keeps of each row stays as a list
kept_of_all : {A : Type 0} (of : BotRow → A) (f : BotRow → BotRow) → ((bot : BotRow) → of (f bot) ≡ of bot) → (rows : List BotRow) → map of (map f rows) ≡ map of rows
kept_of_all of f keeps [] = refl
kept_of_all of f keeps (row ∷ rows) = let head = keeps row in let tail = kept_of_all of f keeps rows in cc

-- the numbers and the names of the rows stay
pub record Stays (old new : List BotRow) : Type 0 where
  pub numbers : map no_of_bot new ≡ map no_of_bot old
  pub names : map name_of new ≡ map name_of old

bots_after-other : (moment : ℕ) (k : EntryKind) → IsOther k → (rows : List BotRow) → bots_after moment k rows ≡ map (bot_after moment k) rows
bots_after-other moment (kind.Handshake b id session dims q) other rows = absurd other
bots_after-other moment k other rows = refl

pub other_stays : (moment : ℕ) (k : EntryKind) → IsOther k → (rows : List BotRow) → Stays rows (bots_after moment k rows)
other_stays moment k other rows = rw (bots_after-other moment k other rows) (record {
  numbers = kept_of_all no_of_bot (bot_after moment k) (after_no moment k) rows;
  names = kept_of_all name_of (bot_after moment k) (after_name moment k other) rows;
})

-- a change at a number puts in the row of the bot's own name
renamed : (n b : ℕ) (row : BotRow) (rows : List BotRow) → AreNumbered no_of_bot n rows → MatchOption (find (is_bot b) rows) ⊤ (λ bot. bot.name ≡ row.name) →
    map name_of (map (change_at no_of_bot b (λ old. row)) rows) ≡ map name_of rows
renamed n b row [] numbered same = refl
renamed n b row (first ∷ rows) numbered same =
    by_test (first.no == b) refl same (renamed (n + 1) b row rows numbered.1)
  where
    by_test : (t : Bool) → (first.no == b) ≡ t → MatchOption (cond t (Some first) (find (is_bot b) rows)) ⊤ (λ bot. bot.name ≡ row.name) →
        (MatchOption (find (is_bot b) rows) ⊤ (λ bot. bot.name ≡ row.name) → map name_of (map (change_at no_of_bot b (λ old. row)) rows) ≡ map name_of rows) →
        (cond t row first).name ∷ map name_of (map (change_at no_of_bot b (λ old. row)) rows) ≡ first.name ∷ map name_of rows
    by_test true test same rest =
        let is : first.no ≡ b = eqb-true first.no b test in
        let above : b < n + 1 = omega (arith, numbered.0) in
        let others = ap (λ (xs : List BotRow). map name_of xs) (changed_none no_of_bot rows b (λ old. row) (find_before no_of_bot (n + 1) b rows numbered.1 above)) in
        let name = sym same in cc (name, others)
    by_test false test same rest = ap (λ (others : List (List ℕ)). first.name ∷ others) (rest same)

pub known_stays : (row known : BotRow) (rows : List BotRow) → AreNumbered no_of_bot 1 rows → row_of rows row.no ≡ Some known → known.name ≡ row.name → Stays rows (with_bot row rows)
known_stays row known rows numbered is same = rw (with_bot-known row known rows is) (record {
  numbers = kept_of_all no_of_bot (change_at no_of_bot row.no (λ old. row)) (λ bot. own_no row.no row bot refl) rows;
  names = renamed 1 row.no row rows numbered (subst (λ (o : Option BotRow). MatchOption o ⊤ (λ bot. bot.name ≡ row.name)) (sym is) same);
})

-- the numbers that are sorted by name serve for the rows after the entry
pub still_named : (old new : List BotRow) (sorted : List ℕ) → Stays old new → AreByName (map no_of_bot old) (map name_of old) sorted → AreByName (map no_of_bot new) (map name_of new) sorted
still_named old new sorted stays named = rw (stays.numbers, stays.names) named

pub new_named : (row : BotRow) (rows : List BotRow) (sorted : List ℕ) → row_of rows row.no ≡ None → AreByName (map no_of_bot rows ++ row.no ∷ []) (map name_of rows ++ row.name ∷ []) sorted →
    AreByName (map no_of_bot (with_bot row rows)) (map name_of (with_bot row rows)) sorted
new_named row rows sorted none named = rw (with_bot-new row rows none, map_push no_of_bot rows row, map_push name_of rows row) named

pub other_kind : (k : EntryKind) → ((b : ℕ) (id session : Text) (dims : BotDims) (q : Text) → k ≡ kind.Handshake b id session dims q → ⊥) → IsOther k
other_kind (kind.Handshake b id session dims q) other = absurd (other b id session dims q refl)
other_kind k other = tt

-- ---- all rows are numbered

numbered_after : (moment : ℕ) (k : EntryKind) (rows : List BotRow) → AreNumbered no_of_bot 1 rows → AreNumbered no_of_bot 1 (map (bot_after moment k) rows)
numbered_after moment k rows numbered = numbered-map no_of_bot (bot_after moment k) (after_no moment k) 1 rows numbered

session_row_after : (row : BotRow) (rows : List BotRow) (o : Option BotRow) → o ≡ row_of rows row.no → MatchOption o (row.no ≡ length rows + 1) (λ bot. ⊤) →
    AreNumbered no_of_bot 1 rows → AreNumbered no_of_bot 1 (map (change_at no_of_bot row.no (λ old. row)) rows) → AreNumbered no_of_bot 1 (with_bot row rows)
session_row_after row rows None is next old all = rw (with_bot-new row rows (sym is)) (numbered-push no_of_bot 1 rows row old (omega (arith, next)))
session_row_after row rows (Some bot) is next old all = rw (with_bot-known row bot rows (sym is)) all

pub numbered_stays : (moment : ℕ) (k : EntryKind) (kept : RegistryState) → Follows kept k → AreNumbered no_of_bot 1 kept.rows → AreNumbered no_of_bot 1 (bots_after moment k kept.rows)
numbered_stays moment (kind.Handshake b id session dims q) kept follows old =
    session_row_after (session_row moment b id session dims q) kept.rows (row_of kept.rows b) refl (next_of (row_of kept.rows b) follows) old
    (numbered_after moment (kind.Handshake b id session dims q) kept.rows old)
  where
    next_of : (o : Option BotRow) → MatchOption o (IsNewBot kept b id) (λ bot. bot.name ≡ id) → MatchOption o (b ≡ length kept.rows + 1) (λ bot. ⊤)
    next_of None new = new.next
    next_of (Some bot) same = tt
numbered_stays moment k kept follows old = numbered_after moment k kept.rows old

-- ---- the rows are few

session_few : (row : BotRow) (rows : List BotRow) (most : ℕ) (o : Option BotRow) → o ≡ row_of rows row.no → length rows ≤ most → MatchOption o (length rows < most) (λ bot. ⊤) → length (with_bot row rows) ≤ most
session_few row rows most None is few more = rw (with_bot-new row rows (sym is)) (omega (arith, more, length_push rows row))
session_few row rows most (Some bot) is few more =
    rw (with_bot-known row bot rows (sym is)) (omega (arith, few, length-map rows (change_at no_of_bot row.no (λ old. row))))

pub rows_few : (moment : ℕ) (k : EntryKind) (kept : RegistryState) → Follows kept k → length kept.rows ≤ kept.most → length (bots_after moment k kept.rows) ≤ kept.most
rows_few moment (kind.Handshake b id session dims q) kept follows few =
    session_few (session_row moment b id session dims q) kept.rows kept.most (row_of kept.rows b) refl few (more_of (row_of kept.rows b) follows)
  where
    more_of : (o : Option BotRow) → MatchOption o (IsNewBot kept b id) (λ bot. bot.name ≡ id) → MatchOption o (length kept.rows < kept.most) (λ bot. ⊤)
    more_of None new = new.few
    more_of (Some bot) same = tt
rows_few moment k kept follows few = omega (arith, few, length-map kept.rows (bot_after moment k))

-- where a handshake needs room, there may be one bot more
pub room_for : (kept : RegistryState) (k : EntryKind) (len capacity : ℕ) → Follows kept k → (length kept.rows < kept.most → len < capacity) → HasRoomFor kept.rows len capacity k
room_for kept (kind.Handshake b id session dims q) len capacity follows room = by_row (row_of kept.rows b) follows
  where
    by_row : (o : Option BotRow) → MatchOption o (IsNewBot kept b id) (λ bot. bot.name ≡ id) → MatchOption o (len < capacity) (λ bot. ⊤)
    by_row None new = room new.few
    by_row (Some bot) same = tt
room_for kept k len capacity follows room = tt

pub follows_in : (kept : RegistryState) (k : EntryKind) (len capacity : ℕ) → Follows kept k → (length kept.rows < kept.most → len < capacity) → FollowsIn kept.rows len capacity k
follows_in kept (kind.Handshake b id session dims q) len capacity follows room = by_row (row_of kept.rows b) follows
  where
    by_row : (o : Option BotRow) → MatchOption o (IsNewBot kept b id) (λ bot. bot.name ≡ id) → MatchOption o (IsNextBot kept.rows len capacity b id) (λ bot. bot.name ≡ id)
    by_row None new = record { next = new.next; fresh = new.fresh; room = room new.few }
    by_row (Some bot) same = same
follows_in kept k len capacity follows room = tt

pub room_of : {P : Type 0} (o : Option BotParts) (parts : BotParts) → o ≡ Some parts → IfSome o (λ p. P) → P
room_of {P} o parts is room = subst (λ (x : Option BotParts). IfSome x (λ p. P)) is room

-- where no bot has the number, a handshake is that of a new bot
pub next_bot : (rows : List BotRow) (len capacity number : ℕ) (name : List ℕ) (o : Option BotRow) → o ≡ None →
    MatchOption o (IsNextBot rows len capacity number name) (λ bot. bot.name ≡ name) → IsNextBot rows len capacity number name
next_bot rows len capacity number name o none all = subst (λ (x : Option BotRow). MatchOption x (IsNextBot rows len capacity number name) (λ bot. bot.name ≡ name)) none all
