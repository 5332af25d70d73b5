-- A log leaves a bot its number and its name.
use Rattle.std.proofs.Common.{◌≡◌, ℕ, List, [], ◌∷◌, refl, ap, sym, ◌∙◌, subst, map, option_map, Option, Some, None, eqb-true}
use Rattle.std.proofs.lemmas.Option.{same_Some}
use Rattle.log_laws.specs.Types.{BotRow, PoolState, Entry}
use Rattle.swarm_model.specs.Effects.{after, bot_after, added_bots}
use Rattle.swarm_model.specs.Finding.{bot_of, bot_named, is_bot, is_called}
use Rattle.swarm_model.specs.History.{MayFollow}
use Rattle.swarm_model.specs.Soundness.{IsSound}
use Rattle.pool_laws.proofs.Alike.{same_is, is_same}
use Rattle.pool_laws.proofs.EntryPreconditions.{finds, fitting}
use Rattle.pool_laws.proofs.Lists.{Among, Found, find_is, find_none, among_left, among_map}
use Rattle.pool_laws.proofs.Names.{name_same, named_apart}
use Rattle.pool_laws.proofs.Numbers.{bot_no}
use Rattle.pool_laws.proofs.Rows.{find_bot}
use Rattle.pool_laws.proofs.Sound.{sound_after}
use Rattle.log_laws.specs.Names.{name_of, NamesLast, NamesTellNumbers, NewNamesAreNew}

abbrev name_in : Option BotRow → Option (List ℕ)
name_in r = option_map (λ (bot : BotRow). bot.name) r

abbrev number_in : Option BotRow → Option ℕ
number_in r = option_map (λ (bot : BotRow). bot.no) r

-- a bot whose number has the name
record HasName (s : PoolState) (number : ℕ) (name : List ℕ) : Type 0 where
  bot : BotRow
  among : Among bot s.bots
  numbered : bot.no ≡ number
  called : bot.name ≡ name

has_name : (s : PoolState) (number : ℕ) (name : List ℕ) → name_of s number ≡ Some name → HasName s number name
has_name s number name h = by_bot (bot_of s number) refl h
  where
    by_bot : (r : Option BotRow) → bot_of s number ≡ r → name_in r ≡ Some name → HasName s number name
    by_bot None e g = absurd (cc (g))
    by_bot (Some x) e g =
        (let f : Found (is_bot number) s.bots x = find_is (is_bot number) s.bots x e in
        record { bot = x; among = f.among; numbered = eqb-true x.no number f.passes; called = same_Some _ _ g })

-- such a bot gives the number its name
name_from : (s : PoolState) (number : ℕ) (name : List ℕ) → IsSound s → HasName s number name → name_of s number ≡ Some name
name_from s number name o h = ap name_in (find_bot s o h.bot number h.among h.numbered) ∙ ap (λ (n : List ℕ). Some n) h.called

-- an entry leaves both
name_after : (s : PoolState) (e : Entry) (number : ℕ) (name : List ℕ) → IsSound s → MayFollow s e → name_of s number ≡ Some name → name_of (after s e) number ≡ Some name
name_after s e number name o follows h =
    let x = has_name s number name h in
    let f = finds s e follows in
    let g = fitting s e follows in
    name_from (after s e) number name (sound_after s e o follows)
    (record {
      bot = bot_after e.moment e.kind x.bot;
      among = among_left (bot_after e.moment e.kind x.bot) (map (bot_after e.moment e.kind) s.bots) (added_bots s e.moment e.kind) (among_map (bot_after e.moment e.kind) s.bots x.bot x.among);
      numbered = bot_no s e.moment e.kind o f g x.bot x.among ∙ x.numbered;
      called = name_same s e.moment e.kind o f g x.bot x.among ∙ x.called;
    })

pub names_last : NamesLast
names_last s [] number name o c h = h
names_last s (e ∷ log) number name o c h = names_last (after s e) log number name (sound_after s e o c.0) c.1 (name_after s e number name o c.0 h)

-- the bot that a name finds is one of the pool
bot_there : (s : PoolState) (name : List ℕ) (bot : BotRow) → bot_named s name ≡ Some bot → Among bot s.bots
bot_there s name bot e = let f : Found (is_called name) s.bots bot = find_is (is_called name) s.bots bot e in f.among

-- and has the name
pub name_is : (s : PoolState) (name : List ℕ) (bot : BotRow) → bot_named s name ≡ Some bot → bot.name ≡ name
name_is s name bot e = let f : Found (is_called name) s.bots bot = find_is (is_called name) s.bots bot e in same_is bot.name name f.passes

-- so it has the number that the name finds
pub name_found : (s : PoolState) (name : List ℕ) (bot : BotRow) → IsSound s → bot_named s name ≡ Some bot → name_of s bot.no ≡ Some name
name_found s name bot o e = name_from s bot.no name o (record { bot = bot; among = bot_there s name bot e; numbered = refl; called = name_is s name bot e })

pub names_tell : NamesTellNumbers
names_tell s number name o = (λ h. by_name (bot_named s name) refl h, λ h. by_number (has_name s number name h))
  where
    by_name : (r : Option BotRow) → bot_named s name ≡ r → number_in r ≡ Some number → name_of s number ≡ Some name
    by_name None e g = absurd (cc (g))
    by_name (Some x) e g = (let same : x.no ≡ number = same_Some _ _ g in subst (λ (n : ℕ). name_of s n ≡ Some name) same (name_found s name x o e))

    by_found : (x : HasName s number name) (r : Option BotRow) → bot_named s name ≡ r → number_in r ≡ Some number
    by_found x None e = absurd (cc (find_none (is_called name) s.bots e x.bot x.among, is_same x.bot.name name x.called))
    by_found x (Some y) e = ap (λ (n : ℕ). Some n) (named_apart s o y (bot_there s name y e) x.bot x.among (name_is s name y e ∙ sym x.called) ∙ x.numbered)

    by_number : HasName s number name → number_in (bot_named s name) ≡ Some number
    by_number x = by_found x (bot_named s name) refl

pub new_names : NewNamesAreNew
new_names base log number name o c unknown h = by_bot (bot_of base number) refl
  where
    by_bot : (r : Option BotRow) → bot_of base number ≡ r → r ≡ None
    by_bot None e = refl
    by_bot (Some x) e =
        (let was : name_of base number ≡ Some x.name = ap name_in e in
        let now : Some x.name ≡ Some name = sym (names_last base log number x.name o c was) ∙ h in
        let there = (names_tell base number name o).1 (was ∙ now) in
        absurd (cc (there)))
