-- A walk without a fault keeps rows whose values passed, and stops at no call for help.
use Rattle.std.proofs.Common.{◌≡◌, ◌&&◌, ℕ, zero, suc, Bool, cond, true, false, not, true≢false, refl, sym, ap, subst, arith, List, [], ◌∷◌, length, drop, Option, Some, None, IfSome, is_some, codes}
use Rattle.std.specs.Prelude.{⊤, fold, encode_utf8, slice_get}
use Rattle.std.specs.List.{list_any}
use Rattle.std.specs.Option.{option_map_or}
use Rattle.std.specs.Str.{bytes_eq, chars}
use Rattle.clap.specs.Lexer.{long_of, short_of}
use Rattle.clap.specs.Facts.{explicit_source, unwrap_or_range}
use Rattle.clap.specs.Walk.{Held, Names, Outcome, Row, Rule, Step, Text, Waiting, Walk, action_of, after_flag, after_step, arg_by_id, arg_by_index, arg_by_long, arg_by_short, attached_value, bundle, bundle_met, bundle_step, finished, flag_met, has_row, is_pending, long_met, long_or_other, most_values, nothing_held, option_met, option_word, plain_word, positional_held, reacted, reading_by, rows_after, settled, settled_rows, short_met, short_or_plain, subcommand_met, subcommand_or_other, takes_several, takes_values, to_positional, used, used_as, used_by_id, values_or_missing, walk, walk_from, walked, walked_from, with_values, without, word_met}
use Rattle.clap.specs.Walk.{done, waits, plain, refused, idle, option, positional, next, trailing, subcommand, value}
use Rattle.clap.specs.Simple.{Shape}
use Rattle.clap.specs.Takes.{is_given, values_pass, value_passes}
use Rattle.clap.specs.Kinds.{Kinds, check_kinds, or_else, range_kinds, value_kinds, values_kinds}
use Rattle.clap.specs.Faults.{action_fault, bundle_step_fault, check_fault, defaults_fault, flag_word_fault, flags_fault, level_fault, long_fault, option_fault, other_fault, positional_fault, react_fault, set_fault, settle_fault, short_fault, step_fault, stray_fault, turn_fault, use_fault, values_fault, walk_fault, word_fault}
use Rattle.clap.specs.declared.error.kind.ErrorKind.{ErrorKind}
use Rattle.clap.specs.declared.error.kind.ErrorKind.TheVariants.{TooManyValues}
use Rattle.clap.specs.declared.builder.action.ArgAction.{ArgAction}
use Rattle.clap.specs.declared.builder.action.ArgAction.TheVariants.{Set, Append, SetTrue, SetFalse, Count, Help, HelpShort, HelpLong, Version}
use Rattle.clap.specs.declared.parser.matches.ValueSource.TheVariants.{CommandLine}
use Rattle.command_words.proofs.Rows.{Each, Gives, Goods, Own, by_cases, defaults-good, defaults_there, found_of_each, nonempty, required_there, with_values-good, without-good}

-- ---- kinds

pub some_kind : (k : ErrorKind) (ks : Kinds) → k ∷ ks ≡ [] → ⊥
some_kind k ks e = let n : suc (length ks) ≡ 0 = ap length e in absurd (omega arith)

pub no_kinds : (a b : Kinds) → or_else a b ≡ [] → (a ≡ []) × (b ≡ [])
no_kinds [] b e = (refl, e)
no_kinds (k ∷ ks) b e = absurd (some_kind k ks e)

no_kind : (b : Bool) (k : ErrorKind) → (cond b [] (k ∷ [])) ≡ [] → b ≡ true
no_kind true k e = refl
no_kind false k e = absurd (some_kind k [] e)

values_passed : (a : Rule) (vs : List Text) → values_fault a vs ≡ [] → values_pass a vs ≡ true
values_passed a [] e = refl
values_passed a (v ∷ vs) e =
    let p = no_kinds (value_kinds a.ignore_case _ v) (values_kinds a.ignore_case _ vs) e in
    rw (no_kind (value_passes a v) _ p.0, values_passed a vs p.1) refl

-- ---- the walk over the words of one level

-- what the next word is
abbrev met_of : Shape → Names → Walk → Text → Held × Step
met_of s names w word = word_met s.rules names w.is_trailing w.waiting w.position word w.held

module _ (s : Shape) (all : Each (Own s.rules) s.rules) where
  abbrev pub Kept : List Row → Type 0
  Kept = Goods s.rules

  set-good : (a : Rule) (values : List Text) (rows : List Row) → Own s.rules a → nonempty values ≡ true
      → set_fault s.args_override_self a values rows ≡ [] → Kept rows → Kept (with_values a.id (reading_by a) CommandLine values (without a.id rows))
  set-good a values rows own some f g =
      let p = no_kinds _ (values_fault a values) f in
      with_values-good s.rules a _ _ values (without a.id rows) own some (values_passed a values p.1) (without-good s.rules a.id rows g)

  pub used-good : (a : Rule) (values : List Text) (rows : List Row) → Own s.rules a → use_fault s.args_override_self a values rows ≡ [] → Kept rows → Kept (used a values rows)
  used-good a values rows own f g =
      let p = no_kinds (range_kinds (unwrap_or_range a.range).start_inclusive (most_values a) (length values)) (action_fault (action_of a) s.args_override_self a (values_or_missing a values) rows) f in
      go (action_of a) own.gives values p.0 p.1
    where
      go : (x : ArgAction) → Gives x a → (vs : List Text) → range_kinds (unwrap_or_range a.range).start_inclusive (most_values a) (length vs) ≡ []
          → action_fault x s.args_override_self a (values_or_missing a vs) rows ≡ [] → Kept (used_as x a.id (reading_by a) (values_or_missing a vs) rows)
      go Set one [] r f = absurd (some_kind _ [] (subst (λ k. range_kinds k (most_values a) 0 ≡ []) one r))
      go Set one (v ∷ vs) r f = set-good a (v ∷ vs) rows own refl f g
      go SetTrue some [] r f = set-good a a.missing rows own some f g
      go SetTrue some (v ∷ vs) r f = set-good a (v ∷ vs) rows own refl f g
      go SetFalse e vs r f = absurd (true≢false (sym e))
      go Append e vs r f = absurd (true≢false (sym e))
      go Count e vs r f = absurd (true≢false (sym e))
      go Help e vs r f = absurd (some_kind _ [] f)
      go HelpShort e vs r f = absurd (some_kind _ [] f)
      go HelpLong e vs r f = absurd (some_kind _ [] f)
      go Version e vs r f = absurd (some_kind _ [] f)

  pub settled-good : (h : Held) → settle_fault s.rules s.args_override_self h ≡ [] → Kept h.rows → Kept (settled s.rules h).rows
  settled-good h f g = go h.pending f
    where
      used_now : (p : Text × List Text) (o : Option Rule) → IfSome o (Own s.rules) → option_map_or (λ a. use_fault s.args_override_self a p.1 h.rows) o [] ≡ []
          → Kept (used_by_id o p.1 h.rows)
      used_now p None own f = g
      used_now p (Some a) own f = used-good a p.1 h.rows own f g

      go : (o : Option (Text × List Text)) → option_map_or (λ p. option_map_or (λ a. use_fault s.args_override_self a p.1 h.rows) (arg_by_id s.rules p.0) []) o [] ≡ []
          → Kept (settled_rows s.rules o h.rows)
      go None f = g
      go (Some p) f = used_now p (arg_by_id s.rules p.0) (found_of_each (Own s.rules) _ s.rules all) f

  pub reacted-good : (a : Rule) (values : List Text) (h : Held) → Own s.rules a → react_fault s.rules s.args_override_self a values h ≡ [] → Kept h.rows
      → Kept (reacted s.rules a values h).rows
  reacted-good a values h own f g =
      let p = no_kinds (settle_fault s.rules s.args_override_self h) _ f in
      used-good a values _ own p.1 (settled-good h p.0 g)

  option-good : (a : Rule) (v : Option Text) (h : Held) → Own s.rules a → option_fault s.rules s.args_override_self a v h ≡ [] → Kept h.rows
      → Kept (option_met s.rules a v h).0.rows
  option-good a (Some v) h own f g = reacted-good a (v ∷ []) h own f g
  option-good a None h own f g = settled-good h f g

  long-good : (o : Option Rule) (v : Option Text) (h : Held) → IfSome o (Own s.rules) → long_fault s.rules s.args_override_self o v h ≡ [] → Kept h.rows
      → Kept (long_met s.rules o v h).0.rows
  long-good None v h own f g = g
  long-good (Some a) v h own f g = go (takes_values a) v f
    where
      go : (b : Bool) (v : Option Text) → cond b (option_fault s.rules s.args_override_self a v h)
          (cond (is_some v) (TooManyValues ∷ []) (react_fault s.rules s.args_override_self a [] h)) ≡ []
          → Kept (cond b (option_met s.rules a v h) (flag_met s.rules a v h)).0.rows
      go true v f = option-good a v h own f g
      go false (Some v) f = g
      go false None f = reacted-good a [] h own f g

  short-good : (o : Option Rule) (rest : Text) (h : Held) (met : Held → Held × Outcome) (fault : Held → Kinds)
      → ((k : Held) → fault k ≡ [] → Kept k.rows → Kept (met k).0.rows) → IfSome o (Own s.rules)
      → short_fault s.rules s.args_override_self o rest h fault ≡ [] → Kept h.rows → Kept (short_met s.rules o rest h met).0.rows
  short-good None rest h met fault after own f g = g
  short-good (Some a) rest h met fault after own f g = go (takes_values a) f
    where
      go : (b : Bool) → cond b (option_fault s.rules s.args_override_self a (attached_value rest) h)
          (or_else (react_fault s.rules s.args_override_self a [] h) (fault (reacted s.rules a [] h))) ≡ []
          → Kept (cond b (option_met s.rules a (attached_value rest) h) (met (reacted s.rules a [] h))).0.rows
      go true f = option-good a (attached_value rest) h own f g
      go false f =
          let p = no_kinds (react_fault s.rules s.args_override_self a [] h) _ f in
          after (reacted s.rules a [] h) p.1 (reacted-good a [] h own p.0 g)

  step-good : (met : Text → ℕ → Outcome → Held → Held × Outcome) (fault : Text → ℕ → Held → Kinds)
      → ((t : Text) (n : ℕ) (o : Outcome) (h : Held) → fault t n h ≡ [] → Kept h.rows → Kept (met t n o h).0.rows)
      → (x : Option ℕ) (flags : Text) (skip : ℕ) (so_far : Outcome) (h : Held)
      → bundle_step_fault s.rules s.args_override_self x flags skip h fault ≡ [] → Kept h.rows → Kept (bundle_step s.rules x flags skip so_far h met).0.rows
  step-good met fault after None flags skip so_far h f g = g
  step-good met fault after (Some x) flags zero so_far h f g =
      let rest = drop (length (encode_utf8 x)) flags in
      short-good (arg_by_short s.rules x) rest h (met rest 0 done) (fault rest 0) (λ k f g. after rest 0 done k f g) (found_of_each (Own s.rules) _ s.rules all) f g
  step-good met fault after (Some x) flags (suc skip) so_far h f g = after _ skip so_far h f g

  bundle-good : (k : ℕ) (flags : Text) (skip : ℕ) (so_far : Outcome) (h : Held) → flags_fault s.rules s.args_override_self k flags skip h ≡ [] → Kept h.rows
      → Kept (bundle_met s.rules k flags skip so_far h).0.rows
  unfolding flags_fault bundle_met
  bundle-good zero flags skip so_far h f g = g
  bundle-good (suc k) flags skip so_far h f g =
      step-good (bundle_met s.rules k) (flags_fault s.rules s.args_override_self k) (λ t n o h f g. bundle-good k t n o h f g)
      (slice_get (chars flags) 0) flags skip so_far h f g

  option_word-rows : (o : Option Rule) (id word : Text) (h : Held) → (option_word o id word h).0.rows ≡ h.rows
  option_word-rows None id word h = refl
  option_word-rows (Some a) id word h = refl

  plain_word-rows : (waiting : Waiting) (word : Text) (h : Held) → (plain_word s.rules waiting word h).0.rows ≡ h.rows
  plain_word-rows idle word h = refl
  plain_word-rows (option id) word h = option_word-rows (arg_by_id s.rules id) id word h
  plain_word-rows positional word h = refl

  after_flag-rows : (waiting : Waiting) (word : Text) (h : Held) (o : Outcome) → (after_flag s.rules waiting word h o).0.rows ≡ h.rows
  after_flag-rows waiting word h done = refl
  after_flag-rows waiting word h (waits id) = refl
  after_flag-rows waiting word h plain = plain_word-rows waiting word h
  after_flag-rows waiting word h refused = plain_word-rows waiting word h

  short_word-good : (waiting : Waiting) (word : Text) (o : Option Text) (h : Held) → option_map_or (λ flags. flags_fault s.rules s.args_override_self (length flags) flags h.skip (record h { skip = 0 })) o [] ≡ [] → Kept h.rows
      → Kept (short_or_plain s.rules waiting word o h).0.rows
  short_word-good waiting word None h f g = subst Kept (sym (plain_word-rows waiting word h)) g
  short_word-good waiting word (Some flags) h f g =
      let b = bundle s.rules flags h in
      subst Kept (sym (after_flag-rows waiting word b.0 b.1)) (bundle-good (length flags) flags h.skip plain (record h { skip = 0 }) f g)

  flag_word-good : (waiting : Waiting) (word : Text) (o : Option (Text × Option Text)) (h : Held) → flag_word_fault s.rules s.args_override_self o word h ≡ [] → Kept h.rows
      → Kept (long_or_other s.rules waiting word o h).0.rows
  flag_word-good waiting word (Some p) h f g =
      let m = long_met s.rules (arg_by_long s.rules p.0) p.1 h in
      subst Kept (sym (after_flag-rows waiting word m.0 m.1)) (long-good (arg_by_long s.rules p.0) p.1 h (found_of_each (Own s.rules) _ s.rules all) f g)
  flag_word-good waiting word None h f g = short_word-good waiting word (short_of word) h f g

  other-good : (o : Option Text) (waiting : Waiting) (position : ℕ) (word : Text) (h : Held) → other_fault s o word h ≡ [] → Kept h.rows
      → Kept (subcommand_or_other s.rules o waiting position word h).0.rows
  other-good (Some name) waiting position word h f g = g
  other-good None waiting position word h f g = go (bytes_eq word (45 ∷ 45 ∷ [])) f
    where
      go : (b : Bool) → cond b [] (flag_word_fault s.rules s.args_override_self (long_of word) word h) ≡ []
          → Kept (cond b (h, trailing position) (long_or_other s.rules waiting word (long_of word) h)).0.rows
      go true f = g
      go false f = flag_word-good waiting word (long_of word) h f g

  word-good : (names : Names) (is_trailing : Bool) (waiting : Waiting) (position : ℕ) (word : Text) (h : Held) → word_fault s names is_trailing waiting word h ≡ [] → Kept h.rows
      → Kept (word_met s.rules names is_trailing waiting position word h).0.rows
  word-good names true waiting position word h f g = g
  word-good names false waiting position word h f g = other-good (subcommand_met names waiting word) waiting position word h f g

  positional-good : (a : Rule) (word : Text) (h : Held) → positional_fault s.rules s.args_override_self a h ≡ [] → Kept h.rows → Kept (positional_held s.rules a word h).rows
  positional-good a word h f g = go (is_pending a h.pending && takes_several a) f
    where
      go : (b : Bool) → cond b [] (settle_fault s.rules s.args_override_self h) ≡ [] → Kept (cond b h (settled s.rules h)).rows
      go true f = g
      go false f = settled-good h f g

  after_step-good : (word : Text) (w : Walk) (h : Held) (step : Step) → step_fault s w.position h step ≡ [] → Kept h.rows → Kept (after_step s.rules word w h step).held.rows
  after_step-good word w h (next waiting) f g = g
  after_step-good word w h (trailing position) f g = g
  after_step-good word w h (subcommand name) f g = g
  after_step-good word w h value f g = go (arg_by_index s.rules w.position) f
    where
      go : (o : Option Rule) → option_map_or (λ a. positional_fault s.rules s.args_override_self a h) o (stray_fault s) ≡ [] → Kept (to_positional s.rules o word w h).held.rows
      go None f = g
      go (Some a) f = positional-good a word h f g

  turn-good : (names : Names) (w : Walk) (word : Text) → turn_fault s names w word ≡ [] → Kept w.held.rows → Kept (walked s.rules names w word).held.rows
  unfolding walked
  turn-good names w word f g = go w.stopped f
    where
      go : (o : Option (Text × List Text)) → cond (is_some o) [] (or_else (word_fault s names w.is_trailing w.waiting word w.held) (step_fault s w.position (met_of s names w word).0 (met_of s names w word).1)) ≡ []
          → Kept (walked_from s.rules names o w word).held.rows
      go (Some p) f = g
      go None f =
          let p = no_kinds (word_fault s names w.is_trailing w.waiting word w.held) _ f in
          after_step-good word w (met_of s names w word).0 (met_of s names w word).1 p.1 (word-good names w.is_trailing w.waiting w.position word w.held p.0 g)

  pub walk-good : (names : Names) (words : List Text) (w : Walk) → walk_fault s names w words ≡ [] → Kept w.held.rows → Kept (fold (walked s.rules names) w words).held.rows
  unfolding walk_fault
  walk-good names [] w f g = g
  walk-good names (word ∷ words) w f g =
      let p = no_kinds (turn_fault s names w word) _ f in
      walk-good names words (walked s.rules names w word) p.1 (turn-good names w word p.0 g)

-- ---- a level without a fault

pub no_check : (a b c : Bool) → check_kinds a b c ≡ [] → (b ≡ false) × (c ≡ false)
no_check true b c e = absurd (some_kind _ [] e)
no_check false true c e = absurd (some_kind _ [] e)
no_check false false true e = absurd (some_kind _ [] e)
no_check false false false e = (refl, refl)

pub check_parts : (s : Shape) (rows : List Row) (has : Bool) → check_fault s rows has ≡ []
    → ((not has && s.subcommand_required) ≡ false) × ((not (s.subcommand_negates_reqs && has) && list_any (λ a. a.required && not (is_given a.id rows)) s.rules) ≡ false)
check_parts s rows has e =
    no_check (not has && (s.arg_required_else_help && not (list_any (λ r. explicit_source r.source) rows))) (not has && s.subcommand_required)
    (not (s.subcommand_negates_reqs && has) && list_any (λ a. a.required && not (is_given a.id rows)) s.rules) e

-- what the words of a level leave, where they have no fault
pub record Leaves (c : List Rule) (rows : List Row) : Type 0 where
  pub goods : Goods c rows
  pub required : Each (λ a. a.required ≡ true → has_row a.id rows ≡ true) c
  pub defaults : Each (λ a. nonempty a.defaults ≡ true → has_row a.id rows ≡ true) c

pub level_leaves : (s : Shape) → Each (Own s.rules) s.rules → s.subcommand_negates_reqs ≡ false → (words : List Text)
    → level_fault s [] nothing_held words false [] ≡ [] → Leaves s.rules (rows_after s.rules [] words)
level_leaves s all negates words f =
    let end = (walk s.rules [] nothing_held words).held in
    let a = no_kinds (walk_fault s [] (walk_from nothing_held) words) _ f in
    let b = no_kinds (settle_fault s.rules s.args_override_self end) _ a.1 in
    let c = no_kinds (defaults_fault (settled s.rules end).rows s.rules) _ b.1 in
    let settled_rows = settled-good s all end b.0 (walk-good s all [] words (walk_from nothing_held) a.0 tt) in
    let none = subst (λ (n : Bool). (not (n && false) && list_any (λ a. a.required && not (is_given a.id (finished s.rules end))) s.rules) ≡ false) negates
    (check_parts s (finished s.rules end) false c.1).1 in
    record {
      goods = defaults-good s.rules s.rules (settled s.rules end).rows all settled_rows;
      required = required_there (finished s.rules end) s.rules none;
      defaults = defaults_there s.rules (settled s.rules end).rows;
    }

-- ---- where a walk stops

-- the name of a subcommand that is no call for help
abbrev pub NotHelp : Text × List Text → Type 0
NotHelp p = bytes_eq p.0 (codes "help") ≡ false

abbrev pub StepNotHelp : Step → Type 0
StepNotHelp (subcommand name) = bytes_eq name (codes "help") ≡ false
StepNotHelp _ = ⊤

plain_word-step : (c : List Rule) (waiting : Waiting) (word : Text) (h : Held) → StepNotHelp (plain_word c waiting word h).1
plain_word-step c idle word h = tt
plain_word-step c (option id) word h = tt
plain_word-step c positional word h = tt

after_flag-step : (c : List Rule) (waiting : Waiting) (word : Text) (h : Held) (o : Outcome) → StepNotHelp (after_flag c waiting word h o).1
after_flag-step c waiting word h done = tt
after_flag-step c waiting word h (waits id) = tt
after_flag-step c waiting word h plain = plain_word-step c waiting word h
after_flag-step c waiting word h refused = plain_word-step c waiting word h

short_word-step : (c : List Rule) (waiting : Waiting) (word : Text) (o : Option Text) (h : Held) → StepNotHelp (short_or_plain c waiting word o h).1
short_word-step c waiting word None h = plain_word-step c waiting word h
short_word-step c waiting word (Some flags) h = after_flag-step c waiting word (bundle c flags h).0 (bundle c flags h).1

flag_word-step : (c : List Rule) (waiting : Waiting) (word : Text) (o : Option (Text × Option Text)) (h : Held) → StepNotHelp (long_or_other c waiting word o h).1
flag_word-step c waiting word (Some p) h = after_flag-step c waiting word (long_met c (arg_by_long c p.0) p.1 h).0 (long_met c (arg_by_long c p.0) p.1 h).1
flag_word-step c waiting word None h = short_word-step c waiting word (short_of word) h

module _ (s : Shape) (helps : s.disable_help_subcommand ≡ false) where
  pub no_help : (b d : Bool) (ks : Kinds) (k : ErrorKind) → d ≡ false → cond (b && not d) (k ∷ ks) [] ≡ [] → b ≡ false
  no_help true true ks k e f = absurd (true≢false e)
  no_help true false ks k e f = absurd (some_kind k ks f)
  no_help false d ks k e f = refl

  other-step : (o : Option Text) (waiting : Waiting) (position : ℕ) (word : Text) (h : Held) → other_fault s o word h ≡ [] → StepNotHelp (subcommand_or_other s.rules o waiting position word h).1
  other-step (Some name) waiting position word h f = no_help (bytes_eq name (codes "help")) s.disable_help_subcommand _ _ helps f
  other-step None waiting position word h f =
      by_cases (λ (m : Held × Step). StepNotHelp m.1) (bytes_eq word (45 ∷ 45 ∷ [])) (h, trailing position) (long_or_other s.rules waiting word (long_of word) h)
      (λ _. tt) (λ _. flag_word-step s.rules waiting word (long_of word) h)

  word-step : (names : Names) (is_trailing : Bool) (waiting : Waiting) (position : ℕ) (word : Text) (h : Held) → word_fault s names is_trailing waiting word h ≡ []
      → StepNotHelp (word_met s.rules names is_trailing waiting position word h).1
  word-step names true waiting position word h f = tt
  word-step names false waiting position word h f = other-step (subcommand_met names waiting word) waiting position word h f

  after_step-stops : (word : Text) (w : Walk) (h : Held) (step : Step) → StepNotHelp step → IfSome w.stopped NotHelp → IfSome (after_step s.rules word w h step).stopped NotHelp
  after_step-stops word w h (next waiting) n i = i
  after_step-stops word w h (trailing position) n i = i
  after_step-stops word w h (subcommand name) n i = n
  after_step-stops word w h value n i = go (arg_by_index s.rules w.position)
    where
      go : (o : Option Rule) → IfSome (to_positional s.rules o word w h).stopped NotHelp
      go None = i
      go (Some a) = tt

  turn-stops : (names : Names) (w : Walk) (word : Text) → turn_fault s names w word ≡ [] → IfSome w.stopped NotHelp → IfSome (walked s.rules names w word).stopped NotHelp
  unfolding walked
  turn-stops names w word f i = go w.stopped f i
    where
      go : (o : Option (Text × List Text)) → cond (is_some o) [] (or_else (word_fault s names w.is_trailing w.waiting word w.held) (step_fault s w.position (met_of s names w word).0 (met_of s names w word).1)) ≡ []
          → IfSome o NotHelp → IfSome (walked_from s.rules names o w word).stopped NotHelp
      go (Some p) f i = i
      go None f j =
          let p = no_kinds (word_fault s names w.is_trailing w.waiting word w.held) _ f in
          after_step-stops word w (met_of s names w word).0 (met_of s names w word).1 (word-step names w.is_trailing w.waiting w.position word w.held p.0) i

  pub walk-stops : (names : Names) (words : List Text) (w : Walk) → walk_fault s names w words ≡ [] → IfSome w.stopped NotHelp → IfSome (fold (walked s.rules names) w words).stopped NotHelp
  unfolding walk_fault
  walk-stops names [] w f i = i
  walk-stops names (word ∷ words) w f i =
      let p = no_kinds (turn_fault s names w word) _ f in
      walk-stops names words (walked s.rules names w word) p.1 (turn-stops names w word p.0 i)
