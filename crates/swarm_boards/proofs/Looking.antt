-- What a view shows.
use Rattle.std.proofs.Common.{◌≡◌, ℕ, ◌+◌, ◌<◌, ◌^◌, List, [], length, Some, IfSome, IfOk, IsTrue, IsSomeAnd, Result, Ok, Err, sym, ap, subst, ◌∙◌, inl, inr, arith, if◌then◌else◌}
use Rattle.std.specs.Prelude.{Option, None}
use Rattle.std.specs.List.{All}
use Rattle.std.specs.Option.{option_map_or}
use Rattle.std.specs.declared.alloc.AllocError.{AllocError}
use mathlib.Core.List.{IsPrefix}
use Rattle.swarm_model.specs.declared.pool_state.PoolState.{PoolState}
use Rattle.swarm_model.specs.declared.pool_settings.PoolSettings.{PoolSettings}
use Rattle.swarm_model.specs.declared.entry.Entry.{Entry}
use Rattle.swarm_model.specs.declared.request.Request.{Request}
use Rattle.swarm_model.specs.declared.reply.Reply.{Reply}
use Rattle.swarm_model.specs.declared.reply.Reply.TheVariants as reply
use Rattle.swarm_model.specs.declared.rule.Rule.TheVariants as rule
use Rattle.swarm_model.specs.Bases.{Base}
use Rattle.swarm_model.specs.Fits.{fits}
use Rattle.swarm_model.specs.History.{replay, IsLegal}
use Rattle.swarm_model.specs.Points.{is_ahead}
use Rattle.swarm_model.specs.Soundness.{IsSound}
use Rattle.pool_laws.proofs.Sound.{sound_replay, settings_stay}
use Rattle.pool_views.specs.declared.views.Viewed.{Viewed}
use Rattle.pool_views.specs.Views.{Known, Query, MayShow, IsAsked, IsViewed, Shows, reads_rows, reply_of}
use Rattle.row_copies.specs.declared.kept.Kept.{Kept}
use Rattle.row_copies.proofs.RowsAlone.{reply_of_rows_alone, sound_rows_alone}
use Rattle.swarm_boards.specs.declared.rule.Seen.{Seen}
use Rattle.swarm_boards.specs.Published.{Shown, Sights}
use Rattle.swarm_boards.specs.Reading.{IsFront, IsRead, known_by}

-- ---- what a reader finds in the copy

pub sound_shown : (kept : Kept) → Shown kept → IsSound kept.now
sound_shown kept s = subst IsSound (sym s.replayed) (sound_rows_alone (replay kept.base kept.log) (sound_replay kept.base kept.log s.sound s.legal.caused))

settings_shown : (kept : Kept) → Shown kept → kept.now.settings ≡ kept.base.settings
settings_shown kept s = ap (λ (p : PoolState). p.settings) s.replayed ∙ settings_stay kept.base kept.log

-- the base that a reader knows is that of the copy
base_shown : (kept : Kept) (v w : Seen) (rows : PoolState) → Sights kept v w → v.base ≡ Some rows → kept.base ≡ rows
base_shown kept v w rows s is = sym (subst (λ (o : Option PoolState). IfSome o (λ b. b ≡ kept.base)) is s.before.base_is)

-- what holds of the base that the reader knows holds of that of the copy
pub record IsKnown (rows : PoolState) (request : Request) : Type 0 where
  pub fits : IsTrue (fits rows.settings request)
  pub few : rows.settings.most_entries < 2 ^ 32

known_base : (kept : Kept) (request : Request) (b : Option PoolState) → IfSome b (λ rows. rows ≡ kept.base) → IsSomeAnd b (λ rows. IsTrue (fits rows.settings request) × (rows.settings.most_entries < 2 ^ 32))
    → IsKnown kept.base request
known_base kept request (Some rows) same known = subst (λ (p : PoolState). IsKnown p request) same (record { fits = known.0; few = known.1 })
known_base kept request None same known = absurd known

pub fits_shown : (kept : Kept) (v w : Seen) (request : Request) → Sights kept v w → IsSomeAnd v.base (λ rows. IsTrue (fits rows.settings request) × (rows.settings.most_entries < 2 ^ 32))
    → IsTrue (fits kept.now.settings request)
fits_shown kept v w request s known =
    subst (λ (settings : PoolSettings). IsTrue (fits settings request)) (sym (settings_shown kept s.shown)) (known_base kept request v.base s.before.base_is known).fits

pub few_shown : (kept : Kept) (v w : Seen) (request : Request) → Sights kept v w → IsSomeAnd v.base (λ rows. IsTrue (fits rows.settings request) × (rows.settings.most_entries < 2 ^ 32))
    → length kept.log < 2 ^ 32
few_shown kept v w request s known = omega (arith, s.shown.legal.few, (known_base kept request v.base s.before.base_is known).few)

-- ---- what that comes to

reply_shown : (kept : Kept) (query : Query) → Shown kept → IsTrue (reads_rows query.request) → reply_of kept.now query ≡ reply_of (replay kept.base kept.log) query
reply_shown kept query s reads = ap (λ (p : PoolState). reply_of p query) s.replayed ∙ reply_of_rows_alone (replay kept.base kept.log) query reads

-- what a view with this reader may show next
may_show : (start : Base) (kept : Kept) (v w : Seen) → Sights kept v w → kept.base ≡ start.rows → MayShow (known_by start v) w.seen
may_show start kept v w s base =
    let seen : kept.log ≡ w.seen = sym s.seen in
    record {
      legal = subst (λ (b : PoolState). IsLegal b w.seen) base (subst (IsLegal kept.base) seen s.shown.legal);
      seen = subst (λ (l : List Entry). IsPrefix v.seen l) seen s.before.seen;
      told = subst (λ (l : List Entry). All (λ list. IsPrefix list l) v.told) seen s.before.told;
    }

-- the reply of the rows after the entries, unless the caller has seen more
abbrev reply_after : Base → List Entry → Query → Reply
reply_after start log query =
    if is_ahead (start.count + length log) query.after then reply.No (rule.FrontAhead (start.count + length log)) else reply_of (replay start.rows log) query

reply_read : (start : Base) (kept : Kept) (w : Seen) (query : Query) → Shown kept → w.seen ≡ kept.log → kept.base ≡ start.rows → IsTrue (reads_rows query.request)
    → (if is_ahead (start.count + length kept.log) query.after then reply.No (rule.FrontAhead (start.count + length kept.log)) else reply_of kept.now query) ≡ reply_after start w.seen query
reply_read start kept w query s seen base reads =
    ap (λ (r : Reply). if is_ahead (start.count + length kept.log) query.after then reply.No (rule.FrontAhead (start.count + length kept.log)) else r)
    (reply_shown kept query s reads ∙ ap (λ (b : PoolState). reply_of (replay b kept.log) query) base)
    ∙ ap (λ (l : List Entry). reply_after start l query) (sym seen)

viewed_read : (start : Base) (kept : Kept) (v w : Seen) (query : Query) (viewed : Viewed) → Sights kept v w → kept.base ≡ start.rows → IsTrue (reads_rows query.request)
    → IsFront kept start.count query viewed → IsViewed (known_by start v) (known_by start w) query viewed
viewed_read start kept v w query viewed s base reads f = record {
  entries = may_show start kept v w s base;
  front = f.front ∙ ap (λ (l : List Entry). start.count + length l) (sym s.seen);
  reply = f.reply ∙ reply_read start kept w query s.shown s.seen base reads;
}

shows : (start : Base) (kept : Kept) (v w : Seen) (query : Query) (result : Result Viewed AllocError) → Sights kept v w → kept.base ≡ start.rows → IsTrue (reads_rows query.request)
    → IfOk result (IsFront kept start.count query) → Shows (known_by start v) (known_by start w) query result
shows start kept v w query (Ok viewed) s base reads f = viewed_read start kept v w query viewed s base reads f
shows start kept v w query (Err e) s base reads f = inr (may_show start kept v w s base)

same_known : (start : Base) (v w : Seen) → w.told ≡ v.told → known_by start w ≡ record (known_by start v) { seen = w.seen }
same_known start v w told = ap (λ (t : List (List Entry)). let k : Known = record { start = start; seen = w.seen; told = t } in k) told

-- a reader that was let in
pub is_read : (kept : Kept) (count : ℕ) (v w : Seen) (query : Query) (result : Result Viewed AllocError) → Sights kept v w
    → IsSomeAnd v.base (λ rows. IsTrue (fits rows.settings query.request) × (rows.settings.most_entries < 2 ^ 32)) → IsTrue (reads_rows query.request)
    → IfOk result (IsFront kept count query) → IsRead count v w query result
is_read kept count v w query result s known reads f = record {
  base = same_base v.base s.before.base_is known;
  asked = λ rows is.
      let start : Base = record { rows = rows; count = count } in
      record {
        shows = shows start kept v w query result s (base_shown kept v w rows s is) reads f;
        same = same_known start v w s.told_is;
      };
}
  where
    same_base : (b : Option PoolState) → IfSome b (λ rows. rows ≡ kept.base) → IsSomeAnd b (λ rows. IsTrue (fits rows.settings query.request) × (rows.settings.most_entries < 2 ^ 32)) → w.base ≡ b
    same_base (Some rows) same known = s.base ∙ ap (λ (p : PoolState). Some p) (sym same)
    same_base None same known = absurd known

-- a reader that was not
pub not_read : (count : ℕ) (v w : Seen) (query : Query) (error : AllocError) → w ≡ v → IsRead count v w query (Err error)
not_read count v w query error same = record {
  base = ap (λ (s : Seen). s.base) same;
  asked = λ rows is.
      let start : Base = record { rows = rows; count = count } in
      record {
        shows = inl (ap (λ (s : Seen). s.seen) same);
        same = same_known start v w (ap (λ (s : Seen). s.told) same);
      };
}

-- ---- the place of the reader

module _ {R : Type 0} (seen_of : R → Seen) where
  -- what a view with this place knows
  abbrev pub known_in : Base → Option R → Known
  known_in start place = record { start = start; seen = option_map_or (λ r. (seen_of r).seen) place []; told = option_map_or (λ r. (seen_of r).told) place [] }

  pub known-in : (start : Base) (place : Option R) (reader : R) → place ≡ Some reader → known_in start place ≡ known_by start (seen_of reader)
  known-in start place reader e = ap (known_in start) e

  -- the question to the reader is one to the view
  pub asked_in : (start : Base) (place : Option R) (reader reader' : R) (old : Known) (query : Query) (result : Result Viewed AllocError) → place ≡ Some reader → known_in start place ≡ old
      → (seen_of reader).base ≡ Some start.rows → IsRead start.count (seen_of reader) (seen_of reader') query result → IsAsked old (known_by start (seen_of reader')) query result
  asked_in start place reader reader' old query result e is base read =
      subst (λ (k : Known). IsAsked k (known_by start (seen_of reader')) query result) (sym (known-in start place reader e) ∙ is) (read.asked start.rows base)

-- the base of a view is that of its reader
pub base_in : (rows : PoolState) (b : Option PoolState) (request : Request) → b ≡ Some rows → IsTrue (fits rows.settings request) → rows.settings.most_entries < 2 ^ 32
    → IsSomeAnd b (λ rows. IsTrue (fits rows.settings request) × (rows.settings.most_entries < 2 ^ 32))
base_in rows b request is its few = subst (λ (o : Option PoolState). IsSomeAnd o (λ rows. IsTrue (fits rows.settings request) × (rows.settings.most_entries < 2 ^ 32))) (sym is) (its, few)
