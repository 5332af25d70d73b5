-- Deadlines that are ahead, row by row, are all those of the pool.
use Rattle.std.proofs.Common.{◌≡◌, ℕ, ◌≤◌, Bool, true, false, nat_le, Decides, MatchBool, List, ◌++◌, map, All, sym, Option, IfSome}
use Rattle.std.specs.List.{AllPass, list_all, filter_map}
use Rattle.std.proofs.lemmas.List.Elements.{All-append, All-map}
use Rattle.base_checks.specs.Types.{BlobRow, PoolState, Deadline}
use Rattle.swarm_model.specs.Deadlines.{slice_end, silence_end, bot_end, blob_end}
use Rattle.pool_laws.proofs.Lists.{each, all, among_left, among_right, among_map, from_filter_map, all_filter_map}
use Rattle.base_checks.specs.Deadlines.{is_ahead, slice_is_ahead, silence_is_ahead, death_is_ahead, blob_is_ahead, AreAhead}
use Rattle.base_checks.proofs.Tests.{le_decides, some_decides, all_decides}

module _ {X : Type 0} (P : X → Type 0) where
  -- what holds of the elements of two lists in a row holds of those of each
  front_of : (xs ys : List X) → All P (xs ++ ys) → All P xs
  front_of xs ys h = all P xs (λ x a. each P (xs ++ ys) h x (among_left x xs ys a))

  back_of : (xs ys : List X) → All P (xs ++ ys) → All P ys
  back_of xs ys h = all P ys (λ x a. each P (xs ++ ys) h x (among_right x xs ys a))

module _ (moment : ℕ) where
  abbrev IsLate : Deadline → Type 0
  IsLate d = moment ≤ d.moment

  ahead_decides : (o : Option Deadline) → Decides (is_ahead moment o) (IfSome o IsLate)
  ahead_decides o = some_decides (λ (d : Deadline). nat_le moment d.moment) IsLate (λ d. le_decides moment d.moment) o

  module _ {R : Type 0} (end_of : R → Option Deadline) where
    abbrev passes : R → Bool
    passes row = is_ahead moment (end_of row)

    -- the deadlines of rows are ahead exactly where each row's is
    all_late : (rows : List R) → AllPass passes rows → All IsLate (filter_map end_of rows)
    all_late rows h = all_filter_map end_of IsLate rows (λ row a. (ahead_decides (end_of row)).0 (each (λ (r : R). passes r ≡ true) rows h row a))

    all_pass : (rows : List R) → All IsLate (filter_map end_of rows) → AllPass passes rows
    all_pass rows h = all (λ (r : R). passes r ≡ true) rows (λ row a. (ahead_decides (end_of row)).1 (from_filter_map end_of IsLate rows h row a))

  blobs_decide : (blobs : List BlobRow) → Decides (list_all (blob_is_ahead moment) blobs) (All (λ (b : BlobRow). IsLate (blob_end b)) blobs)
  blobs_decide blobs = all_decides (blob_is_ahead moment) (λ (b : BlobRow). IsLate (blob_end b)) (λ b. le_decides moment (blob_end b).moment) blobs

module _ (s : PoolState) where
  abbrev SlicesPass : Type 0
  SlicesPass = AllPass (slice_is_ahead s.last) s.tasks

  abbrev SilencesPass : Type 0
  SilencesPass = AllPass (silence_is_ahead s.last s.bots) s.tasks

  abbrev DeathsPass : Type 0
  DeathsPass = AllPass (death_is_ahead s.last s.settings.death_timeout_secs) s.bots

  abbrev Late : Deadline → Type 0
  Late d = IsLate s.last d

  abbrev slices : List Deadline
  slices = filter_map slice_end s.tasks

  abbrev silences : List Deadline
  silences = filter_map (silence_end s) s.tasks

  abbrev deaths : List Deadline
  deaths = filter_map (bot_end s) s.bots

  abbrev ends : List Deadline
  ends = map blob_end s.blobs

  pub slices_of : AreAhead s → SlicesPass
  slices_of ahead = all_pass s.last slice_end s.tasks (front_of Late slices (silences ++ (deaths ++ ends)) ahead)

  after_slices : AreAhead s → All Late (silences ++ (deaths ++ ends))
  after_slices ahead = back_of Late slices (silences ++ (deaths ++ ends)) ahead

  pub silences_of : AreAhead s → SilencesPass
  silences_of ahead = all_pass s.last (silence_end s) s.tasks (front_of Late silences (deaths ++ ends) (after_slices ahead))

  after_silences : AreAhead s → All Late (deaths ++ ends)
  after_silences ahead = back_of Late silences (deaths ++ ends) (after_slices ahead)

  pub deaths_of : AreAhead s → DeathsPass
  deaths_of ahead = all_pass s.last (bot_end s) s.bots (front_of Late deaths ends (after_silences ahead))

  -- the last of them are told with the others
  pub told_of_all : SlicesPass → SilencesPass → DeathsPass → (r : Bool) → r ≡ list_all (blob_is_ahead s.last) s.blobs → MatchBool r (AreAhead s) (AreAhead s → ⊥)
  told_of_all of_slices of_silences of_deaths true e =
      let late : All (λ (b : BlobRow). Late (blob_end b)) s.blobs = (blobs_decide s.last s.blobs).0 (sym e) in
      All-append Late slices (silences ++ (deaths ++ ends)) (all_late s.last slice_end s.tasks of_slices)
      (All-append Late silences (deaths ++ ends) (all_late s.last (silence_end s) s.tasks of_silences)
      (All-append Late deaths ends (all_late s.last (bot_end s) s.bots of_deaths) (All-map Late blob_end s.blobs late)))
  told_of_all of_slices of_silences of_deaths false e = λ ahead.
      let late : All Late ends = back_of Late deaths ends (after_silences ahead) in
      let each_late : All (λ (b : BlobRow). Late (blob_end b)) s.blobs =
      all (λ (b : BlobRow). Late (blob_end b)) s.blobs (λ b a. each Late ends late (blob_end b) (among_map blob_end s.blobs b a)) in
      let yes = (blobs_decide s.last s.blobs).1 each_late in
      absurd (cc (yes, e))
