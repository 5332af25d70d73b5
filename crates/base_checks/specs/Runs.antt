-- Whether what is kept of a run may stand in a base.
use Rattle.std.specs.Prelude.{ℕ, Bool, true, false, ◌+◌, ◌==◌, ◌&&◌, ◌||◌, not, nat_le, List, [], ◌∷◌, Option, Some, None, is_some, is_none, slice_get}
use Rattle.std.specs.List.{list_all}
use Rattle.std.specs.Option.{option_map_or}
use Rattle.base_checks.specs.Types.{Slice, Attempt, Chunk, Retried}
use Rattle.swarm_model.specs.Words.{is_between}
use Rattle.swarm_model.specs.Fits.{fits_chunk, fits_last, is_name}

-- ---- what a bot claimed and reported

-- one of so many bots claimed the run under a name, no later than the moment
abbrev pub has_right_claim : ℕ → ℕ → Attempt → Bool
has_right_claim moment bots attempt = is_between 1 bots attempt.bot && (is_name attempt.claim && nat_le attempt.begun moment)

-- reports may hold what was reported, and the last chunk came with the last report
abbrev pub has_right_reports : Attempt → Bool
has_right_reports attempt =
    list_all fits_chunk attempt.chunks
    && (option_map_or fits_last attempt.last true
    && (option_map_or fits_chunk attempt.last_chunk true && (is_none attempt.last_chunk || is_some attempt.last)))

-- chunks follow each other from one place to another
abbrev pub are_in_row : ℕ → List Chunk → ℕ → Bool
are_in_row from [] to = from == to
are_in_row from (chunk ∷ chunks) to = chunk.start == from && are_in_row (from + chunk.size) chunks to

-- the chunks that are kept are the output from its first byte to its last
abbrev pub has_right_output : Attempt → Bool
has_right_output attempt = are_in_row 0 attempt.chunks attempt.length && nat_le attempt.length 67108864

abbrev pub is_right_run : ℕ → ℕ → Attempt → Bool
is_right_run moment bots attempt = has_right_claim moment bots attempt && (has_right_reports attempt && has_right_output attempt)

-- ---- the runs of a task

-- the run is the first, or, where one was lost, the second and by another bot
abbrev pub is_right_try : Option Retried → Attempt → Bool
is_right_try None attempt = attempt.try_no == 1
is_right_try (Some lost) attempt = attempt.try_no == 2 && not (attempt.bot == lost.attempt.bot)

abbrev pub is_right_attempt : ℕ → ℕ → Option Retried → Attempt → Bool
is_right_attempt moment bots retried attempt = is_right_run moment bots attempt && is_right_try retried attempt

-- the slice of the place may run twice
abbrev pub is_idempotent_at : List Slice → ℕ → Bool
is_idempotent_at slices place = option_map_or (λ slice. slice.properties.idempotent) (slice_get slices place) false

-- the first run of a task, which was not asked to stop and has no last report
abbrev pub is_open_run : Attempt → Bool
is_open_run attempt = attempt.try_no == 1 && (not attempt.kill && is_none attempt.last)

-- a run was lost that is tried again
abbrev pub is_right_loss : ℕ → ℕ → ℕ → List Slice → Retried → Bool
is_right_loss retries moment bots slices lost =
    (retries == 1 && is_idempotent_at slices lost.slice)
    && ((is_open_run lost.attempt && nat_le lost.over moment) && is_right_run moment bots lost.attempt)
