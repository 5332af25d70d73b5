-- The tests on runs decide what is asked of them.
use Rattle.std.proofs.Common.{◌≡◌, ℕ, ◌+◌, ◌≤◌, ◌==◌, ◌&&◌, ◌||◌, not, Bool, true, false, nat_le, Decides, List, [], ◌∷◌, All, length, refl, ap, ◌∙◌, Option, Some, None, IfSome, is_some, is_none}
use Rattle.std.specs.Prelude.{IsTrue, IsFalse, slice_get}
use Rattle.std.specs.List.{list_all}
use Rattle.std.specs.Option.{option_map_or}
use Rattle.std.proofs.lemmas.Bool.{leb-true, and_parts}
use Rattle.std.proofs.lemmas.Bool.Decides.{Decides-eqb, Decides-not}
use Rattle.std.proofs.lemmas.List.Elements.{All-weaker}
use Rattle.base_checks.specs.Types.{Slice, Attempt, Chunk, Retried, PoolState}
use Rattle.swarm_model.specs.declared.attempt.Last.{Last}
use Rattle.swarm_model.specs.Words.{is_between}
use Rattle.swarm_model.specs.Fits.{fits_chunk, fits_last, is_name}
use Rattle.swarm_model.specs.Output.{AreInRow}
use Rattle.swarm_model.specs.Soundness.{IsSoundOutput, IsSoundRetried, IsRightTry}
use Rattle.swarm_model.specs.BaseRules.{IsKeptAttempt}
use Rattle.base_checks.specs.Runs.{has_right_claim, has_right_reports, are_in_row, has_right_output, is_right_run, is_right_try, is_right_attempt, is_idempotent_at, is_open_run, is_right_loss}
use Rattle.base_checks.proofs.Tests.{le_decides, true_decides, false_decides, none_decides, some_decides, all_decides, both_decide, decides_as}

-- ---- one run

abbrev IsFitChunk : Chunk → Type 0
IsFitChunk chunk = IsTrue (fits_chunk chunk)

abbrev IsFitLast : Last → Type 0
IsFitLast last = IsTrue (fits_last last)

abbrev HasClaim : ℕ → ℕ → Attempt → Type 0
HasClaim moment bots a = ((1 ≤ a.bot) × (a.bot ≤ bots)) × (IsTrue (is_name a.claim) × (a.begun ≤ moment))

claim_decides : (moment bots : ℕ) (a : Attempt) → Decides (has_right_claim moment bots a) (HasClaim moment bots a)
claim_decides moment bots a =
    both_decide ((1 ≤ a.bot) × (a.bot ≤ bots)) (IsTrue (is_name a.claim) × (a.begun ≤ moment)) (is_between 1 bots a.bot) (is_name a.claim && nat_le a.begun moment)
    (both_decide (1 ≤ a.bot) (a.bot ≤ bots) (nat_le 1 a.bot) (nat_le a.bot bots) (le_decides 1 a.bot) (le_decides a.bot bots))
    (both_decide (IsTrue (is_name a.claim)) (a.begun ≤ moment) (is_name a.claim) (nat_le a.begun moment) (true_decides (is_name a.claim)) (le_decides a.begun moment))

-- a last chunk came with a last report
abbrev EndsWith : Option Last → Option Chunk → Type 0
EndsWith last tail = IfSome tail (λ chunk. IsTrue (is_some last))

tail_decides : (last : Option Last) (tail : Option Chunk) → Decides (is_none tail || is_some last) (EndsWith last tail)
tail_decides last None = (λ e. tt, λ h. refl)
tail_decides last (Some chunk) = true_decides (is_some last)

abbrev HasTail : Attempt → Type 0
HasTail a = IfSome a.last_chunk IsFitChunk × EndsWith a.last a.last_chunk

abbrev HasReports : Attempt → Type 0
HasReports a = All IsFitChunk a.chunks × (IfSome a.last IsFitLast × HasTail a)

reports_decide : (a : Attempt) → Decides (has_right_reports a) (HasReports a)
reports_decide a =
    let tail_of : Bool = option_map_or fits_chunk a.last_chunk true in
    let ends : Bool = is_none a.last_chunk || is_some a.last in
    both_decide (All IsFitChunk a.chunks) (IfSome a.last IsFitLast × HasTail a) (list_all fits_chunk a.chunks) (option_map_or fits_last a.last true && (tail_of && ends))
    (all_decides fits_chunk IsFitChunk (λ chunk. true_decides (fits_chunk chunk)) a.chunks)
    (both_decide (IfSome a.last IsFitLast) (HasTail a) (option_map_or fits_last a.last true) (tail_of && ends)
    (some_decides fits_last IsFitLast (λ last. true_decides (fits_last last)) a.last)
    (both_decide (IfSome a.last_chunk IsFitChunk) (EndsWith a.last a.last_chunk) tail_of ends
    (some_decides fits_chunk IsFitChunk (λ chunk. true_decides (fits_chunk chunk)) a.last_chunk)
    (tail_decides a.last a.last_chunk)))

in_row_decides : (from : ℕ) (chunks : List Chunk) (to : ℕ) → Decides (are_in_row from chunks to) (AreInRow from chunks to)
in_row_decides from [] to = Decides-eqb from to
in_row_decides from (chunk ∷ chunks) to =
    both_decide (chunk.start ≡ from) (AreInRow (from + chunk.size) chunks to) (chunk.start == from) (are_in_row (from + chunk.size) chunks to)
    (Decides-eqb chunk.start from) (in_row_decides (from + chunk.size) chunks to)

abbrev HasOutput : Attempt → Type 0
HasOutput a = AreInRow 0 a.chunks a.length × (a.length ≤ 67108864)

output_decides : (a : Attempt) → Decides (has_right_output a) (HasOutput a)
output_decides a =
    both_decide (AreInRow 0 a.chunks a.length) (a.length ≤ 67108864) (are_in_row 0 a.chunks a.length) (nat_le a.length 67108864)
    (in_row_decides 0 a.chunks a.length) (le_decides a.length 67108864)

-- a chunk that fits has a byte
has_byte : (chunk : Chunk) → IsFitChunk chunk → 1 ≤ chunk.size
has_byte chunk fits =
    let sized = (and_parts (is_between 1 32768 chunk.size) (nat_le (chunk.start + chunk.size) 67108864) fits).0 in
    leb-true 1 chunk.size (and_parts (nat_le 1 chunk.size) (nat_le chunk.size 32768) sized).0

abbrev pub IsRightRun : ℕ → ℕ → Attempt → Type 0
IsRightRun moment bots a = IsKeptAttempt moment bots a × IsSoundOutput a

abbrev RunParts : ℕ → ℕ → Attempt → Type 0
RunParts moment bots a = HasClaim moment bots a × (HasReports a × HasOutput a)

run_of_parts : (moment bots : ℕ) (a : Attempt) → RunParts moment bots a → IsRightRun moment bots a
run_of_parts moment bots a h =
    let claim : HasClaim moment bots a = h.0 in
    let reports : HasReports a = h.1.0 in
    let output : HasOutput a = h.1.1 in (
      record {
        bot_from = claim.0.0;
        bot_to = claim.0.1;
        claim = claim.1.0;
        begun = claim.1.1;
        chunks = reports.0;
        last = reports.1.0;
        tail = reports.1.1.0;
        ended = reports.1.1.1;
      },
      record {
        in_row = output.0;
        full = All-weaker IsFitChunk (λ (chunk : Chunk). 1 ≤ chunk.size) has_byte a.chunks reports.0;
        short = output.1;
      },
    )

parts_of_run : (moment bots : ℕ) (a : Attempt) → IsRightRun moment bots a → RunParts moment bots a
parts_of_run moment bots a h =
    let kept : IsKeptAttempt moment bots a = h.0 in
    let output : IsSoundOutput a = h.1 in
    (((kept.bot_from, kept.bot_to), (kept.claim, kept.begun)), ((kept.chunks, (kept.last, (kept.tail, kept.ended))), (output.in_row, output.short)))

pub run_decides : (moment bots : ℕ) (a : Attempt) → Decides (is_right_run moment bots a) (IsRightRun moment bots a)
run_decides moment bots a =
    decides_as (RunParts moment bots a) (IsRightRun moment bots a) (is_right_run moment bots a) (run_of_parts moment bots a) (parts_of_run moment bots a)
    (both_decide (HasClaim moment bots a) (HasReports a × HasOutput a) (has_right_claim moment bots a) (has_right_reports a && has_right_output a)
    (claim_decides moment bots a)
    (both_decide (HasReports a) (HasOutput a) (has_right_reports a) (has_right_output a) (reports_decide a) (output_decides a)))

-- ---- the runs of a task

try_decides : (lost : Option Retried) (a : Attempt) → Decides (is_right_try lost a) (IsRightTry lost a)
try_decides None a = Decides-eqb a.try_no 1
try_decides (Some lost) a =
    both_decide (a.try_no ≡ 2) (a.bot ≡ lost.attempt.bot → ⊥) (a.try_no == 2) (not (a.bot == lost.attempt.bot))
    (Decides-eqb a.try_no 2) (Decides-not (a.bot == lost.attempt.bot) (Decides-eqb a.bot lost.attempt.bot))

abbrev pub IsRightAttempt : ℕ → ℕ → Option Retried → Attempt → Type 0
IsRightAttempt moment bots lost a = IsRightRun moment bots a × IsRightTry lost a

pub attempt_decides : (moment bots : ℕ) (lost : Option Retried) (a : Attempt) → Decides (is_right_attempt moment bots lost a) (IsRightAttempt moment bots lost a)
attempt_decides moment bots lost a =
    both_decide (IsRightRun moment bots a) (IsRightTry lost a) (is_right_run moment bots a) (is_right_try lost a) (run_decides moment bots a) (try_decides lost a)

-- the slice of a place, which may run twice
record HasIdempotent (slices : List Slice) (place : ℕ) : Type 0 where
  slice : Slice
  is_slice : slice_get slices place ≡ Some slice
  idempotent : IsTrue slice.properties.idempotent

abbrev is_twice : Option Slice → Bool
is_twice r = option_map_or (λ (x : Slice). x.properties.idempotent) r false

idempotent_decides : (slices : List Slice) (place : ℕ) → Decides (is_idempotent_at slices place) (HasIdempotent slices place)
idempotent_decides slices place = (λ e. by_slice (slice_get slices place) refl e, λ h. ap is_twice h.is_slice ∙ h.idempotent)
  where
    by_slice : (r : Option Slice) → slice_get slices place ≡ r → is_twice r ≡ true → HasIdempotent slices place
    by_slice None f t = absurd (cc (t))
    by_slice (Some x) f t = record { slice = x; is_slice = f; idempotent = t }

abbrev IsOpenRun : Attempt → Type 0
IsOpenRun a = (a.try_no ≡ 1) × (IsFalse a.kill × (a.last ≡ None))

open_decides : (a : Attempt) → Decides (is_open_run a) (IsOpenRun a)
open_decides a =
    both_decide (a.try_no ≡ 1) (IsFalse a.kill × (a.last ≡ None)) (a.try_no == 1) (not a.kill && is_none a.last)
    (Decides-eqb a.try_no 1)
    (both_decide (IsFalse a.kill) (a.last ≡ None) (not a.kill) (is_none a.last) (false_decides a.kill) (none_decides a.last))

module _ (s : PoolState) (slices : List Slice) where
  abbrev pub IsRightLoss : Retried → Type 0
  IsRightLoss lost = IsSoundRetried s slices lost × IsKeptAttempt s.last (length s.bots) lost.attempt

  abbrev LossParts : Retried → Type 0
  LossParts lost =
      ((s.settings.retries ≡ 1) × HasIdempotent slices lost.slice)
      × ((IsOpenRun lost.attempt × (lost.over ≤ s.last)) × IsRightRun s.last (length s.bots) lost.attempt)

  loss_of_parts : (lost : Retried) → LossParts lost → IsRightLoss lost
  loss_of_parts lost h =
      let there : HasIdempotent slices lost.slice = h.0.1 in
      let was_open : IsOpenRun lost.attempt = h.1.0.0 in
      let run : IsRightRun s.last (length s.bots) lost.attempt = h.1.1 in (
        record {
          setting = h.0.0;
          slice = there.slice;
          is_slice = there.is_slice;
          idempotent = there.idempotent;
          first = was_open.0;
          not_killed = was_open.1.0;
          no_last = was_open.1.1;
          output = run.1;
          over = h.1.0.1;
        },
        run.0,
      )

  parts_of_loss : (lost : Retried) → IsRightLoss lost → LossParts lost
  parts_of_loss lost h =
      let sound : IsSoundRetried s slices lost = h.0 in (
        (sound.setting, record { slice = sound.slice; is_slice = sound.is_slice; idempotent = sound.idempotent }),
        (((sound.first, (sound.not_killed, sound.no_last)), sound.over), (h.1, sound.output)),
      )

  pub loss_decides : (lost : Retried) → Decides (is_right_loss s.settings.retries s.last (length s.bots) slices lost) (IsRightLoss lost)
  loss_decides lost =
      let asked : Bool = s.settings.retries == 1 && is_idempotent_at slices lost.slice in
      let open_by : Bool = is_open_run lost.attempt && nat_le lost.over s.last in
      let run : Bool = is_right_run s.last (length s.bots) lost.attempt in
      decides_as (LossParts lost) (IsRightLoss lost) (is_right_loss s.settings.retries s.last (length s.bots) slices lost) (loss_of_parts lost) (parts_of_loss lost)
      (both_decide ((s.settings.retries ≡ 1) × HasIdempotent slices lost.slice) ((IsOpenRun lost.attempt × (lost.over ≤ s.last)) × IsRightRun s.last (length s.bots) lost.attempt)
      asked (open_by && run)
      (both_decide (s.settings.retries ≡ 1) (HasIdempotent slices lost.slice) (s.settings.retries == 1) (is_idempotent_at slices lost.slice)
      (Decides-eqb s.settings.retries 1) (idempotent_decides slices lost.slice))
      (both_decide (IsOpenRun lost.attempt × (lost.over ≤ s.last)) (IsRightRun s.last (length s.bots) lost.attempt) open_by run
      (both_decide (IsOpenRun lost.attempt) (lost.over ≤ s.last) (is_open_run lost.attempt) (nat_le lost.over s.last) (open_decides lost.attempt) (le_decides lost.over s.last))
      (run_decides s.last (length s.bots) lost.attempt)))
