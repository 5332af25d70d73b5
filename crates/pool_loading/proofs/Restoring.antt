-- What the next start finds in the records of a machine.
use Rattle.std.proofs.Common.{◌≡◌, ℕ, zero, suc, ◌+◌, ◌≤◌, ◌⊎◌, inl, inr, List, [], ◌∷◌, ◌++◌, length, length-append, map, take, sum_by, get_or, slice_get, Option, Some, None, IsTrue, is_some, Result, Ok, Err, refl, sym, ap, ap₂, ◌∙◌, subst, arith}
use Rattle.std.specs.Prelude.{IsSomeAnd}
use Rattle.std.specs.List.{All}
use Rattle.std.specs.Option.{option_map}
use Rattle.std.proofs.lemmas.List.Sums.{sum_by-append}
use Rattle.std.proofs.lemmas.Option.{none-some, same_Some, slice_get_within, get_or_from_slice_get}
use Rattle.pool_loading.specs.Types.{BlobRow, Done, PoolSettings, PoolState, Entry}
use Rattle.swarm_keeper.specs.Tables.{Tables, bytes_of}
use Rattle.swarm_model.specs.BaseRules.{IsBase}
use Rattle.swarm_model.specs.Bases.{Base}
use Rattle.swarm_model.specs.Bytes.{filled}
use Rattle.swarm_model.specs.Entries.{weight}
use Rattle.swarm_model.specs.History.{replay, IsLegal}
use Rattle.swarm_model.specs.MachineState.{MachineState}
use Rattle.pool_laws.proofs.Finals.{caused_first}
use Rattle.entry_lines.specs.Lines.{entry_of_line}
use Rattle.base_lines.specs.Reading.{read_lines}
use Rattle.pool_loading.specs.declared.store_part.StorePart.{StorePart}
use Rattle.pool_loading.specs.declared.store_part.StorePart.TheVariants as part
use Rattle.pool_loading.specs.Records.{rows_told, base_in, HasBase, AreLinesOf, IsLoaded, HasBytes, IsFirstRefused, LacksBytes, AreRefusedAt, HasHistory, Restores}

-- ---- lines and logs

-- the lines of a log are those of no other
pub one_log : (log other : List Entry) → map (λ (e : Entry). Some e) log ≡ map (λ (e : Entry). Some e) other → log ≡ other
one_log [] [] same = refl
one_log [] (e ∷ other) same = absurd (cc)
one_log (e ∷ log) [] same = absurd (cc)
one_log (e ∷ log) (f ∷ other) same =
    let head : e ≡ f = cc in
    let tail : map (λ (e : Entry). Some e) log ≡ map (λ (e : Entry). Some e) other = cc in
    ap₂ (λ a rest. a ∷ rest) head (one_log log other tail)

-- where the first lines are those of a log, and a line follows, the log of all lines goes on by its entry
record GoesOn (read : List Entry) (log : List Entry) (line : List ℕ) : Type 0 where
  entry : Entry
  is : entry_of_line line ≡ Some entry
  rest : List Entry
  parts : log ≡ (read ++ entry ∷ []) ++ rest

-- so it is where both have one entry more before
with_first : (e f : Entry) (read log : List Entry) (line : List ℕ) → e ≡ f → GoesOn read log line → GoesOn (f ∷ read) (e ∷ log) line
with_first e f read log line same more = record {
  entry = more.entry;
  is = more.is;
  rest = more.rest;
  parts = ap (λ (rest : List Entry). e ∷ rest) more.parts ∙ ap (λ (a : Entry). a ∷ ((read ++ more.entry ∷ []) ++ more.rest)) same;
}

goes_on : (lines : List (List ℕ)) (log read : List Entry) (at : ℕ) (line : List ℕ) → AreLinesOf lines log → AreLinesOf (take at lines) read → slice_get lines at ≡ Some line → GoesOn read log line
goes_on [] log read at line all first there = absurd (none-some line there)
goes_on (l ∷ lines) [] read at line all first there = absurd (cc)
goes_on (l ∷ lines) (e ∷ log) (f ∷ read) zero line all first there = absurd (cc)
goes_on (l ∷ lines) (e ∷ log) [] zero line all first there =
    let head : entry_of_line l ≡ Some e = cc in
    record { entry = e; is = ap entry_of_line (sym (same_Some l line there)) ∙ head; rest = log; parts = refl }
goes_on (l ∷ lines) (e ∷ log) [] (suc at) line all first there = absurd (cc)
goes_on (l ∷ lines) (e ∷ log) (f ∷ read) (suc at) line all first there =
    let same : e ≡ f = cc in
    let rest_all : map entry_of_line lines ≡ map Some log = cc in
    let rest_first : map entry_of_line (take at lines) ≡ map Some read = cc in
    with_first e f read log line same (goes_on lines log read at line rest_all rest_first there)

-- the beginning of a legal log is legal
legal_before : (s : PoolState) (log rest : List Entry) → IsLegal s (log ++ rest) → IsLegal s log
legal_before s log rest legal =
    let few = legal.few in
    let light = legal.light in
    let counted = length-append log rest in
    let heavy = sum_by-append weight log rest in
    record { caused = caused_first s log rest legal.caused; few = omega (arith, few, counted); light = omega (arith, light, heavy) }

-- ---- what is refused

module _ (settings : PoolSettings) (t : Tables) (kept : MachineState) (loaded : IsLoaded settings (Some t) kept) where
  based : base_in settings t.base ≡ Some kept.start.rows
  based = subst (λ (s : PoolSettings). base_in s t.base ≡ Some kept.start.rows) loaded.settings_are loaded.records.base

  is_base : IsBase settings t.count kept.start.rows
  is_base =
      subst (λ (n : ℕ). IsBase settings n kept.start.rows) (sym loaded.records.count)
      (subst (λ (s : PoolSettings). IsBase s kept.start.count kept.start.rows) loaded.settings_are loaded.history.base)

  -- the lines tell no other base, and no other log
  one_base : (rows : PoolState) → base_in settings t.base ≡ Some rows → rows ≡ kept.start.rows
  one_base rows told = same_Some rows kept.start.rows (sym told ∙ based)

  the_log : (log : List Entry) → AreLinesOf t.lines log → log ≡ kept.log
  the_log log read = one_log log kept.log (sym read ∙ loaded.records.lines)

  line_read : (base : PoolState) (at : ℕ) → base ≡ kept.start.rows → IsFirstRefused base t.lines at → ⊥
  line_read base at same x =
      let more = goes_on t.lines kept.log x.log at x.line loaded.records.lines x.read x.there in
      x.refused more.entry more.is
      (legal_before base (x.log ++ more.entry ∷ []) more.rest
      (subst (λ (s : PoolState). IsLegal s ((x.log ++ more.entry ∷ []) ++ more.rest)) (sym same) (subst (IsLegal kept.start.rows) more.parts loaded.history.legal)))

  -- bytes that are held are in the tables
  has_bytes : (row : BlobRow) (o : Option (List ℕ)) → kept.held row.digest ≡ o → option_map (filled kept.pool row.digest) o ≡ Some Done → HasBytes t kept.pool row.digest
  has_bytes row None is own = absurd (none-some Done own)
  has_bytes row (Some bytes) is own =
      subst (λ (o : Option (List ℕ)). IsSomeAnd o (λ b. filled kept.pool row.digest b ≡ Done)) (sym (loaded.records.blobs row.digest (ap is_some is) ∙ is))
      (same_Some (filled kept.pool row.digest bytes) Done own)

  all_bytes : All (λ (row : BlobRow). HasBytes t kept.pool row.digest) kept.pool.blobs
  all_bytes = λ place d low. let row : BlobRow = get_or kept.pool.blobs place d in has_bytes row (kept.held row.digest) refl (loaded.held place d low)

  bytes_there : All (λ (row : BlobRow). HasBytes t (replay kept.start.rows kept.log) row.digest) (replay kept.start.rows kept.log).blobs
  bytes_there = subst (λ (s : PoolState). All (λ (row : BlobRow). HasBytes t s row.digest) s.blobs) loaded.history.replayed all_bytes

  blob_read : (base : PoolState) → base ≡ kept.start.rows → LacksBytes base t → ⊥
  blob_read base same x =
      let there : slice_get (replay kept.start.rows kept.log).blobs x.place ≡ Some x.row =
      subst (λ (s : PoolState). slice_get (replay s kept.log).blobs x.place ≡ Some x.row) same
      (subst (λ (l : List Entry). slice_get (replay base l).blobs x.place ≡ Some x.row) (the_log x.log x.read) x.there) in
      let rows : List BlobRow = (replay kept.start.rows kept.log).blobs in
      let has : HasBytes t (replay kept.start.rows kept.log) x.row.digest =
      subst (λ (row : BlobRow). HasBytes t (replay kept.start.rows kept.log) row.digest) (get_or_from_slice_get rows x.place x.row x.row there)
      (bytes_there x.place x.row (slice_get_within rows x.place x.row there)) in
      x.without (subst (λ (s : PoolState). HasBytes t (replay s x.log) x.row.digest) (sym same) (subst (λ (l : List Entry). HasBytes t (replay kept.start.rows l) x.row.digest) (sym (the_log x.log x.read)) has))

  base_read : (at : ℕ) → read_lines t.base ≡ Err at → ⊥
  base_read at refused = none-some kept.start.rows (sym (ap (rows_told settings) refused) ∙ based)

  is_accepted : (which : StorePart) (at : ℕ) → AreRefusedAt settings t which at → ⊥
  is_accepted part.Base at (inl refused) = base_read at refused
  is_accepted part.Base at (inr x) = x.1.no_base (subst (IsBase settings t.count) (sym (one_base x.1.rows x.1.told)) is_base)
  is_accepted part.Lines at x = by_part x.0 x.1 x.2
    where
      by_part : (base : PoolState) → HasBase settings t base → IsFirstRefused base t.lines at ⊎ ((at ≡ length t.lines) × LacksBytes base t) → ⊥
      by_part base has (inl y) = line_read base at (one_base base has.told) y
      by_part base has (inr y) = blob_read base (one_base base has.told) y.1

-- two machines of the same records begin at one base, and have one log
one_history : (settings : PoolSettings) (t : Tables) (kept other : MachineState) → IsLoaded settings (Some t) kept → IsLoaded settings (Some t) other → HasHistory kept.start kept.log other
one_history settings t kept other loaded also =
    let rows : other.start.rows ≡ kept.start.rows = one_base settings t kept loaded other.start.rows (based settings t other also) in
    let count : other.start.count ≡ kept.start.count = sym also.records.count ∙ loaded.records.count in
    let log : other.log ≡ kept.log = the_log settings t kept loaded other.log also.records.lines in
    record {
      begins = ap₂ (λ (rows : PoolState) (count : ℕ). let b : Base = record { rows = rows; count = count } in b) rows count;
      log_is = log;
      rows = also.history.replayed ∙ ap₂ replay rows log;
    }

-- the records of which a machine is made restore it
pub restores : (settings : PoolSettings) (t : Tables) (kept : MachineState) → IsLoaded settings (Some t) kept → Restores settings kept.start kept.log t
restores settings t kept loaded = record {
  accepted = is_accepted settings t kept loaded;
  same = λ other also. one_history settings t kept other loaded also;
  bytes = bytes_there settings t kept loaded;
}
