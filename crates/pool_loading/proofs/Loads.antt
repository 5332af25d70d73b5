-- A machine that is loaded, and what is refused.
use Rattle.std.proofs.Common.{◌≡◌, ◌≤◌, inr, ℕ, List, length, Option, Some, None, IfSome, sym, ap, ◌∙◌, subst}
use Rattle.std.proofs.lemmas.List.{length-map}
use Rattle.swarm_keeper.specs.Tables.{Tables}
use Rattle.pool_loading.specs.Types.{Entry, PoolSettings}
use Rattle.swarm_model.specs.History.{replay}
use Rattle.swarm_model.specs.MachineState.{MachineState, IsHistory}
use Rattle.swarm_model.specs.Soundness.{IsSound}
use Rattle.pool_laws.proofs.MachineLaws.{is_sound}
use Rattle.entry_lines.specs.Lines.{entry_of_line}
use Rattle.pool_loading.specs.declared.store_part.StorePart.{StorePart}
use Rattle.pool_loading.specs.declared.store_part.StorePart.TheVariants as part
use Rattle.pool_loading.specs.Records.{AreLinesOf, AreRefusedAt, LacksBytes}
use Rattle.pool_loading.specs.Lines.{AreAll, BeginsFrom, IsRefusedOf, IsReplay}
use Rattle.pool_loading.specs.Filling.{LacksBlob}

-- the pool of a machine has few blobs
pub few_blobs : (kept : MachineState) → IsHistory kept → length kept.pool.blobs ≤ 262144
few_blobs kept h = let sound : IsSound kept.pool = is_sound kept h in sound.few_blobs

-- the log is as long as its lines
as_many : (lines : List (List ℕ)) (log : List Entry) → AreLinesOf lines log → length log ≡ length lines
as_many lines log read = sym (length-map {B = Option Entry} log (λ e. Some e)) ∙ (sym (ap length read) ∙ length-map lines entry_of_line)

module _ (settings : PoolSettings) (kept : MachineState) (history : IsHistory kept) where
  lacks_bytes : (t : Tables) → AreLinesOf t.lines kept.log → LacksBlob t kept.pool → LacksBytes kept.start.rows t
  lacks_bytes t read lacks =
      let of_log : LacksBlob t (replay kept.start.rows kept.log) = subst (LacksBlob t) history.replayed lacks in
      record {
        log = kept.log;
        read = read;
        legal = history.legal;
        place = of_log.place;
        row = of_log.row;
        there = of_log.there;
        without = of_log.without;
      }

  bytes_missing : (t : Tables) → BeginsFrom settings kept.start t → AreLinesOf t.lines kept.log → LacksBlob t kept.pool → AreRefusedAt settings t part.Lines (length kept.log)
  bytes_missing t begins read lacks = (kept.start.rows, begins.base, inr (as_many t.lines kept.log read, lacks_bytes t read lacks))

-- all lines are read, and a blob lacks its bytes
pub refused_bytes : (settings : PoolSettings) (tables : Option Tables) (kept : MachineState) → IsReplay settings tables kept → AreAll tables kept.log → (which : StorePart) (at : ℕ) →
    (which ≡ part.Lines) × (at ≡ length kept.log) × IfSome tables (λ t. LacksBlob t kept.pool) → IsRefusedOf settings tables which at
refused_bytes settings None kept r all which at h = tt
refused_bytes settings (Some t) kept r all which at h = rw (h.0, h.1) (bytes_missing settings kept r.history t r.begins all h.2)
