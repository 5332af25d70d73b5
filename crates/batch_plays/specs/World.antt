-- A pool, and a batch with what is saved of it.
use Rattle.std.specs.Prelude.{◌≡◌, List, [], ◌∷◌}
use Rattle.swarm_batch.specs.Batches.{BatchValue}
use Rattle.swarm_batch.specs.Marks.{progress_text}
use Rattle.batch_plays.specs.Types.{Entry, Settings}
use Rattle.swarm_model.specs.Bases.{Base}
use Rattle.swarm_model.specs.MachineState.{MachineState}
use Rattle.pool_loading.specs.Records.{AreFilled}
use Rattle.batch_plays.specs.declared.saved_batch.SavedBatch.{SavedBatch}
use Rattle.batch_plays.specs.Saving.{AreProgress}

-- where the log of the pool begins, the log, and the batch with what is saved of it
pub record World : Type 0 where
  pub start : Base
  pub log : List Entry
  pub files : SavedBatch

abbrev pub world_of : MachineState → SavedBatch → World
world_of machine files = record { start = machine.start; log = machine.log; files = files }

-- a batch of which nothing was saved yet: its progress stands for what was
abbrev pub new_files : BatchValue → SavedBatch
new_files b = record { batch = b; saved = progress_text b.head b.marks; before = progress_text b.head b.marks }

-- the world of a machine and of such a batch
abbrev pub world_at : MachineState → BatchValue → World
world_at machine b = world_of machine (new_files b)

-- the settings have the machine's pool alone, each blob there has its bytes, and what is saved of the batch is a progress of it
pub record IsReady (settings : Settings) (machine : MachineState) (files : SavedBatch) : Type 0 where
  pub one : settings.pools ≡ machine.pool.settings ∷ []
  pub filled : AreFilled machine
  pub progress : AreProgress files
