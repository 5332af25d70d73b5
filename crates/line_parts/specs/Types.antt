-- The types that the modules of the crate speak of.
pub use Rattle.dimensions.specs.declared.bot_dims.BotDims.{BotDims}
pub use Rattle.dimensions.specs.declared.dim_set.DimSet.{DimSet}
pub use Rattle.dimensions.specs.declared.text.Text.{Text}
pub use Rattle.swarm_model.specs.declared.attempt.Chunk.{Chunk}
pub use Rattle.swarm_model.specs.declared.attempt.Last.{Last}
pub use Rattle.swarm_model.specs.declared.entry.EventKind.{EventKind}
pub use Rattle.swarm_model.specs.declared.entry.Outcome.{Outcome}
pub use Rattle.swarm_model.specs.declared.task_state.TaskState.{TaskState}
pub use Rattle.task_props.specs.declared.cache.Cache.{Cache}
pub use Rattle.task_props.specs.declared.file.File.{File}
pub use Rattle.task_props.specs.declared.new_task.NewTask.{NewTask}
pub use Rattle.task_props.specs.declared.properties.Properties.{Properties}
pub use Rattle.task_props.specs.declared.slice.Slice.{Slice}
