-- The types that the modules of the crate speak of.
pub use Rattle.dimensions.specs.declared.text.Text.{Text}
pub use Rattle.task_props.specs.declared.cache.Cache.{Cache}
pub use Rattle.task_props.specs.declared.file.File.{File}
pub use Rattle.task_props.specs.declared.new_task.NewTask.{NewTask}
pub use Rattle.task_props.specs.declared.prop_rule.PropRule.{PropRule}
pub use Rattle.task_props.specs.declared.prop_rule.PropRule.TheVariants.{Alternative, Count, Grammar, Id, Missing, Pool, Range, Repeated, Unknown, WrongType}
pub use Rattle.task_props.specs.declared.properties.Properties.{Properties}
pub use Rattle.task_props.specs.declared.slice.Slice.{Slice}
pub use Rattle.task_props.specs.declared.task_field.SliceField.{SliceField}
