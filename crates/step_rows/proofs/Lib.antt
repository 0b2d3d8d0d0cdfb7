pub mod LabelTable
pub mod StepRows
