pub mod LabelRows
pub mod StepRows
