pub mod CallOutcomes
