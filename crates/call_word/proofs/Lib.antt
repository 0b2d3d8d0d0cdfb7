pub mod WordOutcomes
