pub mod SheetOutcomes
