pub mod TextForm
