pub mod Sets
pub mod Permutations
pub mod Pick
pub mod Single
