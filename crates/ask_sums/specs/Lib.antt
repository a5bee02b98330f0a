-- The nodes of a question: their weights and sum.
pub mod Mean
pub mod Sums
