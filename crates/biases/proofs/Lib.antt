pub mod Exact
pub mod Fine
pub mod Laws
pub mod Refusals
pub mod Vectors
pub mod Theorems
