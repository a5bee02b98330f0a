-- The root of the laws that the functions' proofs cite.
pub mod Laws
