-- The root of the laws that the functions' proofs cite.
pub mod LineLaws
pub mod ShownLaws
pub mod BlockLaws
pub mod Bounds
pub mod PutLaws
