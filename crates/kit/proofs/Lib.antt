-- The root of the laws that the functions' proofs cite.
pub mod Signed
pub mod AnswerLaws
pub mod ListLaws
pub mod TruthLaws
pub mod IntegerLaws
pub mod Parts
pub mod Order
pub mod LesserLaws
pub mod SetLaws
