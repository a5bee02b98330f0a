-- The theorems told of explaining as it crosses.
pub use Rattle.c_why.proofs.ExplainOnce.{ionex_explain_once}
pub use Rattle.c_why.proofs.Vectors.{nodes_in_numbers, lacking_in_numbers}
