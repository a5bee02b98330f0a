-- The theorems told of remarks.
pub use Rattle.remarks.proofs.Border.{biases_differ, bias_remarked, biases_told}
pub use Rattle.remarks.proofs.Pairs.{remarked, not_same}
pub use Rattle.remarks.proofs.MapPairs.{remarked_in_maps, not_same_in_maps}
pub use Rattle.remarks.proofs.Accepted.{accepted_comment, other_comment}
pub use Rattle.remarks.proofs.Nothing.{nothing_from_remarks, nothing_in_areas, nothing_to_callers, nothing_crosses, nothing_needed, nothing_crosses_needed, nothing_in_index, nothing_to_indexes, nothing_crosses_index}
