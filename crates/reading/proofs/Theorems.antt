-- The theorems told of the reading: exact both ways, and its refusals.
pub use Rattle.reading.proofs.Misplaced.{misplaced_readings, disagreeing_readings}
pub use Rattle.reading.proofs.Readings.{size_fits, size_too_big, accepted_readings, refused_readings, header_edges}
pub use Rattle.reading.proofs.Exact.{made_once, reads_exactly, refused_unmade}
pub use Rattle.reading.proofs.FaultLaws.{refusals, over_long, not_printable, first_bad, ten, ten_at}
pub use Rattle.reading.proofs.Vectors.{described_read, eight_before_seven, bare_read, no_digit, versions_read}
pub use Rattle.reading.proofs.LineLaws.{split_of}
