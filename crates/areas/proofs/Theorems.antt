-- The theorems told of the map set against its six lists.
pub use Rattle.areas.proofs.Scanned.{scan_leaves}
pub use Rattle.areas.proofs.ValidFormed.{areas_once}
