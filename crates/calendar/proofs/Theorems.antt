-- The theorems told of dates and their seconds.
pub use Rattle.calendar.proofs.DateLaws.{exactly_one}
pub use Rattle.calendar.proofs.Once.{moved_once, first_wrong_once, seconds_once, at_second_once, take_once}
