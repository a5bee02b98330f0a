-- What a line of the header does, by what `reading` says of it.
pub mod Step
