-- What was got of a header so far, by what `reading` says of it.
pub mod Got
