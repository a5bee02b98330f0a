-- What the code answers of a text from a line's start on, by what `reading` says of it.
pub mod Cuts
pub mod Lines
pub mod Quick
pub mod Leads
