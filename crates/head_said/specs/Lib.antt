-- What the code answers of a record, by what `reading` says of it; the tables of the records.
pub mod Records
pub mod Tables
