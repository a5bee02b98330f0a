-- What the code says of records.
pub mod Records
