-- A week as it crosses to other languages.
pub mod WeekNumbers
pub mod WeekExported
