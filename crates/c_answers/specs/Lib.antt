-- What crosses to other languages.
pub mod Own
pub mod ReadExported
pub mod NeedsExported
pub mod WriteExported
pub mod AskExported
pub mod AskAllExported
pub mod DelayExported
pub mod MoveExported
pub mod JoinExported
