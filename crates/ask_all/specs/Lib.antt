-- Many questions in one call.
pub mod AskAll
pub mod Filling
