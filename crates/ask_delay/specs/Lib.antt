pub mod AskDelay
