pub mod AskDelayLaws
pub mod Once
pub mod Theorems
