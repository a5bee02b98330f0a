pub mod LineLaws
mod DigitLaws
mod ReasonLaws
