pub mod GridLaws
pub mod TimeLaws
