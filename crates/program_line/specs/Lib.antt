-- The one-line answers.
pub mod Lines
