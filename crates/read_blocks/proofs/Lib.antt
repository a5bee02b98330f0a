pub mod BlockLaws
pub mod RunLaws
