pub mod BlockLaws
pub mod SlotLaws
