pub mod StoreLaws
pub mod Needed
pub mod Once
pub mod Wrong
pub mod Theorems
