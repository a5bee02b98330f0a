pub mod CrossLaws
pub mod NodeOnce
pub mod IndexOnce
pub mod Theorems
