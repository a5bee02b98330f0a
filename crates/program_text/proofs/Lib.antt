mod PrintedLaws
pub mod Exactly
pub mod Said
pub mod Theorems
