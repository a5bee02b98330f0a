pub mod RoundLaws
pub mod Theorems
