pub mod BiasedLaws
pub mod Numbers
pub mod Once
pub mod Theorems
