pub mod RangeLaws
pub mod WeekLaws
pub mod WeekOnce
pub mod Back
pub mod Vectors
pub mod Theorems
