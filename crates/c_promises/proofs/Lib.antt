pub mod WeekOrder
pub mod NodeRead
pub mod ThreeSets
pub mod Theorems
