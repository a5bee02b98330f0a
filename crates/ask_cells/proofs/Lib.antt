pub mod EarthLaws
pub mod PlaceLaws
pub mod Theorems
