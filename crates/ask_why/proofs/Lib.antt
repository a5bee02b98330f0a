pub mod CauseOrder
pub mod NodeList
pub mod Once
pub mod Order
pub mod Sample
pub mod Shown
pub mod WhyLaws
pub mod Theorems
