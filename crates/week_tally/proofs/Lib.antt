pub mod GatheredLaws
pub mod Orders
pub mod ExtremeLaws
pub mod FigureLaws
pub mod SeenLaws
pub mod Vectors
pub mod Theorems
