pub mod FiguresRight
pub mod Theorems
