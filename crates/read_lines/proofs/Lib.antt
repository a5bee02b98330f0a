pub mod Passing
pub mod Firsts
pub mod Nearby
pub mod Parts
pub mod QuickLines
pub mod Reaching
