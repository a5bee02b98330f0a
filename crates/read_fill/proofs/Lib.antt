pub mod FeedLaws
pub mod StepLaws
pub mod BlockLaws
pub mod EventLaws
pub mod Going
pub mod Whole
