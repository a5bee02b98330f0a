pub mod OpenedLaws
pub mod PastLaws
