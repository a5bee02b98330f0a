pub mod DescribedLaws
pub mod JudgedLaws
pub mod SoundLaws
pub mod Groups
pub mod FirstLaws
