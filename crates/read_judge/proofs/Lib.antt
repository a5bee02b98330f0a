pub mod JudgeLaws
pub mod NeedLaws
