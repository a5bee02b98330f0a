pub mod HeldLaws
pub mod JudgedLaws
pub mod LookLaws
pub mod MarkLaws
pub mod TurnLaws
pub mod WalkLaws
