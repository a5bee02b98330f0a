pub mod FairLaws
pub mod TurnLaws
