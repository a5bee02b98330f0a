-- Two map sets joined into lent areas: what the code's parts ask for and answer.
pub mod Joined
pub mod Contract
