-- Calls of the exported functions one after the other, each by its contract: what a promise on several calls is stated of.
pub mod WeekCalls
pub mod JoinCalls
