pub mod Goal
pub mod Unmet
pub mod Concludes
pub mod Claims
pub mod Judgement
pub mod JudgementOrder
